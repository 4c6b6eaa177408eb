use Rattle.std.proofs.Common.{◌+◌, ◌++◌, length, drop, sym, ap, ◌∙◌}
use Rattle.lexer.specs.Tokens.{written, lexeme_of, position_in}
use Rattle.lexer.proofs.Tokens.{completes_takes}
use Rattle.lexer.proofs.lexer.Lexer.next.Goals as goal

pub returns-clause-moves : goal.returns-clause-moves
returns-clause-moves g c =
    let at = c.args.self.now.at in
    let h = c.in_ok-token.ensures.1 in
    let takes = completes_takes g.K.Kind.alphabet at.text.now at.place (position_in c.args.self.now.position) h.0 h.1 h.2 in
    h.4 ∙ takes.ends ∙ ap (λ l. at.place + length (written l)) (sym h.3)

pub returns-clause-written : goal.returns-clause-written
returns-clause-written g c =
    let at = c.args.self.now.at in
    let h = c.in_ok-token.ensures.1 in
    let takes = completes_takes g.K.Kind.alphabet at.text.now at.place (position_in c.args.self.now.position) h.0 h.1 h.2 in
    takes.cut
    ∙ ap (λ n. written (lexeme_of g.K.Kind.alphabet at.text.now at.place h.1 h.0) ++ drop n at.text.now) (sym h.4)
    ∙ ap (λ l. written l ++ drop c.in_ok-token.later.place at.text.now) (sym h.3)
