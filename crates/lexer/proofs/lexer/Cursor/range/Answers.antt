use Rattle.std.proofs.Common.{◌∙◌}
use Rattle.std.proofs.lemmas.Result.{MatchResult-weaker}
use Rattle.lexer.proofs.Lexing.{bracket_inside}
use Rattle.lexer.proofs.lexer.Cursor.range.Goals as goal

pub returns-in-None : goal.returns-in-None
returns-in-None g c =
    let first = bracket_inside g.K.Kind.alphabet g.met.K.Kind.lawful c.args.self.text.now c.args.self.place c.in-None.ensures in
    MatchResult-weaker c.bounds-in-None.result c.bounds-in-None.ensures
    (λ x h. (h.0, (h.1.0, h.1.1, (h.1.2.0, first ∙ h.1.2.1, h.1.2.2))))
    (λ stop h. first ∙ h)
