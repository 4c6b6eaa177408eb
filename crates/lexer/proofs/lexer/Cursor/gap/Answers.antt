use Rattle.std.proofs.Common.{◌≡◌, true, None, sym, refl, ◌∙◌, subst}
use Rattle.std.proofs.Math.Path.{subst₂}
use Rattle.patterns.specs.Grammar.{gap_allowed}
use Rattle.patterns.specs.Patterns as item
use Rattle.patterns.specs.Reader.{between, digits}
use Rattle.patterns.specs.Reader.{least as lower}
use Rattle.lexer.specs.Scanning.{Completes, CompletesGap}
use Rattle.lexer.specs.Tokens.{gap, position_in}
use Rattle.lexer.specs.declared.lexer.Cursor.{Cursor}
use Rattle.lexer.specs.declared.token.Gap.{Gap}
use Rattle.lexer.proofs.Cursors.{At, passed_at}
use Rattle.lexer.proofs.Lexing.{star_done, gap_opens}
use Rattle.lexer.proofs.lexer.Cursor.gap.Goals as goal
use Rattle.lexer.proofs.lexer.Cursor.gap.Goals.{in-Some, in_default+in_ok-require+in_ok-found}

pub returns : goal.returns
returns g c =
    let a = g.K.Kind.alphabet in
    let law = g.met.K.Kind.lawful in
    let t = c.args.self.text.now in
    let place = c.args.self.place in
    let p = position_in c.args.position in
    let allowed : gap_allowed p ≡ true = sym c.if-not-gap_allowed.ensures in
    let here : At t place c.args.self = record { text = refl; place = refl } in
    let Found : Gap × Cursor → Type 0 = λ x. (x.1.text.now ≡ t) × Completes a t (between p) place (item.gap x.0.least x.0.most) x.1.place in
    let found : Found c.match-past.found =
    elim c.match-past.branch [
      | in-Some w ↦
          let star = passed_at 42 w.in-Some.later here w.in-Some.ensures in
          let least : Found (record { least = 0; most = None }, w.in-Some.later) = (
            star.1.text,
            subst (Completes a t (between p) place (item.gap 0 None)) (sym star.1.place) (star_done a law t p place allowed star.0),
          ) in
          subst Found (sym w.found-is) least
      | in_default+in_ok-require+in_ok-found w ↦
          let brace = passed_at 123 w.in_ok-require.field-0 here w.in_ok-require.ensures in
          let r = w.in_ok-found.found in
          let h = w.in_ok-found.ensures in
          let numbers = subst₂ (λ l n. CompletesGap a l (digits lower 0 0) n (r.0, r.1.place)) brace.1.text brace.1.place h.1 in
          let read : Found r = (h.0 ∙ brace.1.text, gap_opens a law t p place allowed brace.0 ∙ numbers.2) in
          subst Found (sym w.found-is) read
    ] in
    (found.0, (item.gap c.match-past.found.0.least c.match-past.found.0.most, c.match-past.found.1.place, found.1, (λ i. gap (record { place = place; text = c.text_to-spelling.ensures i }) c.match-past.found.0.least c.match-past.found.0.most), refl))
