use Rattle.std.proofs.Common.{◌≡◌, ℕ, ◌+◌, Some, sym, ◌∙◌, subst}
use Rattle.std.proofs.Math.Path.{subst₂}
use Rattle.std.proofs.lemmas.Result.{MatchResult-weaker, err_from_is_err_and}
use Rattle.patterns.specs.Patterns.{gap}
use Rattle.patterns.specs.Reader.{digits}
use Rattle.patterns.specs.Reader.{least as lower, most as upper}
use Rattle.lexer.specs.Scanning.{Stops}
use Rattle.lexer.proofs.Gaps.{CompletesAt, least_stops, one_number, dash_completes, dash_stops}
use Rattle.lexer.proofs.lexer.Cursor.braces.Goals as goal

pub returns-in-Some : goal.returns-in-Some
returns-in-Some g c =
    let a = g.K.Kind.alphabet in
    let t = c.args.self.text.now in
    let found = c.in_ok-least.ensures in
    let dash = rw found.0 at c.in-Some.ensures.0 in
    let same : c.in-Some.upper.text.now ≡ t = c.in-Some.ensures.1 ∙ found.0 in
    let at : c.in-Some.upper.place ≡ c.in_ok-least.end.place + 1 = c.in-Some.ensures.2 in
    let upper_end = digits (upper c.in_ok-least.least) 0 0 in
    let number : ℕ × ℕ = (c.in_ok-least.least, c.in_ok-least.end.place) in
    MatchResult-weaker c.upper_end.result c.upper_end.ensures
    (λ x h. (
      h.0 ∙ same,
      dash_completes a t c.args.self.place number found.1 _ _ dash (subst₂ (λ l n. CompletesAt a l upper_end n (gap x.0.least x.0.most) x.1.place) same at h.1),
    ))
    (λ stop h. dash_stops a t c.args.self.place number found.1 stop.place dash (subst₂ (λ l n. Stops a l upper_end n stop.place) same at h))

pub returns-in_err-later : goal.returns-in_err-later
returns-in_err-later g c =
    let p = err_from_is_err_and c.from_residual-in_err-later.result c.from_residual-in_err-later.ensures.1 in
    let found = c.in_ok-least.ensures in
    let dash = rw found.0 at c.in_default.ensures in
    let h = rw found.0 at c.in_err-later.ensures in
    rw (p.1, p.2) (subst (Stops g.K.Kind.alphabet c.args.self.text.now (digits lower 0 0) c.args.self.place) (sym h.1) (least_stops g.K.Kind.alphabet c.args.self.text.now c.args.self.place (c.in_ok-least.least, c.in_ok-least.end.place) found.1 dash h.0))

pub returns : goal.returns
returns g c =
    let found = c.in_ok-least.ensures in
    let h = rw found.0 at c.in_ok-later.ensures in
    (h.1, subst (CompletesAt g.K.Kind.alphabet c.args.self.text.now (digits lower 0 0) c.args.self.place (gap c.in_ok-least.least (Some c.in_ok-least.least))) (sym h.2) (one_number g.K.Kind.alphabet c.args.self.text.now c.args.self.place (c.in_ok-least.least, c.in_ok-least.end.place) found.1 h.0))
