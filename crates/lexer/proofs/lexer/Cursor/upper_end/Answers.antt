use Rattle.std.proofs.Common.{◌≡◌, ℕ, None, Option, sym, subst}
use Rattle.std.proofs.lemmas.Result.{err_from_is_err_and}
use Rattle.patterns.specs.Patterns.{gap}
use Rattle.patterns.specs.Reader.{digits}
use Rattle.patterns.specs.Reader.{most as upper}
use Rattle.lexer.specs.Scanning.{Stops}
use Rattle.lexer.specs.declared.lexer.Cursor.{Cursor}
use Rattle.lexer.proofs.Gaps.{CompletesAt, UpperEnd, star_end, number_end}
use Rattle.lexer.proofs.lexer.Cursor.upper_end.Given as given
use Rattle.lexer.proofs.lexer.Cursor.upper_end.Goals as goal
use Rattle.lexer.proofs.lexer.Cursor.upper_end.Goals.{Joined-past, in-Some, in_default+in_ok-most}

-- the upper end, a star or a number, whichever stood there, with the cursor behind it
found : (g : given.Over) (c : Joined-past g) → (c.match-past.most.1.text.now ≡ c.args.self.text.now) × UpperEnd g.K.Kind.alphabet c.args.self.text.now c.args.least c.args.self.place (c.match-past.most.0, c.match-past.most.1.place)
found g c =
    let a = g.K.Kind.alphabet in
    let t = c.args.self.text.now in
    let at = c.args.self.place in
    let Found : Option ℕ × Cursor → Type 0 = λ x. (x.1.text.now ≡ t) × UpperEnd a t c.args.least at (x.0, x.1.place) in
    elim c.match-past.branch [
      | in-Some w ↦
          let star : Found (None, w.in-Some.end) = (
            w.in-Some.ensures.1,
            subst (λ n. UpperEnd a t c.args.least at (None, n)) (sym w.in-Some.ensures.2) (star_end a t c.args.least at w.in-Some.ensures.0),
          ) in
          subst Found (sym w.most-is) star
      | in_default+in_ok-most w ↦
          subst Found (sym w.most-is) (w.in_ok-most.ensures.0, number_end a t c.args.least at (w.in_ok-most.most, w.in_ok-most.end.place) w.in_ok-most.ensures.1)
    ]

pub returns-in_err-later : goal.returns-in_err-later
returns-in_err-later g c =
    let p = err_from_is_err_and c.from_residual-in_err-later.result c.from_residual-in_err-later.ensures.1 in
    let end = found g (goal.at.returns-in_err-later g c).Joined-past in
    let h = rw end.0 at c.in_err-later.ensures in
    rw (p.1, p.2) (subst (Stops g.K.Kind.alphabet c.args.self.text.now (digits (upper c.args.least) 0 0) c.args.self.place) (sym h.1) (end.1.none h.0))

pub returns : goal.returns
returns g c =
    let end = found g (goal.at.returns g c).Joined-past in
    let h = rw end.0 at c.in_ok-later.ensures in
    (h.1, subst (CompletesAt g.K.Kind.alphabet c.args.self.text.now (digits (upper c.args.least) 0 0) c.args.self.place (gap c.args.least c.match-past.most.0)) (sym h.2) (end.1.brace h.0))
