-- A shift by the least distance, then a smear over the rest.
use Rattle.std.proofs.Common.{◌≡◌, ℕ, ◌&&◌, ltb, sym, ap, ◌∙◌, arith}
use Rattle.std.proofs.lemmas.Bool.{and_right}
use Rattle.rows.specs.Rows.{member, moved}
use Rattle.rows.proofs.Distances.{moved_none, no_distance, spread_more}
use Rattle.rows.proofs.Row.widen.Goals as goal
use Rattle.rows.proofs.Row.widen.Goals.{then-least-gt0, else-least-gt0}

pub returns-in_default : goal.returns-in_default
returns-in_default c j =
    c.new.ensures j ∙ sym (and_right (ltb j 1024) _ (no_distance c.args.self.now c.args.least c.args.most j (omega (arith, c.in_default.ensures))))

pub returns : goal.returns
returns c =
    let row = c.args.self.now in
    let least = c.args.least in
    let on = c.if-least-gt0.self in
    let ons : (j : ℕ) → member on j ≡ (ltb j 1024 && moved row least j) =
    elim c.if-least-gt0.branch [
      | then-least-gt0 w ↦ λ j. ap (λ r. member r j) w.self-is ∙ w.shift.ensures j
      | else-least-gt0 w ↦ λ j.
          let none : 0 ≡ least = omega (arith, w.if-least-gt0.false) in
          ap (λ r. member r j) w.self-is ∙ moved_none row j ∙ ap (λ n. ltb j 1024 && moved row n j) none
    ] in
    spread_more row on c.smear.new.self least c.args.most c.min.result (omega (arith, c.in-Some.ensures)) (omega (arith, c.in-Some.ensures)) ons c.smear.ensures
