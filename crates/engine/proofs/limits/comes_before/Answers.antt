use Rattle.std.proofs.Common.{◌≡◌, sym, refl, ap, ◌∙◌}
use Rattle.std.specs.Cmp.Lexicographic.{slice_cmp}
use Rattle.std.specs.Ordering.{nat_cmp}
use Rattle.std.proofs.lemmas.Iterator.{YieldsList-from_slice}
use Rattle.std.proofs.lemmas.Iterator.Adapters.{YieldsList-from_rev_slice}
use Rattle.std.proofs.lemmas.Iterator.Search.{cmp_from_yields_List}
use Rattle.patterns.specs.Patterns.{compared}
use Rattle.engine.proofs.Runs.{strictly_is, before_strictly}
use Rattle.engine.proofs.limits.comes_before.Goals as goal
use Rattle.engine.proofs.limits.comes_before.Goals.{in-FirstOn, in-LastOn}

pub returns-then-low-high : goal.returns-then-low-high
returns-then-low-high c =
    let d = c.args.direction in
    let low = c.args.low.now in
    let high = c.args.high.now in
    let order : c.match-direction.order ≡ slice_cmp nat_cmp (compared d low) (compared d high) =
    elim c.match-direction.branch [
      | in-FirstOn w ↦
          w.order-is ∙ cmp_from_yields_List (λ x y. y ≡ x) _ nat_cmp _ w.cmp-order.ensures.ran (YieldsList-from_slice low cc) (λ it e. YieldsList-from_slice high cc) (λ x y. refl)
          ∙ ap (λ e. slice_cmp nat_cmp (compared e low) (compared e high)) (sym w.in-FirstOn.is)
      | in-LastOn w ↦
          w.order-is ∙ cmp_from_yields_List (λ x y. y ≡ x) _ nat_cmp _ w.cmp-order-in-LastOn.ensures.ran (YieldsList-from_rev_slice low cc) (λ it e. YieldsList-from_rev_slice high cc) (λ x y. refl)
          ∙ ap (λ e. slice_cmp nat_cmp (compared e low) (compared e high)) (sym w.in-LastOn.is)
    ] in
    c.is_lt.ensures ∙ strictly_is (compared d low) (compared d high) c.match-direction.order order ∙ before_strictly d low high c.if-low-high.true
