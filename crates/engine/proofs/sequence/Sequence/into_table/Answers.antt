use Rattle.std.proofs.Common.{[], ◌∷◌, ◌++◌, length, set, Some, refl, sym, ap, ◌∙◌, subst, append_assoc, arith}
use Rattle.engine.specs.Said.{said}
use Rattle.patterns.specs.Sequences.{parts_said}
use Rattle.engine.specs.Tables.{Moved, Slotted}
use Rattle.engine.proofs.Shows.{counted}
use Rattle.engine.proofs.Tables.{Filling, filling_push, moved}
use Rattle.engine.proofs.sequence.Sequence.into_table.Goals as goal

pub returns-then-free_count-len : goal.returns-then-free_count-len
returns-then-free_count-len g c =
    let s = c.self.inside in
    let count = c.len.ensures.value ∙ counted s.oriented s.fragments.items c.self.invariant ∙ ap (λ v. length (parts_said v)) c.self.view_is in
    (omega (arith, count, c.free_count.ensures), refl, refl)

pub loop-fragment-preserved : goal.loop-fragment-preserved
loop-fragment-preserved g c =
    let before = c.args.table.now in
    let so_far = c.loop-fragment.yielded in
    let x = c.in-Some.fragment in
    let put = filling_push before so_far c.loop-fragment.table c.loop-fragment.slots.items x c.fill.result c.loop-fragment.invariant.1 c.fill.ensures.first in (
      append_assoc so_far (x ∷ []) c.next.new.self ∙ ap (λ l. so_far ++ l) (sym c.in-Some.ensures.steps) ∙ c.loop-fragment.invariant.0,
      subst (λ t. Filling before (so_far ++ x ∷ []) t c.push.new.self.items) (sym c.fill.ensures.filled)
          (subst (λ l. Filling before (so_far ++ x ∷ []) (set c.loop-fragment.table c.fill.result (Some x)) l) (sym c.push.ensures.items) put),
    )

pub invariant_of-result : goal.invariant_of-result
invariant_of-result g c =
    let s = c.self.inside in
    let kept = c.loop-fragment.invariant in
    let all = kept.0 ∙ c.into_iter-fragment-iterator.ensures.into_iter_gives.0 in
    (moved s.oriented s.fragments.items c.self.invariant kept.1 all c.in-None.ensures.steps.0).stands.counted

pub returns : goal.returns
returns g c =
    let s = c.self.inside in
    let kept = c.loop-fragment.invariant in
    let all = kept.0 ∙ c.into_iter-fragment-iterator.ensures.into_iter_gives.0 in
    let in_table : Slotted = record { said = said s.oriented; slots = c.loop-fragment.slots.items } in
    subst (λ v. Moved v c.args.table.now c.loop-fragment.table in_table) c.self.view_is
    (moved s.oriented s.fragments.items c.self.invariant kept.1 all c.in-None.ensures.steps.0)
