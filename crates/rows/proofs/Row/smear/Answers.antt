-- Moved on by 0 to n, and that moved on by at most n + 1 more.
use Rattle.std.proofs.Common.{◌≡◌, ◌&&◌, ltb, refl, ap, ◌∙◌, arith}
use Rattle.rows.specs.Rows.{some_distance}
use Rattle.rows.proofs.Distances.{smear_none, smear_more, smear_short}
use Rattle.rows.proofs.Members.{same_members}
use Rattle.rows.proofs.Row.smear.Goals as goal

pub loop-done-init : goal.loop-done-init
loop-done-init c = (omega arith, c.min-self.ensures, smear_none c.args.self.now _ refl)

pub loop-done-preserved : goal.loop-done-preserved
loop-done-preserved c =
    let row = c.args.self.now in
    let all = c.loop-done.self in
    let done = c.loop-done.done in
    let step = c.min-step.result in
    let end = c.loop-done.invariant.1 in
    let moved_on = c.loop-done.invariant.2 in (
      omega arith,
      c.union_moved.ensures.used ∙ end,
      smear_more row all c.union_moved.new.self done step (omega arith) moved_on
          (λ j. c.union_moved.ensures.added j ∙ smear_short row all c.args.reach done step all.used (omega arith) moved_on end j),
    )

pub returns : goal.returns
returns c j =
    let e : c.loop-done.done ≡ c.args.reach = omega arith in
    same_members c.trim.new.self c.loop-done.self c.trim.ensures.words j
    ∙ c.loop-done.invariant.2 j ∙ ap (λ n. ltb j 1024 && some_distance c.args.self.now 0 n j) e
