-- Each place in turn gives one element more, and a push into room that was reserved is never refused.
use Rattle.std.proofs.Common.{◌≡◌, ◌≤◌, ◌++◌, length, take, Some, take_all, sym, ap, ◌∙◌, arith}
use Rattle.std.proofs.lemmas.Grind.{common_steps}
use Rattle.std.specs.List.{slice_get}
use Rattle.kinds.proofs.Places.{copied_more, nth_none}
use Rattle.kinds.proofs.reading.copy_elements.Goals as goal
use Rattle.kinds.proofs.reading.copy_elements.Goals.{in-Some+in_ok-push, in_default}

pub loop-place-init : goal.loop-place-init
loop-place-init g c = record { copied = grind (arith, common_steps); len = grind (arith, common_steps); room = grind (arith, common_steps) }

pub returns-in_err-push : goal.returns-in_err-push
returns-in_err-push g c = absurd (grind (arith, common_steps))

pub loop-place-preserved : goal.loop-place-preserved
loop-place-preserved g c =
    let xs = g.R.Reading.elements c.args.reading.now in
    let place = c.loop-place.place in
    let so_far = c.loop-place.invariant in
    elim c.match-at.branch [
      | in-Some+in_ok-push w ↦
          let pushed = w.in_ok-push.ensures in
          let found : slice_get xs place ≡ Some w.in-Some.x = sym c.at.ensures ∙ w.in-Some.is in
          rw w.list-is (
          record {
            copied = pushed.items ∙ copied_more _ _ xs place w.in-Some.x so_far.copied found;
            len = grind (arith, common_steps, so_far.len);
            room = omega (arith, so_far.room, pushed.capacity);
          })
      | in_default w ↦ absurd (let far : length xs ≤ place = nth_none xs place (grind (arith, common_steps)) in omega arith)
    ]

pub returns-clause-ok : goal.returns-clause-ok
returns-clause-ok g c =
    let xs = g.R.Reading.elements c.args.reading.now in
    let all : take c.loop-place.place xs ≡ xs = take_all _ xs (omega arith) in
    c.loop-place.invariant.copied ∙ ap (λ l. c.args.list.now.items ++ l) all
