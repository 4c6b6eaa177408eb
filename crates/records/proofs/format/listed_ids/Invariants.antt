use Rattle.std.proofs.Common.{◌≡◌, ◌-◌, None}
use Rattle.arrayvec.specs.ArrayVec.{array_vec_len}
use Rattle.records.specs.Reading.{ids_from}
use Rattle.records.specs.Taken.{rest_in}
use Rattle.records.proofs.Loops.{with_front}
use Rattle.records.proofs.format.listed_ids.Given as goal

-- as many are there as were read, and they and what is still read are all
abbrev pub invariant-loop : goal.invariant-loop
invariant-loop l =
    (array_vec_len l.ids ≡ l.counter) × (with_front l.ids.items (ids_from l.bound l.before (l.count - l.counter) (rest_in l.rest)) ≡ ids_from l.bound None l.count (rest_in l.fn.rest))
