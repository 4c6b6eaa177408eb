use Rattle.std.proofs.Common.{◌≡◌, ◌-◌}
use Rattle.arrayvec.specs.ArrayVec.{array_vec_len}
use Rattle.records.specs.Reading.{labels_from}
use Rattle.records.specs.Taken.{rest_in, labels_in}
use Rattle.records.proofs.Loops.{with_front}
use Rattle.records.proofs.format.listed_labels.Given as goal

-- as many are there as were read, and they and what is still read are all
abbrev pub invariant-loop : goal.invariant-loop
invariant-loop l =
    (array_vec_len l.labels ≡ l.counter) × (with_front (labels_in l.labels.items) (labels_from (l.count - l.counter) (rest_in l.rest)) ≡ labels_from l.count (rest_in l.fn.rest))
