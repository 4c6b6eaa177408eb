use Rattle.std.proofs.Common.{◌≡◌, ◌-◌}
use Rattle.arrayvec.specs.ArrayVec.{array_vec_len}
use Rattle.records.specs.Reading.{sequences_at}
use Rattle.records.specs.Taken.{rest_in, sequences_in}
use Rattle.records.proofs.Loops.{with_front}
use Rattle.records.proofs.signature.sequences.Given as goal

-- as many are there as were read, and they and what is still read are all
abbrev pub invariant-loop : goal.invariant-loop
invariant-loop l =
    (array_vec_len l.sequences ≡ l.counter) × (with_front (sequences_in l.sequences.items) (sequences_at (l.count - l.counter) (rest_in l.rest)) ≡ sequences_at l.count (rest_in l.fn.rest))
