-- The elements before `place` stand behind what the list held, and there is room for the rest.
use Rattle.std.proofs.Common.{◌≡◌, ◌+◌, ◌≤◌, ◌++◌, take, vec_len}
use Rattle.std.specs.Vec.{vec_capacity}
use Rattle.kinds.proofs.reading.copy_elements.Given as goal

abbrev pub invariant-loop-place : goal.invariant-loop-place
invariant-loop-place g l =
    record {
      copied : l.list.items ≡ l.fn.list.items ++ take l.place (g.R.Reading.elements l.reading);
      len : vec_len l.list ≡ vec_len l.fn.list + l.place;
      room : vec_len l.fn.list + l.len ≤ vec_capacity l.list;
    }
