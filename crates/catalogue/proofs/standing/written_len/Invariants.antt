use Rattle.std.proofs.Common.{◌≡◌, ℕ, ◌*◌, ◌≤◌, map, length, take}
use Rattle.catalogue.specs.Writing.{records_of}
use Rattle.catalogue.proofs.standing.written_len.Given as goal

-- the records so far, of which each has at most 832 bytes
abbrev pub invariant-loop-entry : goal.invariant-loop-entry
invariant-loop-entry g l =
    ((kind : ℕ) → l.len ≡ length (records_of kind (map g.S.Standing.pair (take l.entry-index l.standing))))
    × (l.len ≤ 832 * l.entry-index)
