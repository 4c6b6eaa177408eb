use Rattle.std.proofs.Common.{◌≡◌, ◌+◌, map, length, take}
use Rattle.catalogue.specs.Writing.{over_from, records_of}
use Rattle.catalogue.proofs.standing.write_records.Given as goal

-- the records so far are written
abbrev pub invariant-loop-entry : goal.invariant-loop-entry
invariant-loop-entry g l =
    (l.place ≡ l.at + length (records_of l.kind (map g.S.Standing.pair (take l.entry-index l.standing))))
    × (l.buffer ≡ over_from l.at (records_of l.kind (map g.S.Standing.pair (take l.entry-index l.standing))) l.fn.buffer)
