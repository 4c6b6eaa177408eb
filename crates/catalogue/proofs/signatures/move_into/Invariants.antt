use Rattle.std.proofs.Common.{◌≡◌, ◌≤◌, ◌++◌, length}
use Rattle.engine.specs.Tables.{free_slots}
use Rattle.catalogue.specs.Entering.{fragment_total, MovedAll}
use Rattle.catalogue.proofs.signatures.move_into.Given as goal

-- the sequences so far are moved into the table, and there is room for those that are left
abbrev pub invariant-loop-sequence : goal.invariant-loop-sequence
invariant-loop-sequence g l =
    (l.yielded ++ l.sequence-iterator ≡ l.initial.sequence-iterator)
    × MovedAll l.yielded l.fn.table l.table l.moved.items
    × (fragment_total l.sequence-iterator ≤ length (free_slots l.table))
