use Rattle.std.proofs.Common.{◌≡◌}
use Rattle.std.specs.List.{flat_map}
use Rattle.engine.specs.Tables.{cleared}
use Rattle.catalogue.specs.Standing.{slots_in}
use Rattle.catalogue.proofs.signatures.clear_all.Given as goal

-- with the slots of those that are left freed, it is the table with all freed
abbrev pub invariant-loop-sequence : goal.invariant-loop-sequence
invariant-loop-sequence g l =
    cleared l.table (flat_map slots_in l.sequence-iterator) ≡ cleared l.fn.table (flat_map slots_in l.initial.sequence-iterator)
