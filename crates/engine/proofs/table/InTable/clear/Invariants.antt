use Rattle.std.proofs.Common.{◌≡◌}
use Rattle.engine.specs.Tables.{cleared}
use Rattle.engine.proofs.table.InTable.clear.Given as goal

-- with what is left freed, it is the table with all freed
abbrev pub invariant-loop-slot : goal.invariant-loop-slot
invariant-loop-slot g l = cleared l.table l.slot-iterator.rest.now ≡ cleared l.fn.table l.fn.self.slots
