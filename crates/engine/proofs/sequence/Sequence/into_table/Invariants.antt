use Rattle.std.proofs.Common.{◌≡◌, ◌++◌}
use Rattle.engine.proofs.Tables.{Filling}
use Rattle.engine.proofs.sequence.Sequence.into_table.Given as goal

-- the fragments so far have been put into the first free slots
abbrev pub invariant-loop-fragment : goal.invariant-loop-fragment
invariant-loop-fragment g l = (l.yielded ++ l.fragment-iterator ≡ l.initial.fragment-iterator) × Filling l.fn.table l.yielded l.table l.slots.items
