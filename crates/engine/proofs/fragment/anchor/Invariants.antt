use Rattle.std.proofs.Common.{ℕ, ◌≤◌, List}
use Rattle.engine.specs.Compiling.{part_items}
use Rattle.engine.specs.declared.pattern.Run.{Run}
use Rattle.engine.proofs.Anchoring.{Searching}
use Rattle.engine.proofs.fragment.anchor.Given as goal

-- the best run so far, and the run that goes on
abbrev pub invariant-loop-i : goal.invariant-loop-i
invariant-loop-i l = (l.start ≤ l.i) × ((codes : List ℕ) (runs : List Run) → Searching l.reference (part_items codes runs l.parts) l.start l.i l.best)
