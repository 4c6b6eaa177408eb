use Rattle.std.proofs.Common.{ℕ, ◌*◌, ◌≤◌, List}
use Rattle.engine.specs.Stored.{items}
use Rattle.engine.specs.declared.pattern.Run.{Run}
use Rattle.engine.proofs.Cutting.{Cutting}
use Rattle.engine.proofs.fragment.cut_first.Given as goal

-- the body so far, and the spacing behind it, of which each adds 16 bits at most
abbrev pub invariant-loop-i : goal.invariant-loop-i
invariant-loop-i l =
    ((codes : List ℕ) (runs : List Run) → Cutting (items codes runs l.parts) l.end l.i l.endless l.between) × (l.between ≤ 65535 * l.i)
