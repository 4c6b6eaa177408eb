use Rattle.std.proofs.Common.{◌+◌, ◌-◌, ◌≤◌, [], length, drop}
use Rattle.patterns.specs.Fragments.{cut_from, fragments}
use Rattle.engine.specs.Reading.{held}
use Rattle.engine.proofs.Assembling.{Completes}
use Rattle.engine.proofs.pattern.Pattern.fragments.Given as goal

-- the fragments of what is left complete those that were compiled, and there is room for all
abbrev pub invariant-loop-start : goal.invariant-loop-start
invariant-loop-start l =
    (l.first ≤ length l.parts)
    × Completes l.reference (held l.self) l.first l.break_before l.fragments.items (fragments l.lo (held l.self))
    × (length l.fragments.items + length (cut_from l.break_before [] [] (drop l.first (held l.self))) ≤ 8)

abbrev pub decreases-loop-start : goal.decreases-loop-start
decreases-loop-start l = length l.parts - l.first
