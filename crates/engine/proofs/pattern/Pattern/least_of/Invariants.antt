use Rattle.std.proofs.Common.{◌≡◌, ◌+◌, ◌*◌, ◌≤◌, drop}
use Rattle.patterns.specs.Fragments.{sum_least}
use Rattle.engine.specs.Compiling.{part_items}
use Rattle.engine.proofs.pattern.Pattern.least_of.Given as goal

-- the sum so far and what is left give the sum, and each part adds 16 bits at most
abbrev pub invariant-loop-placed : goal.invariant-loop-placed
invariant-loop-placed l =
    (l.total + sum_least (part_items l.self.codes.items l.self.runs.items (drop l.placed-index l.parts)) ≡ sum_least (part_items l.self.codes.items l.self.runs.items l.parts))
    × (l.total ≤ 65535 * l.placed-index)
