use Rattle.std.proofs.Common.{◌≡◌, ◌≤◌, drop}
use Rattle.engine.specs.Reading.{held}
use Rattle.engine.specs.Stored.{items}
use Rattle.engine.specs.Tallies.{initial, tallied}
use Rattle.engine.proofs.pattern.Pattern.tally.Given as goal

-- the parts that are left give what all give
abbrev pub invariant-loop-part : goal.invariant-loop-part
invariant-loop-part l =
    (tallied l.tally (items l.self.codes.items l.self.runs.items (drop l.part-index l.part-items)) ≡ tallied initial (held l.self))
    × (l.tally.ended ≤ l.part-index)
