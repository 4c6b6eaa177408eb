-- How far it is so far and how far what is left spans give how far it is in all.
use Rattle.std.proofs.Common.{◌≡◌, ◌+◌, ◌≤◌, min, drop}
use Rattle.patterns.specs.Spans.{sum_span}
use Rattle.engine.specs.Parts.{items_in}
use Rattle.engine.proofs.opening.far_of.Given as goal

abbrev pub invariant-loop-placed : goal.invariant-loop-placed
invariant-loop-placed l =
    (l.far ≤ 1023)
    × (min 1023 (l.far + sum_span (items_in l.pattern (drop l.placed-index l.parts))) ≡ min 1023 (sum_span (items_in l.pattern l.parts)))
