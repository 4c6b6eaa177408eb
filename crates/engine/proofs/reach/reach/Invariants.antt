use Rattle.std.proofs.Common.{take}
use Rattle.patterns.specs.Fragments.{bodies}
use Rattle.patterns.specs.Codes.{codes_of}
use Rattle.engine.specs.Finding.{Reached}
use Rattle.engine.specs.Stored.{items}
use Rattle.engine.proofs.reach.reach.Given as goal

-- the parts so far have been gone through
abbrev pub invariant-loop-placed : goal.invariant-loop-placed
invariant-loop-placed g l =
    Reached (bodies (items l.pattern.codes.items l.pattern.runs.items (take l.placed-index l.placed-items))) (codes_of g.R.Element.Kind.alphabet (g.R.Reading.elements l.reading)) l.row
