use Rattle.std.proofs.Common.{◌-◌, ◌≤◌}
use Rattle.patterns.specs.Fragments as spec
use Rattle.patterns.specs.Fragments.{anchor, bodies}
use Rattle.patterns.specs.Codes.{codes_of}
use Rattle.engine.specs.Finding.{part_of}
use Rattle.engine.specs.Openings.{Known, OpeningOf}
use Rattle.engine.specs.Reading.{held}
use Rattle.engine.specs.Said.{Searches}
use Rattle.engine.proofs.Least.{Best}
use Rattle.engine.proofs.find.least_end.Given as goal

-- the least end through the places of the anchor so far, and how far the literal that the fragment begins with has been looked for
abbrev pub invariant-loop-fit : goal.invariant-loop-fit
invariant-loop-fit g l =
    ((f : spec.Fragment) → Searches l.sequence l.fragment f
    → Best (anchor l.sequence.reference (bodies f.body)) l.starts (codes_of g.R.Element.Kind.alphabet (g.R.Reading.elements l.reading)) l.place l.last l.best)
    × OpeningOf (part_of (held l.sequence.pattern) l.fragment.first l.fragment.anchor) l.opening
    × Known l.opening (codes_of g.R.Element.Kind.alphabet (g.R.Reading.elements l.reading))
    × (l.opening.next ≤ l.place)

-- how many places are left
abbrev pub decreases-loop-fit : goal.decreases-loop-fit
decreases-loop-fit g l = 4294967296 - l.place
