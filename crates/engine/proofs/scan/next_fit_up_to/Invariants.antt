use Rattle.std.proofs.Common.{◌≡◌, ◌+◌, ◌-◌, ◌≤◌, length}
use Rattle.patterns.specs.Search.{first_fit}
use Rattle.patterns.specs.Codes.{codes_of}
use Rattle.engine.specs.Codes.{ShiftsOf}
use Rattle.engine.proofs.scan.next_fit_up_to.Given as goal

-- the window stands no earlier than the search begins, and no place before its own is missed
abbrev pub invariant-loop-end : goal.invariant-loop-end
invariant-loop-end g l =
    let codes = codes_of g.R.Element.Kind.alphabet (g.R.Reading.elements l.reading) in
    (l.from + length l.anchor ≤ l.end) × (ShiftsOf l.shifts l.anchor → first_fit l.anchor codes (l.end - length l.anchor) ≡ first_fit l.anchor codes l.from)

abbrev pub decreases-loop-end : goal.decreases-loop-end
decreases-loop-end g l = l.last + l.width + 1 - l.end
