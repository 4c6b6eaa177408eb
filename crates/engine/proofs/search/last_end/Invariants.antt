use Rattle.patterns.specs.Codes.{codes_of}
use Rattle.engine.specs.Said.{HoldsAt}
use Rattle.engine.proofs.Searching.{ComeTo}
use Rattle.engine.proofs.search.last_end.Given as goal

-- the search has come to the fragment with this number
abbrev pub invariant-loop-number : goal.invariant-loop-number
invariant-loop-number g l =
    let at = g.F.Fragments.at l.fragments in
    let xs = codes_of g.R.Element.Kind.alphabet (g.R.Reading.elements l.reading) in
    (holds : HoldsAt l.sequence at) → ComeTo l.sequence at l.fn.starts xs holds l.number l.end
