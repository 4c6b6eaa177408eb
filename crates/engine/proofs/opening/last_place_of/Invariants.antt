-- The code stands at no place from `place` on.
use Rattle.patterns.specs.Codes.{codes_of}
use Rattle.engine.specs.Openings.{NoneOf}
use Rattle.engine.proofs.opening.last_place_of.Given as goal

abbrev pub invariant-loop-place : goal.invariant-loop-place
invariant-loop-place g l = NoneOf l.code (codes_of g.R.Element.Kind.alphabet (g.R.Reading.elements l.reading)) l.place l.to
