use Rattle.std.proofs.Common.{◌≡◌, true, take}
use Rattle.std.specs.List.{list_all}
use Rattle.patterns.specs.Codes.{codes_of}
use Rattle.catalogue.specs.Hitting.{hits_among}
use Rattle.catalogue.proofs.signatures.StandingSignature.part_hits.Given as goal

-- those so far hit, or are passed over
abbrev pub invariant-loop-sequence : goal.invariant-loop-sequence
invariant-loop-sequence g l =
    list_all (hits_among l.offsets (codes_of g.K.Kind.alphabet (g.R.Reading.elements l.reading))) (take l.sequence-index l.sequence-items) ≡ true
