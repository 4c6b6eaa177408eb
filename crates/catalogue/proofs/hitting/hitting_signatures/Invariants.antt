use Rattle.std.proofs.Common.{◌≡◌, ◌≤◌, map, take}
use Rattle.std.specs.List.{filter}
use Rattle.arrayvec.specs.ArrayVec.{array_vec_len}
use Rattle.patterns.specs.Codes.{codes_of}
use Rattle.catalogue.specs.Hitting.{hitting_of, standing_hits}
use Rattle.catalogue.proofs.hitting.hitting_signatures.Given as goal

-- those among the signatures so far that hit
abbrev pub invariant-loop-signature : goal.invariant-loop-signature
invariant-loop-signature g l =
    (l.hitting.items ≡ map hitting_of (filter (standing_hits (codes_of g.K.Kind.alphabet (g.R.Reading.elements l.reading))) (take l.signature-index l.signatures)))
    × (array_vec_len l.hitting ≤ l.signature-index)
