use Rattle.std.proofs.Common.{◌≡◌, ◌≤◌, ◌*◌, take}
use Rattle.catalogue.specs.Entering.{fragment_total}
use Rattle.catalogue.proofs.signatures.count_fragments.Given as goal

-- the fragments of the sequences so far
abbrev pub invariant-loop-sequence : goal.invariant-loop-sequence
invariant-loop-sequence g l =
    (l.total ≡ fragment_total (take l.sequence-index l.sequences)) × (l.total ≤ 8 * l.sequence-index)
