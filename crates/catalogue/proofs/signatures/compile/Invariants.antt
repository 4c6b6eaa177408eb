use Rattle.std.proofs.Common.{◌≡◌, map, take, drop}
use Rattle.records.specs.Book.{said_by}
use Rattle.records.specs.Refusals.{refused_from}
use Rattle.records.specs.Taken.{sequences_in}
use Rattle.catalogue.proofs.signatures.compile.Given as goal
use Rattle.std.proofs.Common.{◌+◌}

-- the sequences so far are compiled, and as many were counted; those that are left are refused as all are
abbrev pub invariant-loop-sequence : goal.invariant-loop-sequence
invariant-loop-sequence g l =
    (l.number ≡ l.sequence-index)
    × (map (said_by g.K.Kind.alphabet) (sequences_in (take l.sequence-index l.sequence-items)) ≡ l.compiled.items)
    × (refused_from g.K.Kind.alphabet (l.sequence-index + 1) (sequences_in (drop l.sequence-index l.sequence-items)) ≡ refused_from g.K.Kind.alphabet 1 (sequences_in l.sequence-items))
