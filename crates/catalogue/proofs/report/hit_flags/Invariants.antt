use Rattle.std.proofs.Common.{◌≡◌, map, take}
use Rattle.arrayvec.specs.ArrayVec.{array_vec_len}
use Rattle.records.specs.Report.{hit_by}
use Rattle.records.specs.Taken.{format_in}
use Rattle.catalogue.specs.Reporting.{hitting_in}
use Rattle.catalogue.specs.declared.formats.StandingFormat.{StandingFormat}
use Rattle.catalogue.proofs.report.hit_flags.Given as goal

-- a flag for each format so far
abbrev pub invariant-loop-f : goal.invariant-loop-f
invariant-loop-f l =
    (array_vec_len l.flags ≡ l.f-index)
    × (l.flags.items ≡ map (λ (e : StandingFormat). hit_by (hitting_in l.hitting) (format_in e.format)) (take l.f-index l.formats))
