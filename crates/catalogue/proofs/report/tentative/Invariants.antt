use Rattle.std.proofs.Common.{◌≡◌, ◌≤◌, map, filter, take}
use Rattle.arrayvec.specs.ArrayVec.{array_vec_len}
use Rattle.records.specs.Report.{labelled, tentative_of}
use Rattle.records.specs.Taken.{format_in}
use Rattle.catalogue.specs.declared.formats.StandingFormat.{StandingFormat}
use Rattle.catalogue.proofs.report.tentative.Given as goal

-- those so far that have the label are listed
abbrev pub invariant-loop-f : goal.invariant-loop-f
invariant-loop-f l =
    (array_vec_len l.hits ≤ l.f-index)
    × (l.hits.items ≡ map (λ (e : StandingFormat). tentative_of (format_in e.format)) (filter (λ (e : StandingFormat). labelled l.label (format_in e.format)) (take l.f-index l.formats)))
