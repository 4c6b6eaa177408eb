use Rattle.std.proofs.Common.{◌≡◌, ◌≤◌, ◌&&◌, Bool, not, length, map, filter, Bor}
use Rattle.std.specs.List.{list_any}
use Rattle.arrayvec.specs.ArrayVec.{array_vec_len}
use Rattle.records.specs.Report.{among_ids, hit_of_by}
use Rattle.records.specs.Taken.{format_in}
use Rattle.catalogue.specs.Reporting.{flagged, hitting_in}
use Rattle.catalogue.specs.Standing.{formats_in}
use Rattle.catalogue.specs.declared.formats.StandingFormat.{StandingFormat}
use Rattle.catalogue.proofs.report.positive.Given as goal

-- those so far that hit and are not struck are listed
abbrev pub invariant-loop-f : goal.invariant-loop-f
invariant-loop-f l =
    (goal.iterator-loop-f).can_next l.f-iterator × (goal.iterator-loop-f).is_finite l.f-iterator
    × (array_vec_len l.hits ≤ length l.yielded)
    × (l.hits.items ≡ map (λ (p : Bor StandingFormat × Bor Bool). hit_of_by (hitting_in l.hitting) l.label (format_in p.0.now.format)) (filter (λ (p : Bor StandingFormat × Bor Bool). p.1.now && not (list_any (λ f. among_ids p.0.now.format.id f.outranked) (flagged (formats_in l.formats) l.flags))) l.yielded))
