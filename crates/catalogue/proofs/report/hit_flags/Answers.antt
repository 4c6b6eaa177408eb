use Rattle.std.proofs.Common.{map, sym, ap, ◌∙◌, arith}
use Rattle.std.proofs.lemmas.List.{take_all}
use Rattle.records.specs.Report.{hit_by}
use Rattle.records.specs.Taken.{format_in}
use Rattle.catalogue.specs.Reporting.{hitting_in}
use Rattle.catalogue.specs.declared.formats.StandingFormat.{StandingFormat}
use Rattle.std.proofs.lemmas.Simd.{map-map}
use Rattle.catalogue.proofs.report.hit_flags.Goals as goal

pub returns : goal.returns
returns c =
    let formats = c.args.formats.now in
    let hits = λ (e : StandingFormat). hit_by (hitting_in c.args.hitting.now) (format_in e.format) in
    c.loop-f.invariant.1 ∙ ap (map hits) (take_all c.loop-f.f-index formats (omega arith)) ∙ sym (map-map (hit_by (hitting_in c.args.hitting.now)) (λ (e : StandingFormat). format_in e.format) formats)
