use Rattle.std.proofs.Common.{map, filter, ap, ◌∙◌, arith}
use Rattle.std.proofs.lemmas.List.{take_all}
use Rattle.records.specs.Report.{labelled, tentative_of}
use Rattle.records.specs.Taken.{format_in}
use Rattle.catalogue.specs.declared.formats.StandingFormat.{StandingFormat}
use Rattle.catalogue.proofs.Reporting.{list_filtered}
use Rattle.catalogue.proofs.report.tentative.Goals as goal

pub returns : goal.returns
returns c =
    let formats = c.args.formats.now in
    let listed = λ (e : StandingFormat). tentative_of (format_in e.format) in
    let has_label = λ (e : StandingFormat). labelled c.args.label.now (format_in e.format) in
    c.loop-f.invariant.1
    ∙ ap (λ es. map listed (filter has_label es)) (take_all c.loop-f.f-index formats (omega arith))
    ∙ list_filtered tentative_of (labelled c.args.label.now) (λ (e : StandingFormat). format_in e.format) formats
