use Rattle.std.proofs.Common.{◌&&◌, Bool, ◌∙◌, rules, tests}
use Rattle.std.proofs.lemmas.Iterator.{YieldsList-from_slice, YieldsList-from_zip}
use Rattle.std.proofs.lemmas.Iterator.Search.{any_from_yields_List}
use Rattle.records.specs.Entries.{Format}
use Rattle.records.specs.Report.{among_ids}
use Rattle.records.specs.Taken.{format_in}
use Rattle.catalogue.specs.declared.formats.StandingFormat.{StandingFormat}
use Rattle.catalogue.proofs.Reporting.{any_flagged}
use Rattle.catalogue.proofs.report.is_struck.Goals as goal

pub returns : goal.returns
returns c =
    any_from_yields_List (λ (x : StandingFormat × Bool). x.1 && among_ids c.args.format x.0.format.outranked.items) c.any.new.self _ _ c.any.ensures.ran (YieldsList-from_zip (YieldsList-from_slice c.args.formats.now cc) (YieldsList-from_slice c.args.flags.now cc)) (λ x b q k. search (rules, tests))
    ∙ any_flagged (λ (f : Format). among_ids c.args.format f.outranked) (λ (e : StandingFormat). format_in e.format) c.args.formats.now c.args.flags.now
