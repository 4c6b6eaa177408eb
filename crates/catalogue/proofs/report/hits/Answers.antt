use Rattle.std.proofs.Common.{sym, ◌∙◌, rules, tests}
use Rattle.std.proofs.lemmas.Iterator.{YieldsList-from_slice}
use Rattle.std.proofs.lemmas.Iterator.Search.{any_from_yields_List}
use Rattle.records.specs.Report.{among_ids, names}
use Rattle.records.specs.Taken.{format_in}
use Rattle.records.proofs.Labels.{list_any-map}
use Rattle.catalogue.specs.Reporting.{bare}
use Rattle.catalogue.specs.declared.hitting.Hitting.{Hitting}
use Rattle.catalogue.proofs.report.hits.Goals as goal

pub returns : goal.returns
returns c =
    any_from_yields_List (λ (h : Hitting). among_ids h.id c.args.format.now.signatures.items) _ _ _ c.any.ensures.ran (YieldsList-from_slice c.args.hitting.now cc) (λ x b q k. search (rules, tests))
    ∙ sym (list_any-map (names (format_in c.args.format.now)) (λ (h : Hitting). bare h.id h.specific) c.args.hitting.now)
