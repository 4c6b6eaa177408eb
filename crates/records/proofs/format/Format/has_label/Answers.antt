use Rattle.std.proofs.Common.{sym, ◌∙◌, rules, tests}
use Rattle.std.proofs.lemmas.Iterator.{YieldsList-from_slice}
use Rattle.std.proofs.lemmas.Iterator.Search.{any_from_yields_List}
use Rattle.records.specs.Report.{equals_label}
use Rattle.records.specs.Taken.{label_in}
use Rattle.records.specs.declared.format.Label.{Label}
use Rattle.records.proofs.Labels.{list_any-map}
use Rattle.records.proofs.format.Format.has_label.Goals as goal

pub returns : goal.returns
returns c =
    any_from_yields_List (λ (l : Label). equals_label c.args.given.now (label_in l)) _ _ _ c.any.ensures.ran (YieldsList-from_slice c.args.self.now.labels.items cc) (λ x b q k. search (rules, tests))
    ∙ sym (list_any-map (equals_label c.args.given.now) label_in c.args.self.now.labels.items)
