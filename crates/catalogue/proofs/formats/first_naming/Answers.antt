use Rattle.std.proofs.Common.{ap, ◌∙◌, rules, tests}
use Rattle.std.specs.Option.{option_map}
use Rattle.std.proofs.lemmas.Iterator.{YieldsList-from_slice}
use Rattle.std.proofs.lemmas.Iterator.Search.{find_from_yields_List}
use Rattle.records.specs.Report.{among_ids}
use Rattle.catalogue.specs.declared.formats.StandingFormat.{StandingFormat}
use Rattle.catalogue.proofs.Held.{id_of_first, mapped}
use Rattle.catalogue.proofs.formats.first_naming.Goals as goal

pub returns : goal.returns
returns c =
    let found = find_from_yields_List (λ (e : StandingFormat). among_ids c.args.signature e.format.signatures.items) _ _ c.find.result c.find.ensures.ran (YieldsList-from_slice c.args.formats.now cc) (λ x b q k. search (rules, tests)) in
    mapped (λ x. x.now) (λ (e : StandingFormat). e.format.id) _ c.find.result c.map.result c.map.ensures.cases (λ x y h. search rules)
    ∙ ap (option_map (λ (e : StandingFormat). e.format.id)) found ∙ id_of_first (λ f. among_ids c.args.signature f.signatures) c.args.formats.now
