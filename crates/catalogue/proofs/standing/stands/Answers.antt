use Rattle.std.proofs.Common.{◌==◌, sym, ◌∙◌, rules, tests}
use Rattle.std.proofs.lemmas.Iterator.{YieldsList-from_slice}
use Rattle.std.proofs.lemmas.Iterator.Search.{any_from_yields_List}
use Rattle.catalogue.proofs.Held.{contains_key-bodies}
use Rattle.catalogue.proofs.standing.stands.Goals as goal

pub returns : goal.returns
returns g c =
    any_from_yields_List (λ s. (g.S.Standing.pair s).0 == c.args.id) _ _ _ c.any.ensures.ran (YieldsList-from_slice c.args.standing.now cc) (λ x b q k. search (rules, tests))
    ∙ sym (contains_key-bodies g.S.Standing.pair c.args.standing.now c.args.id c.requires)
