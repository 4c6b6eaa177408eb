use Rattle.std.proofs.Common.{◌∙◌, tests, rules}
use Rattle.std.specs.Option.{is_none}
use Rattle.std.proofs.lemmas.Iterator.{YieldsList-from_slice}
use Rattle.std.proofs.lemmas.Iterator.Search.{position_from_yields_List}
use Rattle.engine.proofs.Tables.{first_is}
use Rattle.engine.proofs.table.Table.first_free.Goals as goal

pub returns : goal.returns
returns c =
    position_from_yields_List is_none _ _ c.position.result c.position.ensures.ran (YieldsList-from_slice c.args.self.now cc) (λ x b q k. search (rules, tests))
    ∙ first_is c.args.self.now
