use Rattle.std.proofs.Common.{◌∙◌, tests, rules}
use Rattle.std.specs.Option.{is_none}
use Rattle.std.proofs.lemmas.Iterator.{YieldsList-from_slice}
use Rattle.std.proofs.lemmas.Iterator.Consumers.{count_from_yields_List, YieldsList-from_filter}
use Rattle.engine.proofs.Tables.{free_counted}
use Rattle.engine.proofs.table.Table.free_count.Goals as goal

pub returns : goal.returns
returns c =
    count_from_yields_List _ _ c.count.ensures.ran (YieldsList-from_filter _ is_none (YieldsList-from_slice c.args.self.now cc) c.filter.ensures.closure (λ x b q k. search (rules, tests)))
    ∙ free_counted 0 c.args.self.now
