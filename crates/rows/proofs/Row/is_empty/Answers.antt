-- A search from 0 on finds nothing.
use Rattle.rows.proofs.Firsts.{none_at_all}
use Rattle.rows.proofs.Row.is_empty.Goals as goal

pub returns : goal.returns
returns c = none_at_all c.args.self.now c.first_from.result c.is_none.result c.first_from.ensures c.is_none.ensures
