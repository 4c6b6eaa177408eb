use Rattle.std.proofs.Common.{rules, tests}
use Rattle.engine.proofs.Finding.{on_some, least_is, start_decides}
use Rattle.engine.proofs.starts.Starts.reached.Goals as goal

pub returns : goal.returns
returns c =
    let least = least_is c.args.place c.map_or-least.result c.args.self.until (on_some _ _ _ c.args.self.until (λ u h. search (rules, tests)) c.map_or-least.ensures) in
    start_decides c.args.row.now c.args.place c.map_or-least.result c.args.self c.first_from.result _ c.in-Some.ensures.0 least c.first_from.ensures
    (on_some _ _ _ c.first_from.result (λ d h. search (rules, tests)) c.is_some_and.ensures)
