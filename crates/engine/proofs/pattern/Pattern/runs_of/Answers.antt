use Rattle.std.proofs.Common.{drop, sym, subst}
use Rattle.engine.specs.Parts.{HasRuns}
use Rattle.engine.proofs.Growth.{runs_within_drop, runs_within_take}
use Rattle.engine.proofs.pattern.Pattern.runs_of.Goals as goal

pub returns-clause-within : goal.returns-clause-within
returns-clause-within c =
    let codes = c.args.self.now.codes.items in
    let runs = c.deref.result.now in
    let within = subst (HasRuns c.args.self.now) (sym c.deref.ensures.0) c.args.self.now.runs_within in
    runs_within_take codes _ (drop c.from-start.result runs) (runs_within_drop codes c.from-start.result runs within)
