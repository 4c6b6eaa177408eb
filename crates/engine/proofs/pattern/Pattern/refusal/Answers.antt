use Rattle.std.proofs.Common.{rules}
use Rattle.engine.specs.Reading.{held}
use Rattle.engine.proofs.Tallies.{tally_answers}
use Rattle.engine.proofs.pattern.Pattern.refusal.Goals as goal

pub returns : goal.returns
returns c = let said = tally_answers c.tally-tally.result (held c.args.self.now) c.tally-tally.ensures in search rules
