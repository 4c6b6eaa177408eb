use Rattle.std.proofs.Common.{◌∙◌}
use Rattle.engine.specs.Reading.{held}
use Rattle.engine.proofs.Tallies.{tally_counts}
use Rattle.engine.proofs.pattern.Pattern.fragment_count.Goals as goal

pub returns : goal.returns
returns c = c.from.ensures ∙ tally_counts c.tally.result (held c.args.self.now) c.tally.ensures
