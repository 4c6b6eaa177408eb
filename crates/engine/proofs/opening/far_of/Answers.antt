use Rattle.engine.proofs.Lengths.{part_at_within}
use Rattle.engine.proofs.opening.far_of.Goals as goal

pub extent-requires : goal.extent-requires
extent-requires c = part_at_within _ _ c.args.parts.now c.loop-placed.placed-index _ c.requires c.loop-placed-test.true
