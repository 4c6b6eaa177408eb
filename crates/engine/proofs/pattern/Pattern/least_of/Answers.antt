use Rattle.std.proofs.Common.{arith, rules}
use Rattle.std.proofs.lemmas.Grind.{common_steps}
use Rattle.engine.proofs.Lengths.{part_at_within}
use Rattle.engine.proofs.pattern.Pattern.least_of.Goals as goal

pub extent-requires : goal.extent-requires
extent-requires c = part_at_within _ _ c.args.parts.now c.loop-placed.placed-index _ c.requires.inside c.loop-placed-test.true

pub overflow_add-total : goal.overflow_add-total
overflow_add-total c = let small = c.extent.type_inv in let before = c.loop-placed.invariant.1 in search rules

pub loop-placed-preserved : goal.loop-placed-preserved
loop-placed-preserved c =
    let small = c.extent.type_inv in
    let before = c.loop-placed.invariant.1 in
    let sums = c.loop-placed.invariant.0 in
    (grind (arith, common_steps), omega arith)
