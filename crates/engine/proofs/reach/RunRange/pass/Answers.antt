use Rattle.std.proofs.Common.{length}
use Rattle.patterns.specs.Codes.{codes_of}
use Rattle.engine.specs.Reaching.{range_item}
use Rattle.engine.proofs.Reaching.{kept_step, range_length}
use Rattle.engine.proofs.reach.RunRange.pass.Goals as goal

pub returns : goal.returns
returns g c =
    let r = c.args.self.now in
    kept_step (range_item r) (length r.low.now) c.args.row.now c.retain.new.self c.shift.new.self
    (codes_of g.R.Element.Kind.alphabet (g.R.Reading.elements c.args.reading.now)) (range_length r.direction r.inside r.low.now r.high.now) c.retain.ensures c.shift.ensures
