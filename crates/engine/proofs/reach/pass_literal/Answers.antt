use Rattle.patterns.specs.Patterns.{literal}
use Rattle.patterns.specs.Codes.{codes_of}
use Rattle.engine.proofs.Reaching.{kept_step, literal_length}
use Rattle.engine.proofs.reach.pass_literal.Goals as goal

pub returns : goal.returns
returns g c =
    kept_step (literal c.args.code) 1 c.args.row.now c.retain.new.self c.shift.new.self
    (codes_of g.R.Element.Kind.alphabet (g.R.Reading.elements c.args.reading.now)) (literal_length c.args.code) c.retain.ensures c.shift.ensures
