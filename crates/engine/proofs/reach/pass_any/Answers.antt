use Rattle.std.proofs.Common.{sym, ◌∙◌}
use lib.ListN.{length-map}
use Rattle.patterns.specs.Codes.{codes_of}
use Rattle.engine.proofs.Reaching.{any_step}
use Rattle.engine.proofs.reach.pass_any.Goals as goal

pub returns : goal.returns
returns g c =
    let elements = g.R.Reading.elements c.args.reading.now in
    let alphabet = g.R.Element.Kind.alphabet in
    any_step c.args.row.now c.shift.new.self c.cut.new.self (codes_of alphabet elements) c.len.result c.shift.ensures c.cut.ensures (length-map elements alphabet.code ∙ sym c.len.ensures)
