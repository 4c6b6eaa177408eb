use Rattle.std.proofs.Common.{rules, ◌&&◌, ltb, sym, ap, ◌∙◌}
use lib.ListN.{length-map}
use Rattle.rows.specs.Rows.{some_distance}
use Rattle.patterns.specs.Codes.{codes_of}
use Rattle.engine.proofs.Reaching.{Furthest, gap_step}
use Rattle.engine.proofs.reach.pass_gap.Goals as goal

pub returns : goal.returns
returns g c =
    let elements = g.R.Reading.elements c.args.reading.now in
    let alphabet = g.R.Element.Kind.alphabet in
    let last = c.map_or-most.result in
    let furthest : Furthest c.args.most last = search rules in
    gap_step c.args.row.now c.widen.new.self c.cut.new.self (codes_of alphabet elements) c.args.least last c.len.result
    (λ j. c.widen.ensures j ∙ ap (λ n. ltb j 1024 && some_distance c.args.row.now n last j) c.from.ensures)
    c.cut.ensures (length-map elements alphabet.code ∙ sym c.len.ensures) c.args.most furthest
