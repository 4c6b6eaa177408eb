use Rattle.std.proofs.Common.{sym, ap, ◌∙◌, subst}
use Rattle.patterns.specs.Patterns.{matches, other}
use Rattle.patterns.specs.Codes.{codes_of}
use Rattle.engine.specs.Stored.{item_of}
use Rattle.engine.specs.Reaching.{Stepped, range_item}
use Rattle.engine.proofs.Reaching.{alike, others}
use Rattle.engine.proofs.reach.pass_part.Goals as goal

pub returns-in-Other : goal.returns-in-Other
returns-in-Other g c =
    let all = codes_of g.R.Element.Kind.alphabet (g.R.Reading.elements c.args.reading.now) in
    let run = c.run_codes-in-Other.result.now in
    subst (λ p. Stepped (item_of c.args.pattern.now.codes.items c.args.pattern.now.runs.items p) c.args.row all c.pass-in-Other.new.row) (sym c.in-Other.is)
    (subst (λ r. Stepped (other r) c.args.row all c.pass-in-Other.new.row) c.run_codes-in-Other.ensures
    (alike (range_item c.of_one.result) (other run) c.args.row all c.pass-in-Other.new.row (λ ys. ap (λ i. matches i ys) c.of_one.ensures ∙ others run ys) c.pass-in-Other.ensures))
