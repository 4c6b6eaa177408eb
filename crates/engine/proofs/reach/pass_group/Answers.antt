use Rattle.std.proofs.Common.{true, map, get_or, take, sym, ap, ◌∙◌, subst}
use Rattle.std.proofs.lemmas.List.{map_more}
use Rattle.patterns.specs.Patterns.{group, range}
use Rattle.patterns.specs.declared.direction.Direction.TheVariants.{FirstOn}
use Rattle.patterns.specs.Codes.{codes_of}
use Rattle.engine.specs.Stored.{run_codes}
use Rattle.engine.specs.Reaching.{Stepped}
use Rattle.engine.specs.declared.pattern.Run.{Run}
use Rattle.engine.proofs.Lengths.{run_at_within}
use Rattle.engine.proofs.Reaching.{group_more}
use Rattle.engine.proofs.reach.pass_group.Goals as goal

pub run_codes-requires : goal.run_codes-requires
run_codes-requires g c = run_at_within c.args.pattern.now.codes.items c.args.runs.now c.loop-run.run-index (record { start = 0; len = 0 }) c.requires c.loop-run-test.true

pub loop-run-preserved : goal.loop-run-preserved
loop-run-preserved g c =
    let all = codes_of g.R.Element.Kind.alphabet (g.R.Reading.elements c.args.reading.now) in
    let f = run_codes c.args.pattern.now.codes.items in
    let rs = c.args.runs.now in
    let i = c.loop-run.run-index in
    let none : Run = record { start = 0; len = 0 } in
    subst (λ runs. Stepped (group runs) c.args.row.now all c.union.new.self) (sym (map_more f rs i none c.loop-run-test.true))
    (group_more (map f (take i rs)) (f (get_or rs i none)) c.args.row.now all c.loop-run.all c.pass.new.row c.union.new.self c.loop-run.invariant
    (subst (λ item. Stepped item c.args.row.now all c.pass.new.row) (c.of_one.ensures ∙ ap (λ run. range FirstOn true run run) c.run_codes.ensures) c.pass.ensures)
    c.union.ensures)
