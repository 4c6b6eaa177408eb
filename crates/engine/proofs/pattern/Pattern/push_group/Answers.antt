use Rattle.std.proofs.Common.{length, ap, ◌∙◌, subst, arith}
use Rattle.lexer.specs.Tokens.{between_bars}
use Rattle.lexer.proofs.TokenRuns.{left_of, split_left, total_bars}
use Rattle.engine.proofs.Groups.{Grouped, grouped_more}
use Rattle.engine.proofs.pattern.Pattern.push_group.Goals as goal

pub push_codes-run-requires : goal.push_codes-run-requires
push_codes-run-requires g c =
    let l = c.loop-rest in
    let left = ap left_of c.in-Some.is ∙ split_left c.in-Some.runs c.first_and_rest.result c.first_and_rest.ensures in
    let h = subst (Grouped g.K.Kind.alphabet c.args.self.now l.self (between_bars c.args.group.text.now)) left l.invariant in
    omega (arith, h.room, total_bars c.args.group.text.now, c.requires.codes)

pub loop-rest-smaller : goal.loop-rest-smaller
loop-rest-smaller g c =
    let left = ap left_of c.in-Some.is ∙ split_left c.in-Some.runs c.first_and_rest.result c.first_and_rest.ensures in
    omega (arith, ap length left)

pub loop-rest-preserved : goal.loop-rest-preserved
loop-rest-preserved g c =
    let l = c.loop-rest in
    let left = ap left_of c.in-Some.is ∙ split_left c.in-Some.runs c.first_and_rest.result c.first_and_rest.ensures in
    let h = subst (Grouped g.K.Kind.alphabet c.args.self.now l.self (between_bars c.args.group.text.now)) left l.invariant in
    let put = c.push_codes-run in
    grouped_more g.K.Kind.alphabet c.args.self.now l.self put.new.self c.push_run.new.self (between_bars c.args.group.text.now) (left_of c.first_and_rest.result.1) c.first_and_rest.result.0.text.now put.result h put.ensures.codes put.ensures.runs put.ensures.items put.ensures.run c.push_run.ensures

pub returns-clause-codes : goal.returns-clause-codes
returns-clause-codes g c =
    omega (arith, c.loop-rest.invariant.room, total_bars c.args.group.text.now)
