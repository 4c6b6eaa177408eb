use Rattle.std.proofs.Common.{Some, None, arith}
use Rattle.std.proofs.lemmas.Result.{err_from_is_err_and}
use Rattle.records.specs.Reading.{ids_from}
use Rattle.records.specs.Taken.{rest_in}
use Rattle.records.proofs.Loops.{goes_on, ends, is_done, id_at, ids_repeat}
use Rattle.records.proofs.format.listed_ids.Goals as goal

pub returns-in_err-id : goal.returns-in_err-id
returns-in_err-id c =
    let bound = c.args.bound in
    let p = err_from_is_err_and c.from_residual.result c.from_residual.ensures.1 in
    rw (p.1, p.2) (
      ends (id_at bound) (λ _ id. Some id) (ids_from bound) (ids_repeat bound) c.loop.ids.items c.args.count c.loop.counter c.loop.before (rest_in c.loop.rest) c.in_err-id.field-0.0.place (ids_from bound None c.args.count (rest_in c.args.rest)) c.loop-test.true c.in_err-id.ensures.0 c.loop.invariant.1,
      c.in_err-id.ensures.1,
    )

pub loop-preserved : goal.loop-preserved
loop-preserved c =
    let bound = c.args.bound in (
      omega arith,
      rw c.push.ensures.items (goes_on (id_at bound) (λ _ id. Some id) (ids_from bound) (ids_repeat bound) c.loop.ids.items c.args.count c.loop.counter c.loop.before (rest_in c.loop.rest) c.in_ok-id.id (rest_in c.in_ok-id.behind) (ids_from bound None c.args.count (rest_in c.args.rest)) c.loop-test.true c.in_ok-id.ensures c.loop.invariant.1),
    )

pub returns : goal.returns
returns c =
    let bound = c.args.bound in
    is_done (id_at bound) (λ _ id. Some id) (ids_from bound) (ids_repeat bound) c.loop.ids.items c.args.count c.loop.counter c.loop.before (rest_in c.loop.rest) (ids_from bound None c.args.count (rest_in c.args.rest)) c.loop-test.false c.loop.invariant.1
