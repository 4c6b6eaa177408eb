use Rattle.std.proofs.Common.{◌≡◌, ◌++◌, ◌∷◌, [], arith}
use Rattle.std.proofs.lemmas.Result.{err_from_is_err_and}
use Rattle.std.proofs.lemmas.List.{map_push}
use Rattle.records.specs.Reading.{sequence_at, sequences_at}
use Rattle.records.specs.Taken.{rest_in, sequence_in, sequences_in}
use Rattle.records.proofs.Loops.{goes_on, ends, is_done, sequences_repeat}
use Rattle.records.proofs.signature.sequences.Goals as goal

pub returns-in_err-sequence : goal.returns-in_err-sequence
returns-in_err-sequence c =
    let p = err_from_is_err_and c.from_residual.result c.from_residual.ensures.1 in
    rw (p.1, p.2) (
      ends (λ _. sequence_at) (λ s _. s) (λ _. sequences_at) sequences_repeat (sequences_in c.loop.sequences.items) c.args.count c.loop.counter tt (rest_in c.loop.rest) c.in_err-sequence.field-0.0.place (sequences_at c.args.count (rest_in c.args.rest)) c.loop-test.true c.in_err-sequence.ensures.0 c.loop.invariant.1,
      c.in_err-sequence.ensures.1,
    )

pub loop-preserved : goal.loop-preserved
loop-preserved c =
    let q = c.in_ok-sequence.sequence in
    let pushed : sequences_in c.push.new.self.items ≡ sequences_in c.loop.sequences.items ++ sequence_in q ∷ [] = rw c.push.ensures.items (map_push _ c.loop.sequences.items q) in (
      omega arith,
      rw pushed (goes_on (λ _. sequence_at) (λ s _. s) (λ _. sequences_at) sequences_repeat (sequences_in c.loop.sequences.items) c.args.count c.loop.counter tt (rest_in c.loop.rest) (sequence_in q) (rest_in c.in_ok-sequence.behind) (sequences_at c.args.count (rest_in c.args.rest)) c.loop-test.true c.in_ok-sequence.ensures c.loop.invariant.1),
    )

pub returns : goal.returns
returns c = is_done (λ _. sequence_at) (λ s _. s) (λ _. sequences_at) sequences_repeat (sequences_in c.loop.sequences.items) c.args.count c.loop.counter tt (rest_in c.loop.rest) (sequences_at c.args.count (rest_in c.args.rest)) c.loop-test.false c.loop.invariant.1
