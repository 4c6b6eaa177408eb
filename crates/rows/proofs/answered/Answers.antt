-- The answers are gathered from the highest bit down, and cut to the bits of the word.
use Rattle.std.proofs.Common.{◌≡◌, ◌-◌, subst, arith}
use lib.Count.{count_leading_zeros, count_trailing_zeros}
use mir.Val.{bool_byte}
use Rattle.rows.proofs.Questions.{Answers, answers_all, answers_more, answers_none, lowest_below}
use Rattle.rows.proofs.Words.{bit_of_bool}
use Rattle.rows.proofs.answered.Goals as goal

pub loop-bit-init : goal.loop-bit-init
loop-bit-init g c =
    let word = c.args.word in
    let below = lowest_below word c.requires.held c.ranges.word.fits in
    (omega arith, answers_none (g.Q.Question.asked c.args.question.now) c.args.base (64 - count_leading_zeros 64 word))

pub loop-bit-preserved : goal.loop-bit-preserved
loop-bit-preserved g c =
    let more = c.loop-bit-test.true in (
      omega arith,
      answers_more (g.Q.Question.asked c.args.question.now) c.args.base (64 - count_leading_zeros 64 c.args.word) c.loop-bit.bit c.loop-bit.on
          c.ask.result (omega arith) (omega arith) (omega arith) c.loop-bit.invariant.1 c.ask.ensures (bool_byte c.ask.result) (bit_of_bool c.ask.result),
    )

pub returns : goal.returns
returns g c =
    let word = c.args.word in
    let f = g.Q.Question.asked c.args.question.now in
    let low = c.loop-bit.invariant.0 in
    let e : c.loop-bit.bit ≡ count_trailing_zeros 64 word = omega arith in
    answers_all f c.args.base word c.loop-bit.on c.requires.held c.ranges.word.fits
    (subst (λ n. Answers f c.args.base (64 - count_leading_zeros 64 word) n c.loop-bit.on) e c.loop-bit.invariant.1)
