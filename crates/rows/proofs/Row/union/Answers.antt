-- Each word takes on the bits of the other row, from the first up.
use Rattle.std.proofs.Common.{get_or, arith, rules}
use lib.Bits.{bit_or}
use Rattle.rows.proofs.Written.{united_word, united_all, written_more}
use Rattle.rows.proofs.Row.union.Goals as goal

pub loop-i-preserved : goal.loop-i-preserved
loop-i-preserved c =
    let i = c.loop-i.i in
    let words = c.loop-i.self.words in
    let other = c.args.other.now in
    let few = other.within in
    let w = c.loop-i.invariant.1 in (
      c.loop-i.invariant.0,
      written_more i (bit_or (get_or words i 0) (get_or other.words i 0)) w (search rules) (omega arith) (omega arith)
          (omega arith) (omega arith) (united_word other w (omega arith)),
    )

pub returns : goal.returns
returns c = united_all c.args.other.now c.loop-i.self c.loop-i.invariant.1 c.loop-i-test.false
