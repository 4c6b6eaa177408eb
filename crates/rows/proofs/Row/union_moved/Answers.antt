-- Each word takes on what is moved to it, from the last down.
use Rattle.std.proofs.Common.{◌-◌, ◌/◌, get_or, arith, rules}
use lib.Bits.{bit_or}
use Rattle.rows.proofs.Members.{first_word, later_word}
use Rattle.rows.proofs.Written.{united_moved_word, united_moved_all, united_moved_none, written_more}
use Rattle.rows.proofs.Row.union_moved.Goals as goal

pub loop-i-preserved : goal.loop-i-preserved
loop-i-preserved c =
    let i = c.loop-i.i - 1 in
    let row = c.loop-i.self in
    let by = c.args.by in
    let word = c.carried.result in
    let few = c.args.self.now.within in
    let w = c.loop-i.invariant.2 in (
      c.loop-i.invariant.0,
      omega arith,
      written_more i (bit_or (get_or row.words i 0) word) w (search rules) (omega arith) (omega arith) (omega arith) (omega arith)
          (united_moved_word row by i word w (omega arith) (omega arith) (later_word row by i word (omega arith) (omega arith) c.carried.ensures)),
    )

pub returns-after-loop-i-clause-added : goal.returns-after-loop-i-clause-added
returns-after-loop-i-clause-added c =
    let row = c.loop-i.self in
    let by = c.args.by in
    let far = by / 64 in
    let word = c.carried-then-far-self.result in
    let few = c.args.self.now.within in
    let w = c.loop-i.invariant.2 in
    let above = c.loop-i.invariant.1 in
    united_moved_all _ by (
    written_more far (bit_or (get_or row.words far 0) word) w (search rules) (omega arith) (omega arith) (omega arith) (omega arith)
    (united_moved_word row by far word w (omega arith) (omega arith) (first_word row by word (omega arith) c.carried-then-far-self.ensures)))

pub returns-else-far-self-clause-added : goal.returns-else-far-self-clause-added
returns-else-far-self-clause-added c = united_moved_none c.args.self.now c.args.by c.if-far-self.false
