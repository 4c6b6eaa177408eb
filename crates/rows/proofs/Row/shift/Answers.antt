-- Each word is moved on, from the last that can have a member down.
use Rattle.std.proofs.Common.{◌-◌, ◌/◌, ◌∙◌, sym, arith, rules}
use Rattle.std.proofs.lemmas.Grind.{common_steps}
use Rattle.std.proofs.lemmas.List.{places}
use Rattle.rows.proofs.Members.{first_word, later_word}
use Rattle.rows.proofs.Written.{shift_word, shifted_all, shifts_none, written_more}
use Rattle.rows.proofs.Row.shift.Goals as goal

pub returns-then-by-ge-WIDTH : goal.returns-then-by-ge-WIDTH
returns-then-by-ge-WIDTH c j = c.new.ensures j ∙ sym (shifts_none c.args.self.now c.args.by j c.if-by-ge-WIDTH.true)

pub loop-i-preserved : goal.loop-i-preserved
loop-i-preserved c =
    let i = c.loop-i.i - 1 in
    let row = c.loop-i.self in
    let by = c.args.by in
    let word = c.carried.result in
    let w = c.loop-i.invariant.2 in (
      c.loop-i.invariant.0,
      omega arith,
      written_more i word w (search rules) (omega arith) (omega arith) (omega arith) (omega arith)
          (shift_word row by i word w (omega arith) (omega arith) (later_word row by i word (omega arith) (omega arith) c.carried.ensures)),
    )

pub invariant_of-self-2 : goal.invariant_of-self-2
invariant_of-self-2 c =
    let e = c.fill.ensures.after (λ y h. h) in
    let above = c.loop-i.invariant.1 in
    record {
      within = c.loop-i.self.within;
      past = λ k h. let zero = c.loop-i.self.past k h in grind (arith, common_steps, e, zero);
    }

pub returns : goal.returns
returns c =
    let row = c.loop-i.self in
    let by = c.args.by in
    let far = by / 64 in
    let word = c.carried-2.result in
    let w = c.loop-i.invariant.2 in
    let above = c.loop-i.invariant.1 in
    let e = c.fill.ensures.after (λ y h. h) in
    shifted_all c.trim.new.self by (
    written_more far word w (search rules) (omega arith) (omega arith) (omega arith) (omega arith)
    (shift_word row by far word w (omega arith) (omega arith) (first_word row by word (omega arith) c.carried-2.ensures)))
    c.min-self.ensures (λ k h. rw c.trim.ensures.words (grind (arith, common_steps, e))) (λ k h. rw c.trim.ensures.words (search (rules, places)))
