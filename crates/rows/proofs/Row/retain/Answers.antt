-- Each word is cut to the bits that the question is answered yes of, and a word that is 0 stays.
use Rattle.std.proofs.Common.{◌<◌, ◌∙◌, arith, rules}
use Rattle.rows.proofs.Members.{same_members}
use Rattle.rows.proofs.Written.{kept_all, kept_more, kept_zero}
use Rattle.rows.proofs.Row.retain.Goals as goal
use Rattle.rows.proofs.Row.retain.Goals.{then-self-i-ne0, else-self-i-ne0}

pub loop-i-preserved : goal.loop-i-preserved
loop-i-preserved g c =
    let f = g.Q.Question.asked c.args.question.now in
    let i = c.loop-i.i in
    let end = c.args.self.now.within in
    let few : i < 16 = omega arith in
    elim c.if-self-i-ne0.branch [
      | then-self-i-ne0 w ↦ rw w.self-is (
        c.loop-i.invariant.0,
        kept_more f w.answered.result c.loop-i.invariant.1 few (search rules) w.answered.ensures,
      )
      | else-self-i-ne0 w ↦ rw w.self-is (c.loop-i.invariant.0, kept_zero f c.loop-i.invariant.1 few w.if-self-i-ne0.false)
    ]

pub returns : goal.returns
returns g c j =
    same_members c.trim.new.self c.loop-i.self c.trim.ensures.words j
    ∙ kept_all (g.Q.Question.asked c.args.question.now) c.loop-i.self c.loop-i.invariant.1 c.loop-i-test.false j
