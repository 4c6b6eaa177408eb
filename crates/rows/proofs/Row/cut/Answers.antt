-- The word at the edge is cut, and the words past it are 0.
use Rattle.std.proofs.Common.{rules, arith, ⊎_elim}
use Rattle.std.proofs.lemmas.Bool.{cases_lt}
use Rattle.std.proofs.lemmas.Grind.{common_steps}
use Rattle.std.proofs.lemmas.List.{places}
use Rattle.rows.proofs.Members.{member_all, member_cut}
use Rattle.rows.proofs.Row.cut.Goals as goal

pub returns-then-edge-self : goal.returns-then-edge-self
returns-then-edge-self c =
    let e = c.fill.ensures.after (λ y h. h) in
    let row = c.args.self.now in
    let few = row.within in
    member_cut row c.trim.new.self c.args.last (omega arith) (rw c.trim.ensures.words (search (rules, places))) (rw c.trim.ensures.words (search (rules, places)))
    (λ k h. rw c.trim.ensures.words (
    ⊎_elim (λ l. grind (arith, common_steps, e)) (λ l. let zero = row.past k l in grind (arith, common_steps, zero)) (cases_lt k row.used)))

pub returns-else-edge-self : goal.returns-else-edge-self
returns-else-edge-self c j = member_all c.args.self.now c.args.last j c.if-edge-self.false
