-- Words with no bit set are passed over, and the first other one has the member.
use Rattle.std.proofs.Common.{◌+◌, ◌<◌, ◌*◌, ◌/◌, ◌%◌, ◌^◌, get_or, sym, refl, div-one, arith, rules}
use Rattle.std.proofs.lemmas.Grind.{common_steps}
use Rattle.rows.proofs.Firsts.{first_in, none_behind, none_between, none_unused}
use Rattle.rows.proofs.Row.first_from.Goals as goal

pub returns-then-edge-self : goal.returns-then-edge-self
returns-then-edge-self c = none_unused c.args.self.now c.args.from c.if-edge-self.true

pub returns-then-word-ne0 : goal.returns-then-word-ne0
returns-then-word-ne0 c =
    let from = c.args.from in
    let row = c.args.self.now in
    let few = row.within in
    first_in row from (from / 64) (from % 64) (get_or row.words (from / 64) 0 / 2 ^ (from % 64)) from (omega arith) (omega arith) (omega arith)
    (search rules) refl (omega arith) (omega arith) (λ j h l. absurd (omega arith))

pub returns-in_err-i : goal.returns-in_err-i
returns-in_err-i c =
    rw c.from_residual.ensures (
    none_behind c.args.self.now c.args.from c.if-edge-self.false c.if-word-ne0.false
    (λ k h. let e = c.in_err-i.ensures k in grind (arith, common_steps, e)))

pub returns : goal.returns
returns c =
    let from = c.args.from in
    let row = c.args.self.now in
    let end = row.within in
    let behind = c.in_ok-i.field-0 in
    let i = from / 64 + 1 + behind in
    let first = c.in_ok-i.ensures in
    let within = first.within in
    let few : i < 16 = grind (arith, common_steps) in
    let used : 0 < get_or row.words i 0 = let e = first.positive in grind (arith, common_steps, e) in
    first_in row from i 0 (get_or row.words i 0) (64 * i) (omega arith) (omega arith) (omega arith) (search rules)
    (sym (div-one (get_or row.words i 0))) used (omega arith)
    (none_between row from behind (omega arith) c.if-word-ne0.false (omega arith)
    (λ k h. let e = first.before k h in grind (arith, common_steps, e)))
