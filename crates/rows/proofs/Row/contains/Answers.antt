-- The bit that k names is shifted down to bit 0 and tested.
use Rattle.std.proofs.Common.{◌/◌, ◌%◌, get_or, sym, ◌∙◌}
use Rattle.std.proofs.lemmas.Bool.{le-ltb}
use Rattle.rows.proofs.Members.{member_bit, member_past}
use Rattle.rows.proofs.Words.{bit_tested}
use Rattle.rows.proofs.Row.contains.Goals as goal

pub returns-then-k-lt-WIDTH : goal.returns-then-k-lt-WIDTH
returns-then-k-lt-WIDTH c =
    let row = c.args.self.now in
    let k = c.args.k in
    let word = get_or row.words (k / 64) 0 in
    bit_tested word (k % 64) ∙ sym (member_bit row k c.if-k-lt-WIDTH.true)

pub returns-else-k-lt-WIDTH : goal.returns-else-k-lt-WIDTH
returns-else-k-lt-WIDTH c =
    let past = c.if-k-lt-WIDTH.false in
    le-ltb c.args.k 1024 past ∙ sym (member_past c.args.self.now c.args.k past)
