use Rattle.std.proofs.Common.{rules, refl, arith}
use Rattle.std.proofs.lemmas.List.{take_all}
use borrow.Author.Tests.{tests}
use Rattle.lexer.proofs.Scans.{standing_are_digits, standing_few, number_stands, value_more}
use Rattle.lexer.proofs.lexer.Cursor.number.Goals as goal

pub loop-digit-init : goal.loop-digit-init
loop-digit-init c = record {
  digits = standing_are_digits c.args.self.text.now c.args.self.place c.args.self.inside _ c.digit_count.ensures;
  few = standing_few c.args.self.text.now c.args.self.place c.args.self.inside _ c.digit_count.ensures;
  value = refl;
  small = omega arith;
}

pub loop-digit-preserved : goal.loop-digit-preserved
loop-digit-preserved c =
    let h = c.loop-digit.invariant in
    let more = value_more _ _ _ _ h.digits c.loop-digit-test.true h.value h.small c.from.ensures in
    record { digits = h.digits; few = h.few; value = more.0; small = more.1 }

pub returns : goal.returns
returns c = (refl, number_stands c.args.self.text.now c.args.self.place c.args.self.inside _ c.digit_count.ensures _ (search (rules, tests)) (search (rules, take_all)))
