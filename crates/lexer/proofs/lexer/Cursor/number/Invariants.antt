use Rattle.std.proofs.Common.{◌≡◌, ◌^◌, ◌<◌, ◌≤◌, length, take}
use Rattle.patterns.specs.Grammar.{Digits, followed_by}
use Rattle.lexer.proofs.lexer.Cursor.number.Given as goal

-- the digits, and the value of those that were read
abbrev pub invariant-loop-digit : goal.invariant-loop-digit
invariant-loop-digit l = record {
  digits : Digits l.digits;
  few : length l.digits ≤ 4;
  value : l.value ≡ followed_by 0 (take l.digit-index l.digits);
  small : l.value < 10 ^ l.digit-index;
}
