-- Bytes and axle marks keep the law of a kind. It stands here since a ghost member may cite no proofs/.
use Rattle.std.specs.Prelude.{◌≡◌, ℕ, ◌<◌, true, Some, None, Option, refl}
use Rattle.std.proofs.Common.{ap, arith}
use mathlib.Core.HLevel.{is_prop→PathP}
use Rattle.std.proofs.Math.Bridge.{le_prop}
use Rattle.std.proofs.lemmas.Bool.Decides.{nat_tests}
use Rattle.kinds.specs.Alphabet.{Lawful, alphanumeric}
use Rattle.kinds.specs.Bytes.{byte, byte_alphabet, hexadecimal, of_digits}
use Rattle.kinds.specs.AxleMarks.{mark_alphabet, mark_code, mark_named}
use Rattle.kinds.specs.declared.byte.Byte.{Byte}
use Rattle.kinds.specs.declared.mark.Band.{Band}
use Rattle.kinds.specs.declared.mark.Mark.{Mark}
use Rattle.kinds.specs.declared.mark.Mark.TheVariants.{Unread, Single, Dual}

-- two bytes of one value are one: a bound has one proof
pub same_byte : (x y : Byte) → x.value ≡ y.value → x ≡ y
same_byte x y e = λ i. record { value = e i; fits = is_prop→PathP (λ j. e j < 256) (λ j. le_prop) x.fits y.fits i }

-- two bands of one digit are one
pub same_band : (x y : Band) → x.digit ≡ y.digit → x ≡ y
same_band x y e = λ i. record { digit = e i; decimal = is_prop→PathP (λ j. e j < 10) (λ j. le_prop) x.decimal y.decimal i }

-- a hexadecimal digit is a digit or a letter
pub hexadecimal_alphanumeric : (c n : ℕ) → hexadecimal c ≡ Some n → alphanumeric c ≡ true
hexadecimal_alphanumeric c n e = grind (arith, nat_tests)

-- the code of a mark fits 16 bits
pub mark_code_fits : (m : Mark) → mark_code m < 65536
mark_code_fits Unread = omega arith
mark_code_fits (Single b) = omega (arith, b.decimal)
mark_code_fits (Dual b) = omega (arith, b.decimal)

-- two marks of one code are one
pub mark_code_tells : (m n : Mark) → mark_code m ≡ mark_code n → m ≡ n
mark_code_tells Unread Unread e = refl
mark_code_tells Unread (Single b) e = absurd (omega arith)
mark_code_tells Unread (Dual b) e = absurd (omega arith)
mark_code_tells (Single a) Unread e = absurd (omega arith)
mark_code_tells (Single a) (Single b) e = ap Single (same_band a b (omega arith))
mark_code_tells (Single a) (Dual b) e = absurd (omega (arith, a.decimal))
mark_code_tells (Dual a) Unread e = absurd (omega arith)
mark_code_tells (Dual a) (Single b) e = absurd (omega (arith, b.decimal))
mark_code_tells (Dual a) (Dual b) e = ap Dual (same_band a b (omega arith))

-- a pair that names a mark is of a letter and a digit
pub mark_named_alphanumeric : (letter digit : ℕ) (m : Mark) → mark_named letter digit ≡ Some m → (alphanumeric letter ≡ true) × (alphanumeric digit ≡ true)
mark_named_alphanumeric letter digit m e = (grind (arith, nat_tests), grind (arith, nat_tests))

-- a pair that names a byte is of two hexadecimal digits
pub digits_alphanumeric : (first second : ℕ) (x : Byte) → of_digits (hexadecimal first) (hexadecimal second) ≡ Some x → (alphanumeric first ≡ true) × (alphanumeric second ≡ true)
digits_alphanumeric first second x = go (hexadecimal first) (hexadecimal second) refl refl
  where
    go : (high low : Option ℕ) → hexadecimal first ≡ high → hexadecimal second ≡ low → of_digits high low ≡ Some x → (alphanumeric first ≡ true) × (alphanumeric second ≡ true)
    go None low p q e = grind arith
    go (Some h) None p q e = grind arith
    go (Some h) (Some l) p q e = (hexadecimal_alphanumeric first h p, hexadecimal_alphanumeric second l q)

-- the law of a kind, for bytes
pub byte_lawful : Lawful byte_alphabet
byte_lawful = record {
  code_fits = λ x. omega (arith, x.fits);
  code_tells = same_byte;
  pair_alphanumeric = digits_alphanumeric;
  some_pair = (48, 48, byte 0, refl);
  signature_record_fits = omega arith;
  format_record_fits = omega arith;
  records_differ = λ e. omega arith;
}

-- the law of a kind, for axle marks
pub mark_lawful : Lawful mark_alphabet
mark_lawful = record {
  code_fits = mark_code_fits;
  code_tells = mark_code_tells;
  pair_alphanumeric = mark_named_alphanumeric;
  some_pair = (85, 48, Unread, refl);
  signature_record_fits = omega arith;
  format_record_fits = omega arith;
  records_differ = λ e. omega arith;
}
