-- Axle marks as a kind: U0, S0 to S9 and D0 to D9.
use Rattle.std.specs.Prelude.{ℕ, ◌+◌, ◌-◌, ◌%◌, if◌then◌else◌, not, ◌&&◌, List, [], ◌∷◌, Some, None, Option, ◌==◌, nat_lt}
use Rattle.std.proofs.Math.Nat.{zero-lt-suc}
use Rattle.std.proofs.lemmas.Nat.{mod_below}
use Rattle.kinds.specs.Alphabet.{Alphabet, within}
use Rattle.kinds.specs.declared.byte.Byte.{Byte}
use Rattle.kinds.specs.declared.mark.Band.{Band}
use Rattle.kinds.specs.declared.mark.Mark.{Mark}
use Rattle.kinds.specs.declared.mark.Mark.TheVariants.{Unread, Single, Dual}

-- the band n, for n below 10
abbrev pub band : ℕ → Band
band n = record { digit = n % 10; decimal = mod_below n 10 (zero-lt-suc 9) }

-- a number is a band or none
abbrev pub banded : ℕ → Option Band
banded n = if nat_lt n 10 then Some (band n) else None

-- the digit of a band
abbrev pub digit_of : Band → ℕ
digit_of b = b.digit

-- bytes 10 to 19 are S0 to S9, 20 to 29 D0 to D9 (hexadecimal), all others U0
abbrev pub mark_of : Byte → Mark
mark_of b =
    if within 0x10 0x19 b.value then Single (band (b.value - 0x10))
    else if within 0x20 0x29 b.value then Dual (band (b.value - 0x20))
    else Unread

-- U0 has the code 0, Sn the code 16 + n, Dn the code 32 + n
abbrev pub mark_code : Mark → ℕ
mark_code Unread = 0
mark_code (Single b) = 16 + b.digit
mark_code (Dual b) = 32 + b.digit

-- the letter U, S or D, and a digit of which U takes 0 alone
abbrev pub mark_named : ℕ → ℕ → Option Mark
mark_named letter digit =
    if not (within 48 57 digit) then None
    else if letter == 85 && digit == 48 then Some Unread
    else if letter == 83 then Some (Single (band (digit - 48)))
    else if letter == 68 then Some (Dual (band (digit - 48)))
    else None

-- the letter and the digit of a mark, as characters
abbrev pub mark_pair : Mark → ℕ × ℕ
mark_pair Unread = (85, 48)
mark_pair (Single b) = (83, 48 + b.digit)
mark_pair (Dual b) = (68, 48 + b.digit)

-- the pair as text
abbrev pub mark_text : Mark → List ℕ
mark_text m = (mark_pair m).0 ∷ (mark_pair m).1 ∷ []

-- axle marks as a kind
abbrev pub mark_alphabet : Alphabet Mark
mark_alphabet = record {
  code = mark_code;
  named = mark_named;
  signature_record = 2;
  format_record = 4;
}
