-- Bytes as a kind: the code is the value, the pair two hexadecimal digits in upper case.
use Rattle.std.specs.Prelude.{ℕ, ◌+◌, ◌-◌, ◌*◌, ◌%◌, if◌then◌else◌, Some, None, Option}
use Rattle.std.proofs.Math.Nat.{zero-lt-suc}
use Rattle.std.proofs.lemmas.Nat.{mod_below}
use Rattle.kinds.specs.Alphabet.{Alphabet, within}
use Rattle.kinds.specs.declared.byte.Byte.{Byte}

-- the byte of the value n, for n below 256
abbrev pub byte : ℕ → Byte
byte n = record { value = n % 256; fits = mod_below n 256 (zero-lt-suc 255) }

-- the value of a digit 0-9 or A-F
abbrev pub hexadecimal : ℕ → Option ℕ
hexadecimal c =
    if within 48 57 c then Some (c - 48)
    else if within 65 70 c then Some (c - 55)
    else None

-- the byte of a high and a low digit
abbrev pub of_digits : Option ℕ → Option ℕ → Option Byte
of_digits None low = None
of_digits (Some high) None = None
of_digits (Some high) (Some low) = Some (byte (16 * high + low))

-- bytes as a kind
abbrev pub byte_alphabet : Alphabet Byte
byte_alphabet = record {
  code = λ b. b.value;
  named = λ a b. of_digits (hexadecimal a) (hexadecimal b);
  signature_record = 1;
  format_record = 3;
}
