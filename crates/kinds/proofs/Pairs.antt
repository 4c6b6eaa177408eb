-- Bytes and bands are told by their numbers, and a mark by its pair.
use Rattle.std.specs.Prelude.{◌≡◌, ℕ, ◌+◌, ◌-◌, ◌<◌, ◌≤◌, Some, refl}
use Rattle.std.proofs.Common.{ap, ◌∙◌, sym, arith}
use Rattle.std.proofs.lemmas.Bool.Decides.{nat_tests}
use Rattle.kinds.specs.Bytes.{byte, hexadecimal}
use Rattle.kinds.specs.AxleMarks.{band, mark_named, mark_of, mark_pair}
use Rattle.kinds.specs.declared.byte.Byte.{Byte}
use Rattle.kinds.specs.declared.mark.Band.{Band}
use Rattle.kinds.specs.declared.mark.Mark.{Mark}
use Rattle.kinds.specs.declared.mark.Mark.TheVariants.{Unread, Single, Dual}
use Rattle.kinds.specs.Laws.{same_byte, same_band}

-- a byte with the value n is the byte that is made of n
pub is_byte : (x : Byte) (n : ℕ) → x.value ≡ n → x ≡ byte n
is_byte x n e = same_byte x (byte n) (omega (arith, x.fits))

-- a band with the digit n is the band that is made of n
pub is_band : (x : Band) (n : ℕ) → x.digit ≡ n → x ≡ band n
is_band x n e = same_band x (band n) (omega (arith, x.decimal))

-- the value of a hexadecimal digit is below 16
pub hexadecimal_small : (c n : ℕ) → hexadecimal c ≡ Some n → n < 16
hexadecimal_small c n e = grind (arith, nat_tests)

-- a byte within the range of the single tyres is the mark of its band
pub mark_of_single : (b : Byte) (t : Band) → 0x10 ≤ b.value → b.value < 0x1a → t.digit ≡ b.value - 0x10 → Single t ≡ mark_of b
mark_of_single b t low high e = ap Single (is_band t _ e) ∙ grind (arith, nat_tests)

-- a byte within the range of the dual tyres is the mark of its band
pub mark_of_dual : (b : Byte) (t : Band) → 0x20 ≤ b.value → b.value < 0x2a → t.digit ≡ b.value - 0x20 → Dual t ≡ mark_of b
mark_of_dual b t low high e = ap Dual (is_band t _ e) ∙ grind (arith, nat_tests)

-- what a digit character names behind S and D
named_at : (c : ℕ) → 48 ≤ c → c ≤ 57 → (mark_named 83 c ≡ Some (Single (band (c - 48)))) × (mark_named 68 c ≡ Some (Dual (band (c - 48))))
named_at c low high = (grind (arith, nat_tests), grind (arith, nat_tests))

-- S and the digit of a band name the single tyre of that band
named_single : (b : Band) (c : ℕ) → c ≡ 48 + b.digit → mark_named 83 c ≡ Some (Single b)
named_single b c e =
    let within : b.digit < 10 = b.decimal in
    let own : band (c - 48) ≡ b = sym (is_band b (c - 48) (omega arith)) in
    (named_at c (omega arith) (omega arith)).0 ∙ ap (λ t. Some (Single t)) own

-- D and the digit of a band name the dual tyre of that band
named_dual : (b : Band) (c : ℕ) → c ≡ 48 + b.digit → mark_named 68 c ≡ Some (Dual b)
named_dual b c e =
    let within : b.digit < 10 = b.decimal in
    let own : band (c - 48) ≡ b = sym (is_band b (c - 48) (omega arith)) in
    (named_at c (omega arith) (omega arith)).1 ∙ ap (λ t. Some (Dual t)) own

-- the pair of a mark names it
pub mark_pair_names : (m : Mark) → mark_named (mark_pair m).0 (mark_pair m).1 ≡ Some m
mark_pair_names Unread = refl
mark_pair_names (Single b) = named_single b _ refl
mark_pair_names (Dual b) = named_dual b _ refl
