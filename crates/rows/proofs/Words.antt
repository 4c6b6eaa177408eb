-- The bits of a number: of 0, of 1, of bitwise and, or, of shifts and of masks, and the lowest and the highest bit that is set.
use Rattle.std.proofs.Common.{◌≡◌, ℕ, zero, suc, ◌+◌, ◌-◌, ◌*◌, ◌/◌, ◌%◌, ◌^◌, ◌<◌, ◌≤◌, min, max, Bool, true, false, cond, ◌&&◌, ◌||◌, eqb, ltb, leb, sym, refl, add-zero, ap, ◌∙◌, ap₂, ⊎_elim, lt_of_lt_of_le, mod-lt, arith, pow_pos, pow_mono, shr-shr}
use lib.Bits.{bit_and, bit_or, and_mask}
use lib.Count.{count_leading_zeros, leading_length, count_trailing_zeros}
use mir.Syntax.{w64}
use mir.Val.{bool_byte}
use Rattle.std.specs.Int.{bit_at}
use Rattle.std.proofs.lemmas.Bool.{and_right, cases_lt, le-ltb, lt-ltb, le-leb, lt-leb, ne_eqb}
use Rattle.std.proofs.lemmas.Bool.Decides.{nat_tests}
use Rattle.std.proofs.lemmas.Nat.Bits.{bit_at-lt, bit_at-pow_other, bit_at-trailing_zeros, bit_at-zero, bit_at_above, bit_at_and, bit_at_cat_high, bit_at_cat_low, bit_at_or, ones_shr, shr_and_one}
use Rattle.rows.specs.Words.{bit}

-- no bit of 0 is set
pub bit_of_zero : (k : ℕ) → bit 0 k ≡ false
unfolding bit
bit_of_zero k = ap (λ n. eqb n 1) (bit_at-zero k)

-- a number below 2 ^ k has no bit from k on
pub bit_past : (w k : ℕ) → w < 2 ^ k → bit w k ≡ false
unfolding bit
bit_past w k h = ap (λ n. eqb n 1) (bit_at_above w k k h (omega arith))

-- a digit that is the greater of two
digit_or : (x y : ℕ) → x < 2 → y < 2 → eqb (max x y) 1 ≡ (eqb x 1 || eqb y 1)
digit_or x y hx hy = grind (arith, nat_tests)

-- a bitwise or has the bits of both
pub bit_of_or : (a b k : ℕ) → bit (bit_or a b) k ≡ (bit a k || bit b k)
unfolding bit
bit_of_or a b k = ap (λ n. eqb n 1) (bit_at_or a b k) ∙ digit_or (bit_at a k) (bit_at b k) (bit_at-lt a k) (bit_at-lt b k)

-- a digit that is the lesser of two
digit_and : (x y : ℕ) → x < 2 → y < 2 → eqb (min x y) 1 ≡ (eqb x 1 && eqb y 1)
digit_and x y hx hy = grind (arith, nat_tests)

-- a bitwise and has the bits that both have
pub bit_of_and : (a b k : ℕ) → bit (bit_and a b) k ≡ (bit a k && bit b k)
unfolding bit
bit_of_and a b k = ap (λ n. eqb n 1) (bit_at_and a b k) ∙ digit_and (bit_at a k) (bit_at b k) (bit_at-lt a k) (bit_at-lt b k)

-- a shift to the right by s: bit k is bit s + k of the number
pub bit_shr : (w s k : ℕ) → bit (w / 2 ^ s) k ≡ bit w (s + k)
unfolding bit
bit_shr w s k = rw (shr-shr w s k)

-- the number's low k bits
pub bit_mod : (w k j : ℕ) → bit (w % 2 ^ k) j ≡ (ltb j k && bit w j)
unfolding bit
bit_mod w k j = ⊎_elim below past (cases_lt j k)
  where
    below : j < k → bit (w % 2 ^ k) j ≡ (ltb j k && bit w j)
    below h =
        let whole : w / 2 ^ k * 2 ^ k + w % 2 ^ k ≡ w = search arith in
        ap (λ n. eqb n 1) (sym (bit_at_cat_low (w / 2 ^ k) k (w % 2 ^ k) j h) ∙ ap (λ n. bit_at n j) whole)
        ∙ ap (λ t. t && bit w j) (sym (lt-ltb j k h))

    past : k ≤ j → bit (w % 2 ^ k) j ≡ (ltb j k && bit w j)
    past h =
        ap (λ n. eqb n 1) (bit_at_above (w % 2 ^ k) k j (mod-lt w (pow_pos k)) h) ∙ ap (λ t. t && bit w j) (sym (le-ltb j k h))

-- a shift to the left by s, nothing lost: bit j is bit j - s of the number, and there is none below s
pub bit_shl : (w s j : ℕ) → bit (w * 2 ^ s) j ≡ (leb s j && bit w (j - s))
unfolding bit
bit_shl w s j = ap (λ n. eqb (bit_at n j) 1) (sym (add-zero (w * 2 ^ s))) ∙ ⊎_elim below past (cases_lt j s)
  where
    Same : Type 0
    Same = eqb (bit_at (w * 2 ^ s + 0) j) 1 ≡ (leb s j && bit w (j - s))

    below : j < s → Same
    below h = ap (λ n. eqb n 1) (bit_at_cat_low w s 0 j h ∙ bit_at-zero j) ∙ ap (λ t. t && bit w (j - s)) (sym (lt-leb s j h))

    past : s ≤ j → Same
    past h = ap (λ n. eqb n 1) (bit_at_cat_high w s 0 j (pow_pos s) h) ∙ ap (λ t. t && bit w (j - s)) (sym (le-leb s j h))

-- a word of 64 bits shifted to the left by s
pub bit_shl_word : (w s j : ℕ) → bit ((w * 2 ^ s) % 2 ^ 64) j ≡ (ltb j 64 && (leb s j && bit w (j - s)))
bit_shl_word w s j = bit_mod (w * 2 ^ s) 64 j ∙ ap (λ t. ltb j 64 && t) (bit_shl w s j)

-- the number 1 has bit 0 alone
pub bit_of_one : (k : ℕ) → bit 1 k ≡ eqb k 0
unfolding bit
bit_of_one zero = refl
bit_of_one (suc k) = ap (λ n. eqb n 1) (bit_at-pow_other 0 (suc k) (λ e. omega arith)) ∙ sym (ne_eqb (suc k) 0 (λ e. omega arith))

-- a truth value as a number
pub bit_of_bool : (r : Bool) (k : ℕ) → bit (bool_byte r) k ≡ (eqb k 0 && r)
bit_of_bool true k = let e = bit_of_one k in grind (arith, nat_tests)
bit_of_bool false k = bit_of_zero k ∙ sym (and_right (eqb k 0) false refl)

-- a word with bit s alone
pub bit_single : (s j : ℕ) → s < 64 → bit ((1 * 2 ^ s) % 2 ^ 64) j ≡ eqb j s
bit_single s j h = let e = bit_of_one (j - s) in bit_shl_word 1 s j ∙ grind (arith, nat_tests)

-- bit s, as a test of `w >> s & 1`
pub bit_tested : (w s : ℕ) → eqb (bit_and (w / 2 ^ s) 1) 1 ≡ bit w s
unfolding bit
bit_tested w s = ap (λ n. eqb n 1) (shr_and_one w s)

-- a word moved up by s, with the top bits of the word below it moved in
pub bit_carried : (low high s b : ℕ) → low < 2 ^ 64 → s < 64
    → bit (bit_or ((high * 2 ^ s) % 2 ^ 64) (low / 2 / 2 ^ (63 - s))) b ≡ (ltb b 64 && cond (ltb b s) (bit low (64 - s + b)) (bit high (b - s)))
bit_carried low high s b fits h =
    bit_of_or ((high * 2 ^ s) % 2 ^ 64) (low / 2 / 2 ^ (63 - s)) b ∙ ap₂ ◌||◌ (bit_shl_word high s b) down
    ∙ ⊎_elim below past (cases_lt b s)
  where
    down : bit (low / 2 / 2 ^ (63 - s)) b ≡ bit low (64 - s + b)
    down =
        let e : 1 + (63 - s + b) ≡ 64 - s + b = omega arith in
        bit_shr (low / 2) (63 - s) b ∙ bit_shr low 1 (63 - s + b) ∙ ap (bit low) e

    Whole : Type 0
    Whole =
        ((ltb b 64 && (leb s b && bit high (b - s))) || bit low (64 - s + b))
        ≡ (ltb b 64 && cond (ltb b s) (bit low (64 - s + b)) (bit high (b - s)))

    below : b < s → Whole
    below l = grind (arith, nat_tests)

    past : s ≤ b → Whole
    past l =
        let above : 64 ≤ 64 - s + b = omega arith in
        let e : bit low (64 - s + b) ≡ false = bit_past low (64 - s + b) (lt_of_lt_of_le fits (pow_mono above)) in
        grind (arith, nat_tests)

-- a word cut to its bits 0 to m
pub bit_cut : (w m b : ℕ) → m < 64 → bit (bit_and w ((2 ^ 64 - 1) / 2 ^ (63 - m))) b ≡ (leb b m && bit w b)
bit_cut w m b h =
    let e : 64 - (63 - m) ≡ m + 1 = omega arith in
    ap (λ n. bit (bit_and w n) b) (ones_shr 64 (63 - m) (omega arith) ∙ ap (λ k. 2 ^ k - 1) e)
    ∙ ap (λ n. bit n b) (and_mask w (m + 1)) ∙ bit_mod w (m + 1) b ∙ ap (λ t. t && bit w b) (grind (arith, nat_tests))

-- a word has no bit above its leading zeros
pub leading_above : (w b : ℕ) → w < 2 ^ 64 → 64 - count_leading_zeros 64 w ≤ b → bit w b ≡ false
leading_above w b fits h =
    let long = leading_length 64 w fits in
    let sum = long.1 in
    bit_past w b (lt_of_lt_of_le long.2 (pow_mono (omega arith)))

-- the bit behind the trailing zeros of a word is its lowest
pub record Trailing (n : ℕ) : Type 0 where
  pub held : bit n (count_trailing_zeros 64 n) ≡ true
  pub below : (k : ℕ) → k < count_trailing_zeros 64 n → bit n k ≡ false

-- which is so for a word that is not 0
pub trailing : (n : ℕ) → 0 < n → n < 2 ^ 64 → Trailing n
unfolding bit
trailing n p fits =
    let t = bit_at-trailing_zeros w64 n p fits in
    record { held = ap (λ d. eqb d 1) t.1; below = λ k h. ap (λ d. eqb d 1) (t.2 k h) }
