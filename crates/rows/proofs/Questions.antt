-- A question that is asked about the bits of a word, from the highest down, and about the words of a row.
use Rattle.std.proofs.Common.{◌≡◌, ℕ, ◌+◌, ◌-◌, ◌*◌, ◌%◌, ◌^◌, ◌<◌, ◌≤◌, Bool, true, ◌&&◌, ◌||◌, eqb, ltb, leb, sym, ap, ◌∙◌, ap₂, ⊎_elim, arith}
use lib.Bits.{bit_and, bit_or}
use lib.Count.{count_leading_zeros, count_trailing_zeros}
use Rattle.std.proofs.lemmas.Bool.{and_right, both_ways, cases_Bool, cases_lt, le-ltb, lt-ltb}
use Rattle.std.proofs.lemmas.Bool.Decides.{nat_tests}
use Rattle.rows.specs.Words.{bit}
use Rattle.rows.proofs.Words.{bit_of_and, bit_of_zero, bit_of_or, bit_shl_word, leading_above, trailing}

-- the bits of a number are the answers from a bit up to `top`
abbrev pub Answers : (ℕ → Bool) → ℕ → ℕ → ℕ → ℕ → Type 0
Answers f base top next on = (k : ℕ) → bit on k ≡ (ltb k (top - next) && f (base + next + k))

-- before the first answer
pub answers_none : (f : ℕ → Bool) (base top : ℕ) → Answers f base top top 0
answers_none f base top k = bit_of_zero k ∙ ap (λ t. t && f (base + top + k)) (sym (le-ltb k (top - top) (omega arith)))

-- one answer more
pub answers_more : (f : ℕ → Bool) (base top next on : ℕ) (r : Bool) → 0 < next → next ≤ top → top ≤ 64
    → Answers f base top next on → r ≡ f (base + (next - 1)) → (x : ℕ) → ((k : ℕ) → bit x k ≡ (eqb k 0 && r))
    → Answers f base top (next - 1) (bit_or ((on * 2 ^ 1) % 2 ^ 64) x)
answers_more f base top next on r p l t before is x bits k =
    bit_of_or ((on * 2 ^ 1) % 2 ^ 64) x k ∙ ap₂ ◌||◌ (bit_shl_word on 1 k) (bits k) ∙ ⊎_elim first later (cases_lt k 1)
  where
    Same : Type 0
    Same = ((ltb k 64 && (leb 1 k && bit on (k - 1))) || (eqb k 0 && r)) ≡ (ltb k (top - (next - 1)) && f (base + (next - 1) + k))

    first : k < 1 → Same
    first h =
        let e : base + (next - 1) + k ≡ base + (next - 1) = omega arith in
        let same : f (base + (next - 1) + k) ≡ r = ap f e ∙ sym is in
        grind (arith, nat_tests)

    later : 1 ≤ k → Same
    later h =
        let e : base + next + (k - 1) ≡ base + (next - 1) + k = omega arith in
        let old : bit on (k - 1) ≡ (ltb (k - 1) (top - next) && f (base + (next - 1) + k)) = before (k - 1) ∙ ap (λ n. ltb (k - 1) (top - next) && f n) e in
        grind (arith, nat_tests)

-- a word that is not 0 has its lowest bit below the end of its bits
pub lowest_below : (word : ℕ) → 0 < word → word < 2 ^ 64 → count_trailing_zeros 64 word < 64 - count_leading_zeros 64 word
lowest_below word p fits =
    ⊎_elim (λ h. h) (λ h. absurd (both_ways (bit word t) (leading_above word t fits h) (trailing word p fits).held)) (cases_lt t (64 - count_leading_zeros 64 word))
  where
    t : ℕ
    t = count_trailing_zeros 64 word

-- all answers, cut to the bits of the word
pub answers_all : (f : ℕ → Bool) (base word on : ℕ) → 0 < word → word < 2 ^ 64
    → Answers f base (64 - count_leading_zeros 64 word) (count_trailing_zeros 64 word) on
    → (b : ℕ) → bit (bit_and ((on * 2 ^ count_trailing_zeros 64 word) % 2 ^ 64) word) b ≡ (bit word b && f (base + b))
answers_all f base word on p fits all b =
    bit_of_and ((on * 2 ^ least) % 2 ^ 64) word b ∙ ap (λ t. t && bit word b) (bit_shl_word on least b)
    ∙ ⊎_elim held (λ e. let left = and_right (ltb b 64 && (leb least b && bit on (b - least))) (bit word b) e in grind (arith, nat_tests)) (cases_Bool (bit word b))
  where
    least : ℕ
    least = count_trailing_zeros 64 word

    top : ℕ
    top = 64 - count_leading_zeros 64 word

    Same : Type 0
    Same = ((ltb b 64 && (leb least b && bit on (b - least))) && bit word b) ≡ (bit word b && f (base + b))

    low : bit word b ≡ true → least ≤ b
    low e = ⊎_elim (λ h. absurd (both_ways (bit word b) ((trailing word p fits).below b h) e)) (λ h. h) (cases_lt b least)

    high : bit word b ≡ true → b < top
    high e = ⊎_elim (λ h. h) (λ h. absurd (both_ways (bit word b) (leading_above word b fits h) e)) (cases_lt b top)

    held : bit word b ≡ true → Same
    held e =
        let l = low e in
        let h = high e in
        let short : top ≤ 64 = omega arith in
        let at : base + least + (b - least) ≡ base + b = omega arith in
        let is : bit on (b - least) ≡ f (base + b) =
        all (b - least) ∙ ap₂ ◌&&◌ (lt-ltb (b - least) (top - least) (omega arith)) (ap f at) in
        grind (arith, nat_tests)
