-- The least member from an offset on, by the trailing zeros of a word.
use Rattle.std.proofs.Common.{◌≡◌, ℕ, ◌+◌, ◌-◌, ◌*◌, ◌/◌, ◌%◌, ◌^◌, ◌<◌, ◌≤◌, Bool, true, false, not, get_or, is_some, Some, None, MatchBool, Option, sym, ap, ◌∙◌, ap₂, ⊎_elim, lt_of_lt_of_le, arith, pow_mono, MatchOption}
use lib.Count.{count_trailing_zeros}
use lib.Pow.{shr_le}
use Rattle.std.proofs.lemmas.Bool.{both_ways, cases_lt, false≢true, true≢false}
use Rattle.rows.specs.declared.Row.{Row}
use Rattle.rows.specs.Rows.{member, FirstFrom, NoneFrom}
use Rattle.rows.specs.Words.{bit}
use Rattle.rows.proofs.Members.{member_bit, member_unused}
use Rattle.rows.proofs.Words.{bit_of_zero, bit_past, bit_shr, trailing}

-- b is the lowest bit from s on that is set in the word
pub record Lowest (w s b : ℕ) : Type 0 where
  pub held : bit w b ≡ true
  pub inside : b < 64
  pub reached : s ≤ b
  pub before : (k : ℕ) → s ≤ k → k < b → bit w k ≡ false

-- the trailing zeros of the word shifted down by s lead to that bit
pub lowest : (w v s : ℕ) → w < 2 ^ 64 → v ≡ w / 2 ^ s → 0 < v → Lowest w s (s + count_trailing_zeros 64 v)
lowest w v s fits is p =
    record { held = here; inside = ⊎_elim (λ h. h) beyond (cases_lt (s + t) 64); reached = omega arith; before = below }
  where
    t : ℕ
    t = count_trailing_zeros 64 v

    down : (k : ℕ) → bit w (s + k) ≡ bit v k
    down k = sym (ap (λ n. bit n k) is ∙ bit_shr w s k)

    small : v < 2 ^ 64
    small = omega (arith, shr_le w s)

    here : bit w (s + t) ≡ true
    here = down t ∙ (trailing v p small).held

    beyond : 64 ≤ s + t → s + t < 64
    beyond h = absurd (both_ways (bit w (s + t)) (bit_past w (s + t) (lt_of_lt_of_le fits (pow_mono h))) here)

    below : (k : ℕ) → s ≤ k → k < s + t → bit w k ≡ false
    below k l h =
        let e : s + (k - s) ≡ k = omega arith in
        ap (bit w) (sym e) ∙ down (k - s) ∙ (trailing v p small).below (k - s) (omega arith)

-- a word with no bit from s on
no_bit : (w s b : ℕ) → w / 2 ^ s ≡ 0 → s ≤ b → bit w b ≡ false
no_bit w s b z h =
    let e : s + (b - s) ≡ b = omega arith in
    ap (bit w) (sym e) ∙ sym (bit_shr w s (b - s)) ∙ ap (λ n. bit n (b - s)) z ∙ bit_of_zero (b - s)

-- a member, by its word and bit
member_at : (row : Row) (i b j : ℕ) → i < 16 → b < 64 → j ≡ 64 * i + b → member row j ≡ bit (get_or row.words i 0) b
member_at row i b j h l e =
    let d : j / 64 ≡ i = omega arith in
    let m : j % 64 ≡ b = omega arith in
    member_bit row j (omega arith) ∙ ap₂ (λ x y. bit (get_or row.words x 0) y) d m

-- the least member from `start` on is in word i, from its bit s on, if none stands before that bit
pub first_in : (row : Row) (start i s v base : ℕ) → i < 16 → s < 64 → base ≡ 64 * i + s → get_or row.words i 0 < 2 ^ 64
    → v ≡ get_or row.words i 0 / 2 ^ s → 0 < v → start ≤ base → ((j : ℕ) → start ≤ j → j < base → member row j ≡ false)
    → FirstFrom row start (base + count_trailing_zeros 64 v)
first_in row start i s v base hi hs eb fits is p le none =
    let low = lowest (get_or row.words i 0) v s fits is p in
    record {
      held = member_at row i (s + t) (base + t) hi low.inside (omega arith) ∙ low.held;
      reached = omega arith;
      before = λ j l h. ⊎_elim (none j l) (past low j h) (cases_lt j base);
    }
  where
    t : ℕ
    t = count_trailing_zeros 64 v

    past : Lowest (get_or row.words i 0) s (s + t) → (j : ℕ) → j < base + t → base ≤ j → member row j ≡ false
    past low j h l =
        let inside = low.inside in
        member_at row i (j - 64 * i) j hi (omega arith) (omega arith) ∙ low.before (j - 64 * i) (omega arith) (omega arith)

-- no member stands from `from` on and before word `until`, where the word of `from` has no bit from there on and the words behind are 0
pub none_between : (row : Row) (from n : ℕ) → from < 1024 → get_or row.words (from / 64) 0 / 2 ^ (from % 64) ≡ 0 → from / 64 + 1 + n ≤ 16
    → ((k : ℕ) → k < n → get_or row.words (from / 64 + 1 + k) 0 ≡ 0)
    → (j : ℕ) → from ≤ j → j < 64 * (from / 64 + 1 + n) → member row j ≡ false
none_between row from n below zero few zeros j h l = ⊎_elim own behind (cases_lt (j / 64) (from / 64 + 1))
  where
    own : j / 64 < from / 64 + 1 → member row j ≡ false
    own k =
        member_at row (from / 64) (j % 64) j (omega arith) (omega arith) (omega arith)
        ∙ no_bit (get_or row.words (from / 64) 0) (from % 64) (j % 64) zero (omega arith)

    behind : from / 64 + 1 ≤ j / 64 → member row j ≡ false
    behind k =
        let at : from / 64 + 1 + (j / 64 - (from / 64 + 1)) ≡ j / 64 = omega arith in
        member_bit row j (omega arith)
        ∙ ap (λ w. bit w (j % 64)) (ap (λ i. get_or row.words i 0) (sym at) ∙ zeros (j / 64 - (from / 64 + 1)) (omega arith)) ∙ bit_of_zero (j % 64)

-- no member stands from `from` on, where all words in use behind are 0
pub none_behind : (row : Row) (from : ℕ) → from / 64 < row.used → get_or row.words (from / 64) 0 / 2 ^ (from % 64) ≡ 0
    → ((k : ℕ) → k < row.used - (from / 64 + 1) → get_or row.words (from / 64 + 1 + k) 0 ≡ 0) → NoneFrom row from
unfolding NoneFrom
none_behind row from inside zero zeros j h =
    let few = row.within in
    ⊎_elim (λ l. none_between row from (row.used - (from / 64 + 1)) (omega arith) zero (omega arith) zeros j h (omega arith))
    (member_unused row j) (cases_lt (j / 64) row.used)

-- nor where the word of `from` is not in use
pub none_unused : (row : Row) (from : ℕ) → row.used ≤ from / 64 → NoneFrom row from
unfolding NoneFrom
none_unused row from h j l = member_unused row j (omega arith)

-- a search from 0 on says whether there is a member
pub none_at_all : (row : Row) (o : Option ℕ) (r : Bool) → MatchOption o (NoneFrom row 0) (FirstFrom row 0) → is_some o ≡ not r
    → MatchBool r ((j : ℕ) → member row j ≡ false) ((j : ℕ) × (member row j ≡ true))
unfolding NoneFrom
none_at_all row None true h e = λ j. h j (omega arith)
none_at_all row None false h e = absurd (false≢true e)
none_at_all row (Some k) true h e = absurd (true≢false e)
none_at_all row (Some k) false h e = (k, h.held)
