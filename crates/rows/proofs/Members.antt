-- Members of a row, by its words.
use Rattle.std.proofs.Common.{◌≡◌, ℕ, ◌+◌, ◌-◌, ◌*◌, ◌/◌, ◌%◌, ◌^◌, ◌<◌, ◌≤◌, Bool, true, false, cond, ◌&&◌, ◌||◌, eqb, ltb, leb, List, length, get_or, set, replicate, sym, refl, ap, ◌∙◌, ap₂, ⊎_elim, arith}
use lib.Bits.{bit_and, bit_or}
use Rattle.std.proofs.lemmas.List.{get_or-replicate, get_or-set_other, get_or-set_same}
use Rattle.std.proofs.lemmas.Bool.{both_ways, cases_eq, cases_lt, cases_order, le-leb, le-ltb, lt-leb, lt-ltb}
use Rattle.std.proofs.lemmas.Bool.Decides.{nat_tests}
use Rattle.rows.specs.declared.Row.{Row}
use Rattle.rows.specs.Rows.{member, moved}
use Rattle.rows.specs.Words.{bit}
use Rattle.rows.proofs.Words.{bit_cut, bit_of_zero, bit_of_or, bit_single}

-- no offset from 1,024 on is a member
pub member_past : (row : Row) (k : ℕ) → 1024 ≤ k → member row k ≡ false
unfolding member
member_past row k h = ap (λ t. t && bit (get_or row.words (k / 64) 0) (k % 64)) (le-ltb k 1024 h)

-- below 1,024 a member is a bit of a word
pub member_bit : (row : Row) (k : ℕ) → k < 1024 → member row k ≡ bit (get_or row.words (k / 64) 0) (k % 64)
unfolding member
member_bit row k h = ap (λ t. t && bit (get_or row.words (k / 64) 0) (k % 64)) (lt-ltb k 1024 h)

-- a row has the members of `f` if each bit of its words is as `f` says
pub by_words : (row : Row) (f : ℕ → Bool) → ((j : ℕ) → j < 1024 → bit (get_or row.words (j / 64) 0) (j % 64) ≡ f j)
    → ((j : ℕ) → 1024 ≤ j → f j ≡ false) → (j : ℕ) → member row j ≡ f j
by_words row f below past j =
    ⊎_elim (λ h. member_bit row j h ∙ below j h) (λ h. member_past row j h ∙ sym (past j h)) (cases_lt j 1024)

-- the same, where `f` may say more from 1,024 on
pub by_words_below : (row : Row) (f : ℕ → Bool) → ((j : ℕ) → j < 1024 → bit (get_or row.words (j / 64) 0) (j % 64) ≡ f j)
    → (j : ℕ) → member row j ≡ (ltb j 1024 && f j)
by_words_below row f below =
    by_words row (λ j. ltb j 1024 && f j) (λ j h. below j h ∙ ap (λ t. t && f j) (sym (lt-ltb j 1024 h)))
    (λ j h. ap (λ t. t && f j) (le-ltb j 1024 h))

-- rows with the same words have the same members
pub same_members : (a b : Row) → a.words ≡ b.words → (j : ℕ) → member a j ≡ member b j
unfolding member
same_members a b e j = ap (λ words. ltb j 1024 && bit (get_or words (j / 64) 0) (j % 64)) e

-- no member falls in a word that is not in use
pub member_unused : (row : Row) (j : ℕ) → row.used ≤ j / 64 → member row j ≡ false
member_unused row j h =
    ⊎_elim (λ l. member_bit row j l ∙ ap (λ w. bit w (j % 64)) (row.past (j / 64) h) ∙ bit_of_zero (j % 64)) (member_past row j) (cases_lt j 1024)

-- no bit of a row of 16 words that are 0 is set
no_bits : (j : ℕ) → j < 1024 → bit (get_or (replicate 16 0) (j / 64) 0) (j % 64) ≡ false
no_bits j h = ap (λ w. bit w (j % 64)) (get_or-replicate 16 (j / 64) 0 0 (omega arith)) ∙ bit_of_zero (j % 64)

-- a bit of a row in which the word i has been written
pub bit_after_set : (words : List ℕ) (i word j : ℕ) (x : Bool) → i < length words → (j / 64 ≡ i → bit word (j % 64) ≡ x)
    → ((j / 64 ≡ i → ⊥) → bit (get_or words (j / 64) 0) (j % 64) ≡ x) → bit (get_or (set words i word) (j / 64) 0) (j % 64) ≡ x
bit_after_set words i word j x h same other =
    ⊎_elim
    (λ e.
    ap (λ k. bit (get_or (set words i word) k 0) (j % 64)) e ∙ ap (λ w. bit w (j % 64)) (get_or-set_same words i word 0 h) ∙ same e)
    (λ ne. ap (λ w. bit w (j % 64)) (get_or-set_other words i (j / 64) word 0 ne) ∙ other ne) (cases_eq (j / 64) i)

-- one bit more in the word that k falls in
pub member_inserted : (row with : Row) (k : ℕ) → length row.words ≡ 16 → k < 1024
    → with.words ≡ set row.words (k / 64) (bit_or (get_or row.words (k / 64) 0) ((1 * 2 ^ (k % 64)) % 2 ^ 64))
    → (j : ℕ) → member with j ≡ (member row j || (ltb k 1024 && eqb j k))
member_inserted row with k len h written = by_words with more (λ j l. ap (λ words. bit (get_or words (j / 64) 0) (j % 64)) written ∙ below j l) past
  where
    old : ℕ
    old = get_or row.words (k / 64) 0

    one : ℕ
    one = (1 * 2 ^ (k % 64)) % 2 ^ 64

    more : ℕ → Bool
    more j = member row j || (ltb k 1024 && eqb j k)

    past : (j : ℕ) → 1024 ≤ j → more j ≡ false
    past j l = let e = member_past row j l in grind (arith, nat_tests)

    same : (j : ℕ) → j < 1024 → j / 64 ≡ k / 64 → bit (bit_or old one) (j % 64) ≡ more j
    same j l e =
        let m : member row j ≡ bit old (j % 64) = member_bit row j l ∙ ap (λ i. bit (get_or row.words i 0) (j % 64)) e in
        let s = bit_single (k % 64) (j % 64) (omega arith) in
        bit_of_or old one (j % 64) ∙ ap₂ ◌||◌ (sym m) (s ∙ grind (arith, nat_tests))

    other : (j : ℕ) → j < 1024 → (j / 64 ≡ k / 64 → ⊥) → bit (get_or row.words (j / 64) 0) (j % 64) ≡ more j
    other j l ne = let d : j ≡ k → ⊥ = λ e. ne (ap (λ i. i / 64) e) in sym (member_bit row j l) ∙ grind (arith, nat_tests)

    below : (j : ℕ) → j < 1024 → bit (get_or (set row.words (k / 64) (bit_or old one)) (j / 64) 0) (j % 64) ≡ more j
    below j l = bit_after_set row.words (k / 64) (bit_or old one) j (more j) (omega arith) (same j l) (other j l)

-- a row whose words are all 0 has no member
pub member_empty : (row : Row) → row.words ≡ replicate 16 0 → (j : ℕ) → member row j ≡ false
member_empty row e =
    by_words row (λ j. false) (λ j l. ap (λ words. bit (get_or words (j / 64) 0) (j % 64)) e ∙ no_bits j l) (λ j l. refl)

-- the bits of a word that `carried` gives, from the word below and its own
abbrev pub Carried : ℕ → ℕ → ℕ → ℕ → Type 0
Carried low high s word = (b : ℕ) → bit word b ≡ (ltb b 64 && cond (ltb b s) (bit low (64 - s + b)) (bit high (b - s)))

-- A word of a row moved on: `high` is word `from`, which it comes from, and `low` the word below that, or 0 where there is none.
pub moved_word : (row : Row) (by j from low high word : ℕ) → j < 1024 → by / 64 + from ≡ j / 64 → high ≡ get_or row.words from 0
    → (0 < from → low ≡ get_or row.words (from - 1) 0) → (from ≡ 0 → low ≡ 0)
    → Carried low high (by % 64) word
    → bit word (j % 64) ≡ moved row by j
unfolding moved
moved_word row by j from low high word h l top under none bits =
    bits (j % 64) ∙ ⊎_elim (λ s. ⊎_elim (carried s) (λ e. nothing s (omega arith)) (cases_lt 0 from)) own (cases_lt (j % 64) (by % 64))
  where
    Same : Type 0
    Same =
        (ltb (j % 64) 64 && cond (ltb (j % 64) (by % 64)) (bit low (64 - by % 64 + j % 64)) (bit high (j % 64 - by % 64)))
        ≡ (leb by j && member row (j - by))

    -- the member at j - by, by its word and bit
    at : (w b : ℕ) → by ≤ j → get_or row.words ((j - by) / 64) 0 ≡ w → (j - by) % 64 ≡ b → member row (j - by) ≡ bit w b
    at w b k e f = member_bit row (j - by) (omega arith) ∙ ap₂ bit e f

    carried : j % 64 < by % 64 → 0 < from → Same
    carried s k =
        let e : (j - by) / 64 ≡ from - 1 = omega arith in
        let m = at low (64 - by % 64 + j % 64) (omega arith) (ap (λ i. get_or row.words i 0) e ∙ sym (under k)) (omega arith) in
        grind (arith, nat_tests)

    nothing : j % 64 < by % 64 → from ≡ 0 → Same
    nothing s k =
        let z : bit low (64 - by % 64 + j % 64) ≡ false = ap (λ w. bit w (64 - by % 64 + j % 64)) (none k) ∙ bit_of_zero (64 - by % 64 + j % 64) in
        let short : j < by = omega arith in
        grind (arith, nat_tests)

    own : by % 64 ≤ j % 64 → Same
    own s =
        let e : (j - by) / 64 ≡ from = omega arith in
        let m = at high (j % 64 - by % 64) (omega arith) (ap (λ i. get_or row.words i 0) e ∙ sym top) (omega arith) in
        grind (arith, nat_tests)

-- a word of a row moved on, past the first that one is moved to: it comes from two words
pub later_word : (row : Row) (by i word : ℕ) → by / 64 < i → i < 16
    → Carried (get_or row.words (i - by / 64 - 1) 0) (get_or row.words (i - by / 64) 0) (by % 64) word
    → (j : ℕ) → j / 64 ≡ i → bit word (j % 64) ≡ moved row by j
later_word row by i word h few bits j e =
    let from = i - by / 64 in
    moved_word row by j from (get_or row.words (from - 1) 0) (get_or row.words from 0) word (omega arith) (omega arith) refl (λ k. refl)
    (λ k. absurd (omega arith)) bits

-- the first word that one is moved to comes from the row's first word alone
pub first_word : (row : Row) (by word : ℕ) → by / 64 < 16 → Carried 0 (get_or row.words 0 0) (by % 64) word
    → (j : ℕ) → j / 64 ≡ by / 64 → bit word (j % 64) ≡ moved row by j
first_word row by word few bits j e =
    moved_word row by j 0 0 (get_or row.words 0 0) word (omega arith) (omega arith) refl (λ k. absurd (omega arith)) (λ k. refl) bits

-- nothing is moved to below the distance
pub moved_short : (row : Row) (by j : ℕ) → j < by → moved row by j ≡ false
unfolding moved
moved_short row by j h = ap (λ t. t && member row (j - by)) (lt-leb by j h)

-- a row cut in the word that `last` falls in, with 0 in the words above
pub member_cut : (row cut : Row) (last : ℕ) → last < 1024 → ((k : ℕ) → k < last / 64 → get_or cut.words k 0 ≡ get_or row.words k 0)
    → get_or cut.words (last / 64) 0 ≡ bit_and (get_or row.words (last / 64) 0) ((2 ^ 64 - 1) / 2 ^ (63 - last % 64))
    → ((k : ℕ) → last / 64 < k → get_or cut.words k 0 ≡ 0) → (j : ℕ) → member cut j ≡ (leb j last && member row j)
member_cut row cut last h lower edge upper = by_words cut (λ j. leb j last && member row j) below past
  where
    past : (j : ℕ) → 1024 ≤ j → (leb j last && member row j) ≡ false
    past j l = let m = member_past row j l in grind (arith, nat_tests)

    below : (j : ℕ) → j < 1024 → bit (get_or cut.words (j / 64) 0) (j % 64) ≡ (leb j last && member row j)
    below j l =
        let m = member_bit row j l in
        ⊎_elim
        (λ e.
        ap (λ k. bit (get_or cut.words k 0) (j % 64)) e ∙ ap (λ w. bit w (j % 64)) edge
        ∙ bit_cut (get_or row.words (last / 64) 0) (last % 64) (j % 64) (omega arith)
        ∙ ap₂ ◌&&◌ (grind (arith, nat_tests)) (ap (λ k. bit (get_or row.words k 0) (j % 64)) (sym e) ∙ sym m))
        (⊎_elim
        (λ s. ap (λ w. bit w (j % 64)) (lower (j / 64) s) ∙ sym m ∙ ap (λ t. t && member row j) (sym (le-leb j last (omega arith))))
        (λ s.
        ap (λ w. bit w (j % 64)) (upper (j / 64) s) ∙ bit_of_zero (j % 64)
        ∙ ap (λ t. t && member row j) (sym (lt-leb j last (omega arith)))))
        (cases_order (j / 64) (last / 64))

-- every member is at most an offset past the words in use
pub member_all : (row : Row) (last j : ℕ) → row.used ≤ last / 64 → member row j ≡ (leb j last && member row j)
member_all row last j h =
    ⊎_elim (λ l. ap (λ t. t && member row j) (sym (le-leb j last (omega arith)))) (λ l. let m = member_unused row j l in grind (arith, nat_tests))
    (cases_lt (j / 64) row.used)

-- a member is below 1,024
pub member_below : (row : Row) (k : ℕ) → member row k ≡ true → k < 1024
member_below row k e = ⊎_elim (λ h. h) (λ h. absurd (both_ways (member row k) (member_past row k h) e)) (cases_lt k 1024)
