-- Words of a row written one after the other.
use Rattle.std.proofs.Common.{◌≡◌, ℕ, ◌+◌, ◌-◌, ◌*◌, ◌/◌, ◌%◌, ◌<◌, ◌≤◌, min, max, Bool, false, ◌&&◌, ◌||◌, ltb, leb, ◌⊎◌, List, length, get_or, set, refl, sym, ap, ◌∙◌, ap₂, inl, inr, ⊎_elim, arith}
use lib.Bits.{bit_or}
use Rattle.std.proofs.lemmas.List.{get_or-set_other}
use Rattle.std.proofs.lemmas.Bool.{and_right, cases_lt, le-ltb, lt-ltb}
use Rattle.std.proofs.lemmas.Bool.Decides.{nat_tests}
use Rattle.rows.specs.declared.Row.{Row}
use Rattle.rows.specs.Rows.{member, moved}
use Rattle.rows.specs.Words.{bit}
use Rattle.rows.proofs.Members.{bit_after_set, by_words, member_bit, member_past, member_unused, moved_short}
use Rattle.rows.proofs.Words.{bit_of_or, bit_of_zero}

-- the words from `low` up to `high` have the bits that `f` says, and all others are those of the row `old`
pub record Written (old : Row) (words : List ℕ) (low high : ℕ) (f : ℕ → Bool) : Type 0 where
  pub done : (j : ℕ) → low ≤ j / 64 → j / 64 < high → bit (get_or words (j / 64) 0) (j % 64) ≡ f j
  pub below : (k : ℕ) → k < low → get_or words k 0 ≡ get_or old.words k 0
  pub past : (k : ℕ) → high ≤ k → get_or words k 0 ≡ get_or old.words k 0

-- one word more, at either end
pub written_more : {old : Row} {words : List ℕ} {low high : ℕ} {f : ℕ → Bool} (i word : ℕ) {now_low now_high : ℕ} → Written old words low high f
    → i < length words → low ≤ i + 1 → i ≤ high → now_low ≡ min low i → now_high ≡ max high (i + 1)
    → ((j : ℕ) → j / 64 ≡ i → bit word (j % 64) ≡ f j) → Written old (set words i word) now_low now_high f
written_more {words = words} {f = f} i word w inside a b el eh bits =
    record {
      done = λ j l h. bit_after_set words i word j (f j) inside (bits j) (λ ne. w.done j (omega arith) (omega arith));
      below = λ k l. get_or-set_other words i k word 0 (λ q. omega arith) ∙ w.below k (omega arith);
      past = λ k l. get_or-set_other words i k word 0 (λ q. omega arith) ∙ w.past k (omega arith);
    }

-- the bit of a word that is not written yet is a member of the row
bit_unwritten : {old : Row} {words : List ℕ} {low high : ℕ} {f : ℕ → Bool} (i j : ℕ) → Written old words low high f
    → i < 16 → (i < low) ⊎ (high ≤ i) → j / 64 ≡ i → bit (get_or words i 0) (j % 64) ≡ member old j
bit_unwritten {old = old} i j w few side e =
    ap (λ x. bit x (j % 64)) (⊎_elim (w.below i) (w.past i) side) ∙ ap (λ k. bit (get_or old.words k 0) (j % 64)) (sym e)
    ∙ sym (member_bit old j (omega arith))

-- a row whose words all have the bits that `f` says: those written, and those of the row `old` that are left
written_all : {old : Row} (row : Row) {low high : ℕ} {f : ℕ → Bool} → Written old row.words low high f
    → ((j : ℕ) → j < 1024 → (j / 64 < low) ⊎ (high ≤ j / 64) → member old j ≡ f j) → ((j : ℕ) → 1024 ≤ j → f j ≡ false)
    → (j : ℕ) → member row j ≡ f j
written_all {old = old} row {low = low} {high = high} {f = f} w rest =
    by_words row f
    (λ j h.
    let outside = λ (side : (j / 64 < low) ⊎ (high ≤ j / 64)). bit_unwritten (j / 64) j w (omega arith) side refl ∙ rest j h side in
    ⊎_elim (λ l. outside (inl l)) (λ l. ⊎_elim (λ m. w.done j l m) (λ m. outside (inr m)) (cases_lt (j / 64) high)) (cases_lt (j / 64) low))

-- where a row is moved on to j, only the words up to that of j count
moved_same : (a b : Row) (by j : ℕ) → ((k : ℕ) → k ≤ j / 64 → get_or a.words k 0 ≡ get_or b.words k 0) → moved a by j ≡ moved b by j
unfolding moved member
moved_same a b by j same =
    ap (λ w. leb by j && (ltb (j - by) 1024 && bit w ((j - by) % 64))) (same ((j - by) / 64) (omega arith))

-- nothing is moved further than the words in use and the distance
moved_past : (row : Row) (by j : ℕ) → row.used + by / 64 + 1 ≤ j / 64 → moved row by j ≡ false
unfolding moved
moved_past row by j h = and_right (leb by j) (member row (j - by)) (member_unused row (j - by) (omega arith))

-- the members of a row moved on by `by`
abbrev pub shifts : Row → ℕ → ℕ → Bool
shifts old by j = ltb j 1024 && moved old by j

-- nothing is moved on by 1,024 or more
pub shifts_none : (old : Row) (by j : ℕ) → 1024 ≤ by → shifts old by j ≡ false
shifts_none old by j h =
    ⊎_elim (λ l. let short = moved_short old by j (omega arith) in grind (arith, nat_tests))
    (λ l. ap (λ t. t && moved old by j) (le-ltb j 1024 l)) (cases_lt j 1024)

-- a word that is moved on comes from words at or below it, which are as they were
moved_as_old : {old : Row} (row : Row) {low high : ℕ} {f : ℕ → Bool} (by i word : ℕ) → Written old row.words low high f → i < low
    → ((j : ℕ) → j / 64 ≡ i → bit word (j % 64) ≡ moved row by j) → (j : ℕ) → j / 64 ≡ i → bit word (j % 64) ≡ moved old by j
moved_as_old {old = old} row by i word w h bits j e = bits j e ∙ moved_same row old by j (λ k l. w.below k (omega arith))

-- a word of a row that is being moved on
pub shift_word : {old : Row} (row : Row) {low high : ℕ} (by i word : ℕ) → Written old row.words low high (shifts old by) → i < low → i < 16
    → ((j : ℕ) → j / 64 ≡ i → bit word (j % 64) ≡ moved row by j) → (j : ℕ) → j / 64 ≡ i → bit word (j % 64) ≡ shifts old by j
shift_word {old = old} row by i word w h few bits j e =
    moved_as_old row by i word w h bits j e ∙ ap (λ t. t && moved old by j) (sym (lt-ltb j 1024 (omega arith)))

-- a row whose words have been moved on, with 0 in those before the first that one is moved to
pub shifted_all : {old : Row} (row : Row) {words : List ℕ} {end : ℕ} (by : ℕ) → Written old words (by / 64) end (shifts old by)
    → end ≡ min (old.used + by / 64 + 1) 16 → ((k : ℕ) → k < by / 64 → get_or row.words k 0 ≡ 0)
    → ((k : ℕ) → by / 64 ≤ k → get_or row.words k 0 ≡ get_or words k 0) → (j : ℕ) → member row j ≡ shifts old by j
shifted_all {old = old} row {words = words} {end = end} by w is lower same =
    by_words row (shifts old by)
    (λ j h.
    ⊎_elim
    (λ l.
    ap (λ x. bit x (j % 64)) (lower (j / 64) l) ∙ bit_of_zero (j % 64)
    ∙ sym (and_right (ltb j 1024) (moved old by j) (moved_short old by j (omega arith))))
    (λ l. ap (λ x. bit x (j % 64)) (same (j / 64) l) ∙ ⊎_elim (w.done j l) (past j h) (cases_lt (j / 64) end)) (cases_lt (j / 64) (by / 64)))
    (λ j h. ap (λ t. t && moved old by j) (le-ltb j 1024 h))
  where
    past : (j : ℕ) → j < 1024 → end ≤ j / 64 → bit (get_or words (j / 64) 0) (j % 64) ≡ shifts old by j
    past j h l =
        bit_unwritten (j / 64) j w (omega arith) (inr l) refl ∙ member_unused old j (omega arith)
        ∙ sym (and_right (ltb j 1024) (moved old by j) (moved_past old by j (omega arith)))

-- a member of the row, or of what it is moved on to within the words in use
abbrev pub united_moved : Row → ℕ → ℕ → Bool
united_moved old by j = member old j || (ltb j (64 * old.used) && moved old by j)

-- a word with the row's own bits and those that are moved to it
pub united_moved_word : {old : Row} (row : Row) {low : ℕ} (by i word : ℕ) → Written old row.words low old.used (united_moved old by) → i < low → i < old.used
    → ((j : ℕ) → j / 64 ≡ i → bit word (j % 64) ≡ moved row by j)
    → (j : ℕ) → j / 64 ≡ i → bit (bit_or (get_or row.words i 0) word) (j % 64) ≡ united_moved old by j
united_moved_word {old = old} row by i word w h l bits j e =
    let few = old.within in
    bit_of_or (get_or row.words i 0) word (j % 64)
    ∙ ap₂ ◌||◌ (bit_unwritten i j w (omega arith) (inl h) e)
    (moved_as_old row by i word w h bits j e ∙ ap (λ t. t && moved old by j) (sym (lt-ltb j (64 * old.used) (omega arith))))

-- no member comes to a word before the first that it is moved to, nor one that is not in use
united_moved_other : (old : Row) (by j : ℕ) → (j / 64 < by / 64) ⊎ (old.used ≤ j / 64) → member old j ≡ united_moved old by j
united_moved_other old by j (inl h) = let short = moved_short old by j (omega arith) in grind (arith, nat_tests)
united_moved_other old by j (inr h) = let e = le-ltb j (64 * old.used) (omega arith) in grind (arith, nat_tests)

-- so that no member comes to a row whose words in use end before it
pub united_moved_none : (old : Row) (by : ℕ) → old.used ≤ by / 64 → (j : ℕ) → member old j ≡ united_moved old by j
united_moved_none old by h j = united_moved_other old by j (⊎_elim (λ l. inl l) (λ l. inr (omega arith)) (cases_lt (j / 64) (by / 64)))

-- a row whose words have all taken on what is moved to them
pub united_moved_all : {old : Row} (row : Row) (by : ℕ) → Written old row.words (by / 64) old.used (united_moved old by) → (j : ℕ) → member row j ≡ united_moved old by j
united_moved_all {old = old} row by w =
    written_all row w (λ j h. united_moved_other old by j)
    (λ j h. let few = old.within in sym (united_moved_other old by j (inr (omega arith))) ∙ member_past old j h)

-- the members of either of two rows
abbrev pub united : Row → Row → ℕ → Bool
united a b j = member a j || member b j

-- a word with the bits of both
pub united_word : {a : Row} (b : Row) {words : List ℕ} {i : ℕ} → Written a words 0 i (united a b) → i < 16
    → (j : ℕ) → j / 64 ≡ i → bit (bit_or (get_or words i 0) (get_or b.words i 0)) (j % 64) ≡ united a b j
united_word b {words = words} {i = i} w h j e =
    bit_of_or (get_or words i 0) (get_or b.words i 0) (j % 64)
    ∙ ap₂ ◌||◌ (bit_unwritten i j w h (inr (omega arith)) e)
    (ap (λ k. bit (get_or b.words k 0) (j % 64)) (sym e) ∙ sym (member_bit b j (omega arith)))

-- a row whose words have all taken on those of the other
pub united_all : {a : Row} (b row : Row) {end : ℕ} → Written a row.words 0 end (united a b) → b.used ≤ end → (j : ℕ) → member row j ≡ united a b j
united_all {a = a} b row w all =
    written_all row w (λ j h. ⊎_elim (λ l. absurd (omega arith)) (λ l. let none = member_unused b j (omega arith) in grind (arith, nat_tests)))
    (λ j h. ap₂ ◌||◌ (member_past a j h) (member_past b j h))

-- the members that a question is answered yes of
abbrev pub chosen : (ℕ → Bool) → Row → ℕ → Bool
chosen f old j = member old j && f j

-- one word more, cut to the bits that the question is answered yes of
pub kept_more : (f : ℕ → Bool) {old : Row} {words : List ℕ} {i : ℕ} (word : ℕ) → Written old words 0 i (chosen f old) → i < 16 → i < length words
    → ((b : ℕ) → bit word b ≡ (bit (get_or words i 0) b && f (64 * i + b))) → Written old (set words i word) 0 (i + 1) (chosen f old)
kept_more f {i = i} word w h inside bits =
    written_more i word w inside (omega arith) (omega arith) (omega arith) (omega arith)
    (λ j e.
    let at : 64 * i + j % 64 ≡ j = omega arith in
    bits (j % 64) ∙ ap₂ ◌&&◌ (bit_unwritten i j w h (inr (omega arith)) e) (ap f at))

-- a word that is 0 has no bit to ask about, so it stays
pub kept_zero : (f : ℕ → Bool) {old : Row} {words : List ℕ} {i : ℕ} → Written old words 0 i (chosen f old) → i < 16 → get_or words i 0 ≡ 0
    → Written old words 0 (i + 1) (chosen f old)
kept_zero f {old = old} {words = words} {i = i} w h zero =
    record {
      done = λ j l m. ⊎_elim (λ b. w.done j (omega arith) b) (λ b. here j (omega arith)) (cases_lt (j / 64) i);
      below = λ k l. absurd (omega arith);
      past = λ k l. w.past k (omega arith);
    }
  where
    here : (j : ℕ) → j / 64 ≡ i → bit (get_or words (j / 64) 0) (j % 64) ≡ chosen f old j
    here j e =
        let none : bit (get_or words i 0) (j % 64) ≡ false = ap (λ x. bit x (j % 64)) zero ∙ bit_of_zero (j % 64) in
        ap (λ k. bit (get_or words k 0) (j % 64)) e ∙ none
        ∙ ap (λ t. t && f j) (sym none ∙ bit_unwritten i j w h (inr (omega arith)) e)

-- a row of which all members have been asked
pub kept_all : (f : ℕ → Bool) {old : Row} (row : Row) {end : ℕ} → Written old row.words 0 end (chosen f old) → old.used ≤ end
    → (j : ℕ) → member row j ≡ chosen f old j
kept_all f {old = old} row w all =
    written_all row w (λ j h. ⊎_elim (λ l. absurd (omega arith)) (λ l. let none = member_unused old j (omega arith) in grind (arith, nat_tests)))
    (λ j h. ap (λ t. t && f j) (member_past old j h))
