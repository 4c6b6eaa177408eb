-- Where an anchor stands, and that no place is missed where the window moves on by a shift.
use Rattle.std.proofs.Common.{◌≡◌, ℕ, Bool, option_map, MatchBool, subst, zero, suc, ◌+◌, ◌-◌, ◌%◌, ◌<◌, ◌≤◌, min, max, true, false, eqb, leb, List, [], ◌∷◌, length, get_or, drop, Some, None, ◌⊎◌, Decides, Option, sym, refl, ap, ◌∙◌, ⊎_elim, add-zero, zero-add, arith}
use mir.Val.{bool_byte}
use Rattle.std.specs.List.{AllWithin, HoldsAt, enumerate_from, slice_get}
use Rattle.std.proofs.Math.Dec.{eqb-suc-zero}
use Rattle.std.proofs.iter.runs.Lists.{slice_get_within}
use Rattle.std.proofs.lemmas.List.{length-map, get_or-map, get_or-take, get_or-drop, ext_get_or}
use Rattle.std.proofs.lemmas.List.FromFn.{get_or-enumerate_from, length-enumerate_from}
use Rattle.std.proofs.lemmas.Option.{slice_get-get_or}
use Rattle.std.proofs.lemmas.Bool.{leb-true, le-leb, lt-leb, eq-eqb, not-true, cases_lt, cond-true, cond-false, cond_both}
use Rattle.std.proofs.lemmas.Bool.Decides.{Decides-and, Decides-like, Decides-not, not_from_Decides}
use Rattle.kinds.specs.Alphabet.{Alphabet}
use Rattle.patterns.specs.Fragments.{distances, smallest, shift}
use Rattle.patterns.specs.Search.{stretch, stands_at, first_fit_from, first_fit}
use Rattle.patterns.proofs.Anchors.{FirstFit, first_fit_exactly}
use Rattle.patterns.proofs.Decisions.{same_decides}
use Rattle.kinds.proofs.Places.{nth_none}
use Rattle.patterns.proofs.Searches.{length_stretch}
use Rattle.patterns.specs.Codes.{codes_of}
use Rattle.engine.specs.Codes.{not_past, ShiftsOf}

-- a number, and 1 more where it is 0, is that number, and 1 at least
pub at_least_one : (n : ℕ) → n + bool_byte (eqb n 0) ≡ max n 1
at_least_one zero = refl
at_least_one (suc n) = let none : bool_byte (eqb (suc n) 0) ≡ 0 = ap bool_byte (eqb-suc-zero n) in omega arith

-- Codes of elements.

module _ {E : Type 0} (a : Alphabet E) (xs : List E) (k : ℕ) where
  -- what stands at a place has its code there
  pub code_at : (x : E) → slice_get xs k ≡ Some x → get_or (codes_of a xs) k 0 ≡ a.code x
  code_at x e =
      let inside = slice_get_within xs k x e in
      let there = slice_get-get_or xs k x inside in
      let is : get_or xs k x ≡ x = cc in
      get_or-map a.code xs k x 0 inside ∙ ap a.code is

  -- a place that has no element lies past the codes
  pub code_past : slice_get xs k ≡ None → length (codes_of a xs) ≤ k
  code_past e = simp length-map (nth_none xs k e)

-- Where codes stand.

-- codes stand at a place: they end inside the list, and each is what the list has there
pub record Stands (codes xs : List ℕ) (place : ℕ) : Type 0 where
  pub inside : place + length codes ≤ length xs
  pub equal : (k : ℕ) → k < length codes → get_or xs (place + k) 0 ≡ get_or codes k 0

-- the test tells whether they do
pub stands_decides : (codes xs : List ℕ) (place : ℕ) → Decides (stands_at codes xs place) (Stands codes xs place)
stands_decides codes xs place = Decides-like (stands_at codes xs place) there back (Decides-and _ _ (leb-true _ _, le-leb _ _) (same_decides _ codes))
  where
    -- what the stretch of the codes' length has
    in_stretch : (k : ℕ) → k < length codes → get_or (stretch xs place (place + length codes)) k 0 ≡ get_or xs (place + k) 0
    in_stretch k h = get_or-take (place + length codes - place) (drop place xs) k 0 (omega arith) ∙ get_or-drop place xs k 0

    there : (place + length codes ≤ length xs) × (stretch xs place (place + length codes) ≡ codes) → Stands codes xs place
    there (inside, e) = record { inside = inside; equal = λ k h. sym (in_stretch k h) ∙ ap (λ l. get_or l k 0) e }

    back : Stands codes xs place → (place + length codes ≤ length xs) × (stretch xs place (place + length codes) ≡ codes)
    back s =
        let size : length (stretch xs place (place + length codes)) ≡ length codes = length_stretch xs place (place + length codes) s.inside ∙ omega arith in
        (s.inside, ext_get_or 0 _ codes size (λ k h. let before : k < length codes = omega arith in in_stretch k before ∙ s.equal k before))

-- where they cannot, it fails
stands_not : (codes xs : List ℕ) (place : ℕ) → (Stands codes xs place → ⊥) → stands_at codes xs place ≡ false
stands_not codes xs place none = not-true _ ((Decides-not _ (stands_decides codes xs place)).1 none)

-- the place that stands so far behind another has a code
abbrev pub HasCode : {E : Type 0} → Alphabet E → List E → ℕ → ℕ × ℕ → Type 0
HasCode a xs place (k, code) = option_map a.code (slice_get xs (place + k)) ≡ Some code

module _ {E : Type 0} (a : Alphabet E) (xs : List E) (codes : List ℕ) (place : ℕ) where
  -- what a place is asked for is what the list of codes has there
  has_code : (p m : ℕ) (o : Option E) → slice_get xs p ≡ o → option_map a.code o ≡ Some m → get_or (codes_of a xs) p 0 ≡ m
  has_code p m (Some x) is e = let there = code_at a xs p x is in cc
  has_code p m None is e = cc

  -- and so is what it has
  code_there : (p m : ℕ) (o : Option E) → p < length xs → slice_get xs p ≡ o → get_or (codes_of a xs) p 0 ≡ m → option_map a.code o ≡ Some m
  code_there p m (Some x) l is e = ap Some (sym (code_at a xs p x is) ∙ e)
  code_there p m None l is e = absurd (omega (arith, code_past a xs p is, length-map xs a.code))

  -- a code stands beside its index
  indexed : (k : ℕ) → k < length codes → get_or (enumerate_from 0 codes) k (0, 0) ≡ (k, get_or codes k 0)
  indexed k l = get_or-enumerate_from 0 codes k (0, 0) l ∙ ap (λ n. (n, get_or codes k 0)) (zero-add k)

  -- asking each code at its place tells whether they stand there, where as many elements are left
  pub stands_from_all : (r : Bool) → place + length codes ≤ length xs
      → MatchBool r (AllWithin (HasCode a xs place) (enumerate_from 0 codes) 0 (length (enumerate_from 0 codes)))
      ((k : ℕ) × (k < length (enumerate_from 0 codes)) × HoldsAt (λ p. HasCode a xs place p → ⊥) (enumerate_from 0 codes) k)
      → r ≡ stands_at codes (codes_of a xs) place
  stands_from_all true inside all =
      sym ((stands_decides codes (codes_of a xs) place).1 (record {
        inside = simp length-map inside;
        equal = λ k l. has_code (place + k) _ _ refl (subst (HasCode a xs place) (indexed k l) (all k (0, 0) (omega arith) (omega (arith, length-enumerate_from 0 codes))));
      }))
  stands_from_all false inside (k, l, none) =
      let below : k < length codes = omega (arith, length-enumerate_from 0 codes) in
      sym (stands_not codes (codes_of a xs) place (λ s. none (0, 0) (subst (HasCode a xs place) (sym (indexed k below)) (code_there (place + k) _ _ (omega arith) refl (s.equal k below)))))

-- Shifts.

-- the smallest of some numbers is at most the first
smallest_first : (n : ℕ) (ms : List ℕ) → smallest n ms ≤ n
smallest_first n [] = omega arith
smallest_first n (m ∷ ms) = omega (arith, smallest_first (min n m) ms)

-- a shift is at most the length plus 1
shift_most : (codes : List ℕ) (index : ℕ) → shift codes index ≤ suc (length codes)
shift_most codes index = smallest_first _ (distances codes index)

-- the smallest distance of a code's index is at most the code's
smallest_distance : (codes : List ℕ) (n k : ℕ) → k < length codes → smallest n (distances codes (get_or codes k 0 % 256)) ≤ length codes - k
smallest_distance [] n k h = absurd (omega arith)
smallest_distance (c ∷ cs) n zero h =
    let index = c % 256 in
    let own = cond-true (eqb index index) (suc (length cs) ∷ distances cs index) (distances cs index) (eq-eqb index index refl) in
    rw own (omega (arith, smallest_first (min n (suc (length cs))) (distances cs index)))
smallest_distance (c ∷ cs) n (suc k) h =
    let index = get_or cs k 0 % 256 in
    cond_both
    (eqb (c % 256) index)
    (suc (length cs) ∷ distances cs index)
    (distances cs index)
    (λ ms. smallest n ms ≤ suc (length cs) - suc k)
    (λ _. omega (arith, smallest_distance cs (min n (suc (length cs))) k (omega arith)))
    (λ _. omega (arith, smallest_distance cs n k (omega arith)))

-- so is the shift of its index
shift_least : (codes : List ℕ) (k : ℕ) → k < length codes → shift codes (get_or codes k 0 % 256) ≤ length codes - k
shift_least codes = smallest_distance codes (suc (length codes))

-- The element beyond the window would be the code that stands this far before the codes' end, so they stand at no place that
-- the shift of the element passes over.
passed_over : (codes xs : List ℕ) (place k : ℕ) → 0 < k → k < shift codes (get_or xs (place + length codes) 0 % 256) → Stands codes xs (place + k) → ⊥
passed_over codes xs place k some below s =
    let beyond = get_or xs (place + length codes) 0 in
    let at = length codes - k in
    let most = shift_most codes (beyond % 256) in
    let there : place + k + at ≡ place + length codes = omega arith in
    let inside : at < length codes = omega arith in
    let equal : beyond ≡ get_or codes at 0 = ap (λ n. get_or xs n 0) (sym there) ∙ s.equal at inside in
    let same : shift codes (beyond % 256) ≡ shift codes (get_or codes at 0 % 256) = ap (λ c. shift codes (c % 256)) equal in
    omega (arith, shift_least codes at inside)

-- The first place.

module _ (codes xs : List ℕ) where
  -- where codes stand, the first place is here
  first_here : (place : ℕ) → stands_at codes xs place ≡ true → first_fit codes xs place ≡ Some place
  first_here place e =
      let s = (stands_decides codes xs place).0 e in
      let left : suc (length xs) - place ≡ suc (length xs - place) = omega (arith, s.inside) in
      ap (first_fit_from codes xs place) left ∙ rw (e, first_fit_from)

  -- where they do not, it is the first from the next place on
  first_later : (place : ℕ) → stands_at codes xs place ≡ false → first_fit codes xs place ≡ first_fit codes xs (suc place)
  first_later place e =
      ⊎_elim
      (λ past.
      let none : suc (length xs) - place ≡ 0 = omega arith in
      let still : suc (length xs) - suc place ≡ 0 = omega arith in
      ap (first_fit_from codes xs place) none ∙ sym (ap (first_fit_from codes xs (suc place)) still))
      (λ inside.
      let left : suc (length xs) - place ≡ suc (suc (length xs) - suc place) = omega arith in
      ap (first_fit_from codes xs place) left ∙ rw (e, first_fit_from))
      (cases_lt (length xs) place)

  -- places where they do not stand may be passed over
  first_beyond : (place d : ℕ) → ((k : ℕ) → k < d → Stands codes xs (place + k) → ⊥) → first_fit codes xs place ≡ first_fit codes xs (place + d)
  first_beyond place zero none = ap (first_fit codes xs) (sym (add-zero place))
  first_beyond place (suc d) none =
      let next : suc (place + d) ≡ place + suc d = omega arith in
      first_beyond place d (λ k h. none k (omega arith))
      ∙ first_later (place + d) (stands_not codes xs (place + d) (none d (omega arith)))
      ∙ ap (first_fit codes xs) next

  -- they stand nowhere where they would not end inside the list
  pub first_none : (place : ℕ) → length xs < place + length codes → first_fit codes xs place ≡ None
  first_none place h = go (suc (length xs) - place) place h
    where
      go : (count at : ℕ) → length xs < at + length codes → first_fit_from codes xs at count ≡ None
      go zero at past = refl
      go (suc count) at past =
          let fails = stands_not codes xs at (λ s. omega (arith, s.inside)) in
          rw (fails, first_fit_from) (go count (suc at) (omega arith))

  -- the window moves on by the shift of the element beyond it, or by 1, and misses no place
  pub moves_on : (shifts : List ℕ) (place code : ℕ) → ShiftsOf shifts codes → stands_at codes xs place ≡ false → get_or xs (place + length codes) 0 ≡ code
      → first_fit codes xs place ≡ first_fit codes xs (place + max (get_or shifts (code % 256) 0) 1)
  moves_on shifts place code table fails beyond = first_beyond place (max (get_or shifts (code % 256) 0) 1) missed
    where
      by : get_or shifts (code % 256) 0 ≡ shift codes (get_or xs (place + length codes) 0 % 256)
      by = table (code % 256) (omega arith) ∙ ap (λ c. shift codes (c % 256)) (sym beyond)

      missed : (k : ℕ) → k < max (get_or shifts (code % 256) 0) 1 → Stands codes xs (place + k) → ⊥
      missed zero h = rw add-zero (not_from_Decides _ (stands_decides codes xs place) fails)
      missed (suc k) h = let step = by in passed_over codes xs place (suc k) (omega arith) (omega arith)

  -- Not past the last place.

  -- a first place that is not past the last is it
  first_within : (place last : ℕ) → place ≤ last → not_past last (Some place) ≡ Some place
  first_within place last h = cond-true (leb place last) (Some place) None (le-leb place last h)

  -- from past the last place on, there is none
  first_past : (place last : ℕ) → last < place → not_past last (first_fit codes xs place) ≡ None
  first_past place last h = go (first_fit codes xs place) (first_fit_exactly codes xs place)
    where
      go : (o : Option ℕ) → FirstFit codes xs place o → not_past last o ≡ None
      go None f = refl
      go (Some p) f = cond-false (leb p last) (Some p) None (lt-leb p last (omega (arith, f.0)))

  -- The search has come to a place, and no place before it is missed.
  module _ (from to place : ℕ) (so_far : first_fit codes xs place ≡ first_fit codes xs from) where
    -- they stand there
    pub found_here : place ≤ to → stands_at codes xs place ≡ true → Some place ≡ not_past to (first_fit codes xs from)
    found_here within y = sym (first_within place to within) ∙ ap (not_past to) (sym (first_here place y) ∙ so_far)

    -- they would end past the end of the list
    pub found_none : length xs < place + length codes → None ≡ not_past to (first_fit codes xs from)
    found_none past = ap (not_past to) (sym (first_none place past) ∙ so_far)

    -- they do not stand there, and would end past the end of the list at the next place
    pub found_last : stands_at codes xs place ≡ false → length xs ≤ place + length codes → None ≡ not_past to (first_fit codes xs from)
    found_last fails past = ap (not_past to) (sym (first_none (suc place) (omega arith)) ∙ sym (first_later place fails) ∙ so_far)

    -- the place is past the last one, or they would end past the end of the list
    pub found_past : (to < place) ⊎ (length xs < place + length codes) → None ≡ not_past to (first_fit codes xs from)
    found_past h = ⊎_elim (λ past. sym (first_past place to past) ∙ ap (not_past to) so_far) found_none h
