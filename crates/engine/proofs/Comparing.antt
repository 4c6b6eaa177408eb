-- How the codes at an offset compare with a run.
use Rattle.std.proofs.Common.{◌≡◌, ℕ, zero, suc, ◌+◌, ◌-◌, ◌<◌, ◌≤◌, Bool, true, false, not, ◌&&◌, eqb, List, [], ◌∷◌, ◌++◌, length, reverse, None, Option, get_or, take, drop, Some, sym, refl, ap, ◌∙◌, ap₂, arith}
use mathlib.Core.Bool.{beq}
use mathlib.Core.List.{reverse-append, reverse-cons}
use Rattle.std.specs.Cmp.Lexicographic.{slice_cmp}
use Rattle.std.specs.List.{slice_get, filter_map, range_with_len, cons_option}
use Rattle.std.specs.Ordering.{is_le, is_ge, nat_cmp}
use Rattle.std.specs.Iterator.Adapters.{rev_source, rev_steps}
use Rattle.std.specs.declared.iter.Rev.{Rev}
use Rattle.std.specs.declared.ops.Range.{Range}
use Rattle.std.proofs.iter.runs.Sources.{nat_range_steps_back}
use Rattle.std.proofs.lemmas.Iterator.{YieldsList}
use Rattle.std.proofs.lemmas.Iterator.Consumers.{YieldsList-from_shown}
use Rattle.std.proofs.lemmas.List.{drop_more, append-nil, length-reverse}
use Rattle.std.proofs.lemmas.List.FromFn.{length-range_with_len}
use Rattle.std.proofs.lemmas.List.Elements.{filter_map-append}
use Rattle.std.proofs.lemmas.Option.{slice_get-get_or}
use Rattle.std.proofs.lemmas.Bool.{eq-eqb}
use Rattle.std.proofs.lemmas.Bool.Decides.{nat_tests}
use Rattle.std.proofs.lemmas.Cmp.{same_from_slice_cmp}
use Rattle.patterns.specs.Patterns.{compared, between, matches, range, up_to}
use Rattle.patterns.specs.Search.{stretch}
use Rattle.patterns.specs.declared.direction.Direction.{Direction}
use Rattle.patterns.specs.declared.direction.Direction.TheVariants.{FirstOn, LastOn}
use Rattle.patterns.proofs.Searches.{length_stretch}

-- the codes at the places from one on
codes_from : (xs : List ℕ) (at n : ℕ) → at + n ≤ length xs → filter_map (slice_get xs) (range_with_len at n) ≡ take n (drop at xs)
codes_from xs at zero h = refl
codes_from xs at (suc n) h =
    ap (λ o. cons_option o (filter_map (slice_get xs) (range_with_len (at + 1) n))) (slice_get-get_or xs at 0 (omega arith))
    ∙ ap (λ l. get_or xs at 0 ∷ l) (codes_from xs (at + 1) n (omega arith))
    ∙ ap (take (suc n)) (sym (drop_more xs at 0 (omega arith)))

-- what a list gives from its last item to its first
filter_map_reverse : {X Y : Type 0} (f : X → Option Y) (xs : List X) → filter_map f (reverse xs) ≡ reverse (filter_map f xs)
filter_map_reverse f [] = refl
filter_map_reverse {Y = Y} f (x ∷ xs) =
    ap (filter_map f) (reverse-cons x xs) ∙ filter_map-append f (reverse xs) (x ∷ []) ∙ ap (λ l. l ++ filter_map f (x ∷ [])) (filter_map_reverse f xs) ∙ last (f x)
  where
    last : (o : Option Y) → reverse (filter_map f xs) ++ cons_option o [] ≡ reverse (cons_option o (filter_map f xs))
    last None = append-nil (reverse (filter_map f xs))
    last (Some y) = sym (reverse-cons y (filter_map f xs))

-- the codes at the places from one on, in the order in which they are compared
pub compared_first : (xs : List ℕ) (at n : ℕ) → at + n ≤ length xs → filter_map (slice_get xs) (range_with_len at n) ≡ compared FirstOn (stretch xs at (at + n))
compared_first xs at n h = let same : n ≡ at + n - at = omega arith in codes_from xs at n h ∙ ap (λ k. take k (drop at xs)) same

pub compared_last : (xs : List ℕ) (at n : ℕ) → at + n ≤ length xs → filter_map (slice_get xs) (reverse (range_with_len at n)) ≡ compared LastOn (stretch xs at (at + n))
compared_last xs at n h = filter_map_reverse (slice_get xs) (range_with_len at n) ∙ ap reverse (compared_first xs at n h)

-- what a range of numbers gives from its last number to its first
pub yields_rev_range : {s : Rev (Range ℕ)} (a n : ℕ) → rev_source s ≡ record { start = a; end = a + n }
    → YieldsList (rev_steps nat_range_steps_back) (λ x. x) s (reverse (range_with_len a n))
yields_rev_range {s} a n e =
    let same : (rev_source s).end - (rev_source s).start ≡ n = omega (arith, ap (λ (r : Range ℕ). r.start) e, ap (λ (r : Range ℕ). r.end) e) in
    rw (← same, ← ap (λ (r : Range ℕ). r.start) e) shown
  where
    -- one number more at the end
    more : (a n : ℕ) → range_with_len a (suc n) ≡ range_with_len a n ++ (a + n) ∷ []
    more a zero = let same : a ≡ a + 0 = omega arith in ap (λ k. k ∷ []) same
    more a (suc n) = let same : a + 1 + n ≡ a + suc n = omega arith in ap (λ l. a ∷ l) (more (a + 1) n ∙ ap (λ k. range_with_len (a + 1) n ++ k ∷ []) same)

    -- the last of some numbers and those before it
    last : (a b c d x : ℕ) → c ≡ a → 0 < b - a → x ≡ d → b ≡ d + 1 → reverse (range_with_len a (b - a)) ≡ x ∷ reverse (range_with_len c (d - c))
    last a b c d x e h f k =
        let long : b - a ≡ suc (d - c) = omega arith in
        let here : a + (d - c) ≡ x = omega arith in
        ap (λ n. reverse (range_with_len a n)) long ∙ ap reverse (more a (d - c)) ∙ reverse-append (range_with_len a (d - c)) ((a + (d - c)) ∷ [])
        ∙ ap₂ (λ y s. y ∷ reverse (range_with_len s (d - c))) here (sym e)

    -- the numbers that are left
    left : Rev (Range ℕ) → List ℕ
    left r = reverse (range_with_len (rev_source r).start ((rev_source r).end - (rev_source r).start))

    shown : YieldsList (rev_steps nat_range_steps_back) (λ x. x) s (left s)
    shown =
        YieldsList-from_shown (rev_steps nat_range_steps_back) (λ x. x) left
        (λ u t p. length-reverse (range_with_len (rev_source u).start ((rev_source u).end - (rev_source u).start)) ∙ length-range_with_len _ _ ∙ p.1.0)
        (λ u x t p. last (rev_source u).start (rev_source u).end (rev_source t).start (rev_source t).end x p.0 p.1.0 p.1.1 p.1.2) s

-- the order tells whether a list is at most another
up_to_le : (xs ys : List ℕ) → is_le (slice_cmp nat_cmp xs ys) ≡ up_to xs ys
up_to_le xs ys = same_from_slice_cmp nat_cmp is_le up_to refl (λ _ _. refl) (λ _ _. refl) (λ x y xs ys o h. grind (arith, nat_tests)) xs ys _ refl

-- and whether it is at least another
up_to_ge : (xs ys : List ℕ) → is_ge (slice_cmp nat_cmp xs ys) ≡ up_to ys xs
up_to_ge xs ys = same_from_slice_cmp nat_cmp is_ge (λ xs ys. up_to ys xs) refl (λ _ _. refl) (λ _ _. refl) (λ x y xs ys o h. grind (arith, nat_tests)) xs ys _ refl

-- two comparisons tell whether a list lies between two others
between_is : (d : Direction) (low high xs : List ℕ)
    → (is_ge (slice_cmp nat_cmp (compared d xs) (compared d low)) && is_le (slice_cmp nat_cmp (compared d xs) (compared d high))) ≡ between d low high xs
between_is d low high xs = ap₂ ◌&&◌ (up_to_ge (compared d xs) (compared d low)) (up_to_le (compared d xs) (compared d high))

-- so they tell whether a range, or what it leaves out, matches the codes at an offset, as many as its runs have
module _ (d : Direction) (inside : Bool) (low high xs : List ℕ) (at : ℕ) (fits : at + length low ≤ length xs) where
  -- the codes
  abbrev ys : List ℕ
  ys = stretch xs at (at + length low)

  pub range_is : (b : Bool) → b ≡ (is_ge (slice_cmp nat_cmp (compared d ys) (compared d low)) && is_le (slice_cmp nat_cmp (compared d ys) (compared d high)))
      → beq b inside ≡ matches (range d inside low high) ys
  range_is b is =
      let long : length ys ≡ length low = length_stretch xs at (at + length low) fits ∙ omega arith in
      let same = eq-eqb (length ys) (length low) long in
      ap (λ t. beq t inside) (is ∙ between_is d low high ys) ∙ sym (matched inside same)
    where
      is_true : (b : Bool) → b ≡ beq b true
      is_true true = refl
      is_true false = refl

      is_false : (b : Bool) → not b ≡ beq b false
      is_false true = refl
      is_false false = refl

      -- the test of the runs' length passes
      matched : (inside : Bool) → eqb (length ys) (length low) ≡ true → matches (range d inside low high) ys ≡ beq (between d low high ys) inside
      matched true e = ap (λ t. t && between d low high ys) e ∙ is_true (between d low high ys)
      matched false e = ap (λ t. t && not (between d low high ys)) e ∙ is_false (between d low high ys)
