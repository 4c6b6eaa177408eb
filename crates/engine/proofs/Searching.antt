-- The search for fragments, one behind the other, by the numbers of the compiled ones.
use Rattle.std.proofs.Common.{◌≡◌, ℕ, suc, ◌+◌, ◌^◌, ◌<◌, ◌≤◌, List, [], ◌∷◌, ◌++◌, map, reverse, length, drop, Some, None, Option, zero-add, sym, refl, ap, ◌∙◌, ⊎_elim, arith}
use native.Mathlib.Nat.{ℕ_set}
use Rattle.std.proofs.Math.Bridge.{le_prop}
use Rattle.std.proofs.Props.{props}
use mathlib.Core.List.{map-append, reverse-cons}
use mathlib.Core.Logic.{∥∥₁_elim}
use Rattle.std.proofs.lemmas.Bool.{cases_lt}
use Rattle.patterns.specs.Fragments as spec
use Rattle.patterns.specs.Fragments.{bodies, fragments, limit_place}
use Rattle.patterns.specs.Patterns.{Item}
use Rattle.patterns.specs.Search.{least_end, search_end}
use Rattle.patterns.proofs.Searches.{least_end_is, ends_least}
use Rattle.engine.specs.Compiled.{literal_codes}
use Rattle.engine.specs.Reading.{held}
use Rattle.engine.specs.Said.{HoldsAt, Searches, parts}
use Rattle.engine.specs.declared.fragment.Fragment.{Fragment}
use Rattle.engine.specs.declared.oriented.Oriented.{Oriented}
use Rattle.engine.specs.declared.starts.Starts.{Starts}
use Rattle.engine.proofs.Sounds.{Within, within, part_at, none_at, opened, opened_cut, cut_some, few_parts}

-- two equations of ends are one
option_nat_set : (b c : Option ℕ) → IsProp (b ≡ c)
option_nat_set b c = hlevel (props, ℕ_set)

-- the items of a pattern in the order of its search are within the limits
pub limits_of : (s : Oriented) → limit_place (held s.pattern) ≡ None
limits_of s = ∥∥₁_elim s.accepted (option_nat_set _ _) (λ k. (within s k).limits)

-- and they have at most 100 literals
pub literals_of : (s : Oriented) → length (literal_codes (bodies (held s.pattern))) ≤ 100
literals_of s = ∥∥₁_elim s.accepted le_prop (λ k. k.few)

-- a list reversed before each item is mapped, or after
pub map_reverse : {X Y : Type 0} (f : X → Y) (xs : List X) → map f (reverse xs) ≡ reverse (map f xs)
map_reverse f [] = refl
map_reverse f (x ∷ xs) =
    ap (map f) (reverse-cons x xs) ∙ map-append f (reverse xs) (x ∷ []) ∙ ap (λ l. l ++ (f x ∷ [])) (map_reverse f xs) ∙ sym (reverse-cons (f x) (map f xs))

-- nothing that starts past the end of a list is found in it
least_end_past : (items : List Item) (from : ℕ) (until : Option ℕ) (xs : List ℕ) → length xs < from → None ≡ least_end items from until xs
least_end_past items from until xs past = least_end_is items from until xs None (λ e h. omega (arith, h.late, h.spans.ordered, h.spans.inside))

-- where a fragment is not found, the search has no end
ends_not : (g : spec.Fragment) (gs : List spec.Fragment) (at : ℕ) (until : Option ℕ) (xs : List ℕ)
    → None ≡ least_end (bodies g.body) (at + g.break) until xs → search_end (g ∷ gs) at until xs ≡ None
ends_not g gs at until xs e = ap (λ o. elim o [ None ↦ None | Some end ↦ search_end gs end None xs ]) (sym e)

-- where it is found, the search goes on behind it
ends_next : (g : spec.Fragment) (gs : List spec.Fragment) (at : ℕ) (until : Option ℕ) (xs : List ℕ) (end : ℕ)
    → Some end ≡ least_end (bodies g.body) (at + g.break) until xs → search_end (g ∷ gs) at until xs ≡ search_end gs end None xs
ends_next g gs at until xs end e = ap (λ o. elim o [ None ↦ None | Some end ↦ search_end gs end None xs ]) (sym e)

-- the answer of the search for a compiled fragment
abbrev pub Least : Oriented → Fragment → ℕ → Option ℕ → List ℕ → Option ℕ → Type 0
Least s f from until xs o = (g : spec.Fragment) → Searches s f g → o ≡ least_end (bodies g.body) from until xs

module _ (s : Oriented) (at : ℕ → Option Fragment) (starts : Starts) (xs : List ℕ) (holds : HoldsAt s at) where
  -- what the whole search is to answer
  abbrev pub whole : Option ℕ
  whole = least_end (bodies (held s.pattern)) starts.from starts.until xs

  -- the fragments, the first with the break where it may start
  abbrev from_start : Option ℕ
  from_start = search_end (fragments starts.from (held s.pattern)) 0 starts.until xs

  -- an equation of ends follows from what the items are within
  by_within : (b c : Option ℕ) → (Within s → b ≡ c) → b ≡ c
  by_within b c h = ∥∥₁_elim s.accepted (option_nat_set b c) (λ k. h (within s k))

  -- the search by fragments answers it
  whole_is : Within s → from_start ≡ whole
  whole_is w = ends_least (held s.pattern) starts.from starts.until xs w.ordered w.limits

  -- where the first may start changes nothing but its break
  first_opened : (g : spec.Fragment) → drop 0 (parts s) ≡ g ∷ drop 1 (parts s)
      → from_start ≡ search_end (record { break = starts.from; body = g.body } ∷ drop 1 (parts s)) 0 starts.until xs
  first_opened g is = ap (λ fs. search_end fs 0 starts.until xs) (sym (opened_cut (held s.pattern) starts.from _ [] []) ∙ ap (opened starts.from) is)

  -- there is a first one
  pub first_some : at 0 ≡ None → None ≡ whole
  first_some none = by_within None whole (λ w. absurd (cut_some (held s.pattern) _ [] [] (none_at s at holds 0 none)))

  -- the search ends where the first is not found
  pub first_none : (f : Fragment) → at 0 ≡ Some f → Least s f starts.from starts.until xs None → None ≡ whole
  first_none f is none =
      by_within None whole (λ w.
      let (g, there, k) = part_at s at holds w 0 f is in
      sym (
      sym (whole_is w)
      ∙ first_opened g there
      ∙ ends_not (record { break = starts.from; body = g.body }) (drop 1 (parts s)) 0 starts.until xs
      (none g k ∙ ap (λ n. least_end (bodies g.body) n starts.until xs) (sym (zero-add starts.from)))))

  -- the search behind a place has come to the fragment with a number
  abbrev pub ComeTo : ℕ → ℕ → Type 0
  ComeTo number end = whole ≡ search_end (drop number (parts s)) end None xs

  -- it comes to the second where the first is found
  pub first_next : (f : Fragment) → at 0 ≡ Some f → (end : ℕ) → Least s f starts.from starts.until xs (Some end) → ComeTo 1 end
  first_next f is end some =
      by_within whole (search_end (drop 1 (parts s)) end None xs) (λ w.
      let (g, there, k) = part_at s at holds w 0 f is in
      sym (whole_is w)
      ∙ first_opened g there
      ∙ ends_next (record { break = starts.from; body = g.body }) (drop 1 (parts s)) 0 starts.until xs end
      (some g k ∙ ap (λ n. least_end (bodies g.body) n starts.until xs) (sym (zero-add starts.from))))

  module _ (number end : ℕ) (so_far : ComeTo number end) where
    -- behind the last it has the end
    pub come_all : at number ≡ None → Some end ≡ whole
    come_all none = sym (so_far ∙ ap (λ l. search_end l end None xs) (none_at s at holds number none))

    -- there is no ninth
    pub come_ninth : 8 ≤ number → Some end ≡ whole
    come_ninth past =
        by_within (Some end) whole (λ w. sym (so_far ∙ ap (λ l. search_end l end None xs) (few_parts s w number past)))

    module _ (f : Fragment) (is : at number ≡ Some f) where
      -- it ends where the fragment is not found
      pub come_none : Least s f (end + f.break_before) None xs None → None ≡ whole
      come_none none =
          by_within None whole (λ w.
          let (g, there, k) = part_at s at holds w number f is in
          sym (
          so_far ∙ ap (λ l. search_end l end None xs) there
          ∙ ends_not g (drop (suc number) (parts s)) end None xs (none g k ∙ ap (λ n. least_end (bodies g.body) (end + n) None xs) k.holds.break)))

      -- it ends where the fragment could only start at a place that no list has
      pub come_past : (end + f.break_before < 2 ^ 64 → ⊥) → length xs < 2 ^ 64 → None ≡ whole
      come_past far few =
          let past : length xs < end + f.break_before = ⊎_elim (λ l. absurd (far l)) (λ l. omega arith) (cases_lt (end + f.break_before) (2 ^ 64)) in
          come_none (λ g k. least_end_past (bodies g.body) (end + f.break_before) None xs past)

      -- it goes on where the fragment is found
      pub come_next : (next : ℕ) → Least s f (end + f.break_before) None xs (Some next) → ComeTo (number + 1) next
      come_next next some =
          let one : suc number ≡ number + 1 = omega arith in
          by_within whole (search_end (drop (number + 1) (parts s)) next None xs) (λ w.
          let (g, there, k) = part_at s at holds w number f is in
          so_far ∙ ap (λ l. search_end l end None xs) there
          ∙ ends_next g (drop (suc number) (parts s)) end None xs next (some g k ∙ ap (λ n. least_end (bodies g.body) (end + n) None xs) k.holds.break)
          ∙ ap (λ n. search_end (drop n (parts s)) next None xs) one)
