-- Where the items of a fragment and its anchor stand in a list, and how far they reach.
use Rattle.std.specs.Prelude.{◌≡◌, ℕ, ◌+◌, ◌≤◌, true, false, List, [], ◌∷◌, length, Some, None, Option}
use Rattle.std.specs.List.{AllByRecursion}
use Rattle.patterns.specs.Fragments.{Anchor, endless, span}
use Rattle.patterns.specs.Patterns.{Item, AtMost, Cut}
use Rattle.patterns.specs.Search.{stretch, stands_at}

-- the items cut the elements from one place of a list to before another
pub record Spans (items : List Item) (xs : List ℕ) (s e : ℕ) : Type 0 where
  pub ordered : s ≤ e
  pub inside : e ≤ length xs
  pub cut : Cut items (stretch xs s e)

-- a placement of the items that starts from `from` to `until`, which may be no bound, and ends at e
pub record Ends (items : List Item) (from : ℕ) (until : Option ℕ) (xs : List ℕ) (e : ℕ) : Type 0 where
  pub begins : ℕ
  pub late : from ≤ begins
  pub early : AtMost until begins
  pub spans : Spans items xs begins e

-- the sum of the items' spans
abbrev pub sum_span : List Item → ℕ
sum_span [] = 0
sum_span (i ∷ is) = span i + sum_span is

-- an item that is no gap without upper end
abbrev pub Bounded : Item → Type 0
Bounded i = endless i ≡ false

-- what a search relies on of a fragment's items: no endless gap, and a span of at most 1,024
pub record Small (items : List Item) : Type 0 where
  pub bounded : AllByRecursion Bounded items
  pub short : sum_span items ≤ 1024

-- the parts of a small fragment's anchor: no endless gap, and together a span of at most 1,024
pub record SmallParts (a : Anchor) : Type 0 where
  pub front_bounded : AllByRecursion Bounded a.front
  pub back_bounded : AllByRecursion Bounded a.back
  pub short : sum_span a.front + length a.codes + sum_span a.back ≤ 1024

-- a placement that ends at e, of which the anchor stands at p
pub record Anchored (front : List Item) (codes : List ℕ) (back : List Item) (from : ℕ) (until : Option ℕ) (xs : List ℕ) (p e : ℕ) : Type 0 where
  pub before : Ends front from until xs p
  pub stands : stands_at codes xs p ≡ true
  pub behind : Spans back xs (p + length codes) e

-- an end is no less than the best
abbrev pub NoLess : Option ℕ → ℕ → Type 0
NoLess None e = ⊥
NoLess (Some b) e = b ≤ e
