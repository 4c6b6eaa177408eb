-- The literal that a fragment begins with, as it is looked for before the places of an anchor.
use Rattle.std.specs.Prelude.{◌≡◌, ℕ, ◌+◌, ◌-◌, ◌<◌, ◌≤◌, min, max, List, [], ◌∷◌, Some, None, Option}
use Rattle.std.specs.List.{slice_get}
use Rattle.patterns.specs.Fragments.{literal_code}
use Rattle.patterns.specs.Patterns.{Item}
use Rattle.patterns.specs.Spans.{sum_span}
use Rattle.engine.specs.Finding.{part_of}
use Rattle.engine.specs.Reading.{held}
use Rattle.engine.specs.declared.fragment.Fragment.{Fragment}
use Rattle.engine.specs.declared.opening.Opening.{Opening}
use Rattle.engine.specs.declared.pattern.Pattern.{Pattern}

-- the code of the literal that items begin with, if they do
abbrev pub opening_code : List Item → Option ℕ
opening_code [] = None
opening_code (i ∷ is) = literal_code i

-- an opening is that of the items before an anchor: its code is that of the literal that they begin with, and it is as far as they
-- span, at most 1,023
pub record OpeningOf (items : List Item) (o : Opening) : Type 0 where
  pub code : o.code ≡ opening_code items
  pub far : o.far ≡ min 1023 (sum_span items)

-- an opening is that of the items of a fragment before its anchor
abbrev pub OpeningFor : Pattern → Fragment → Opening → Type 0
OpeningFor p f o = OpeningOf (part_of (held p) f.first f.anchor) o

-- a code stands at no place from one to before another
abbrev pub NoneOf : ℕ → List ℕ → ℕ → ℕ → Type 0
NoneOf code xs from to = (q : ℕ) → from ≤ q → q < to → slice_get xs q ≡ Some code → ⊥

-- the last place from one to before another where a code stands
pub record LastOf (code : ℕ) (xs : List ℕ) (from to place : ℕ) : Type 0 where
  pub reached : from ≤ place
  pub before : place < to
  pub stands : slice_get xs place ≡ Some code
  pub none : NoneOf code xs (place + 1) to

-- the last such place, or none
abbrev pub LastOrNone : ℕ → List ℕ → ℕ → ℕ → Option ℕ → Type 0
LastOrNone code xs from to None = NoneOf code xs from to
LastOrNone code xs from to (Some place) = LastOf code xs from to place

-- an opening has a code, which stands at none of the `far` places before `place`
abbrev pub Excluded : Opening → List ℕ → ℕ → Type 0
Excluded o xs place = (code : ℕ) × (o.code ≡ Some code) × NoneOf code xs (place - o.far) place

-- how far a code has been looked for: it stands right before `after`, if that is not 0, and at none of the places from there to
-- before `next` that are at most `far` before `next`
pub record LookedThrough (code : ℕ) (o : Opening) (xs : List ℕ) : Type 0 where
  pub inside : o.after ≤ o.next
  pub last : 0 < o.after → slice_get xs (o.after - 1) ≡ Some code
  pub none : NoneOf code xs (max o.after (o.next - o.far)) o.next

-- the same of an opening's code, if it has one
abbrev pub Known : Opening → List ℕ → Type 0
Known o xs = (code : ℕ) → o.code ≡ Some code → LookedThrough code o xs
