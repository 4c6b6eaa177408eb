-- What a pattern means: which lists its things and gaps match, and when a sequence hits a reading.
-- Lists here are lists of codes: two elements are equal exactly when their codes are, and codes order them.
use Rattle.std.specs.Prelude.{◌≡◌, ℕ, ◌<◌, ◌≤◌, Bool, true, false, not, ◌&&◌, ◌||◌, ◌⊎◌, List, [], ◌∷◌, ◌++◌, reverse, length, Some, None, Option, ◌==◌, ◌≢◌, nat_le, nat_lt, ⊤}
use Rattle.kinds.specs.Alphabet.{within}
use Rattle.patterns.specs.declared.direction.Direction.{Direction}
use Rattle.patterns.specs.declared.direction.Direction.TheVariants.{FirstOn, LastOn}
use Rattle.patterns.specs.declared.reference.Reference.{Reference}
use Rattle.patterns.specs.declared.reference.Reference.TheVariants.{Front, Back, Anywhere}

-- The items of a pattern. A literal, any one element, one of some runs, a range of runs from the first to the second, or
-- (false) what such a range leaves out, and what one run leaves out, are things. A gap has a least length and a greatest,
-- or none.
pub data Item : Type 0 where
  literal : ℕ → Item
  any : Item
  group : List (List ℕ) → Item
  range : Direction → Bool → List ℕ → List ℕ → Item
  other : List ℕ → Item
  gap : ℕ → Option ℕ → Item

-- The rule.

-- a list in the order in which it is compared
abbrev pub compared : Direction → List ℕ → List ℕ
compared FirstOn xs = xs
compared LastOn xs = reverse xs

-- one list comes before another of its length, by the first code that differs, or is the same
abbrev pub UpTo : List ℕ → List ℕ → Type 0
UpTo [] ys = ⊤
UpTo (x ∷ xs) [] = ⊥
UpTo (x ∷ xs) (y ∷ ys) = (x < y) ⊎ ((x ≡ y) × UpTo xs ys)

-- a list lies from low to high, both included
abbrev pub Between : Direction → List ℕ → List ℕ → List ℕ → Type 0
Between d low high xs = UpTo (compared d low) (compared d xs) × UpTo (compared d xs) (compared d high)

-- a list is one of some runs
abbrev pub Among : List ℕ → List (List ℕ) → Type 0
Among xs [] = ⊥
Among xs (run ∷ runs) = (xs ≡ run) ⊎ Among xs runs

-- a number is at most another, or there is no bound
abbrev pub AtMost : Option ℕ → ℕ → Type 0
AtMost None n = ⊤
AtMost (Some most) n = n ≤ most

-- an item matches a list: all of it, and nothing more
abbrev pub Matches : Item → List ℕ → Type 0
Matches (literal c) xs = xs ≡ c ∷ []
Matches any xs = length xs ≡ 1
Matches (group runs) xs = Among xs runs
Matches (range d true low high) xs = (length xs ≡ length low) × Between d low high xs
Matches (range d false low high) xs = (length xs ≡ length low) × ¬ Between d low high xs
Matches (other run) xs = (length xs ≡ length run) × (xs ≢ run)
Matches (gap least most) xs = (least ≤ length xs) × AtMost most (length xs)

-- a list is cut, in order, into what the items match
abbrev pub Cut : List Item → List ℕ → Type 0
Cut [] xs = xs ≡ []
Cut (i ∷ is) xs = (front : List ℕ) × (rest : List ℕ) × (xs ≡ front ++ rest) × Matches i front × Cut is rest

-- how many elements may stand before and after the stretch: from the least to the most on the side that is counted from
abbrev pub Allowed : Reference → ℕ → ℕ → Type 0
Allowed (Front least most) before after = (least ≤ before) × (before ≤ most)
Allowed (Back least most) before after = (least ≤ after) × (after ≤ most)
Allowed Anywhere before after = ⊤

-- the least offset of a reference, 0 where it has none
abbrev pub least_offset : Reference → ℕ
least_offset (Front least most) = least
least_offset (Back least most) = least
least_offset Anywhere = 0

-- A placement: a stretch of the reading that the items cut, and what stands before and after it.
pub record Placement (r : Reference) (items : List Item) (xs : List ℕ) : Type 0 where
  pub before : List ℕ
  pub stretch : List ℕ
  pub after : List ℕ
  pub whole : xs ≡ before ++ (stretch ++ after)
  pub allowed : Allowed r (length before) (length after)
  pub cut : Cut items stretch

-- The decision, which computes.

-- two lists are equal
abbrev pub same : List ℕ → List ℕ → Bool
same [] [] = true
same [] (y ∷ ys) = false
same (x ∷ xs) [] = false
same (x ∷ xs) (y ∷ ys) = x == y && same xs ys

-- one list comes before another of its length, or is the same
abbrev pub up_to : List ℕ → List ℕ → Bool
up_to [] ys = true
up_to (x ∷ xs) [] = false
up_to (x ∷ xs) (y ∷ ys) = nat_lt x y || (x == y && up_to xs ys)

-- a list lies from low to high
abbrev pub between : Direction → List ℕ → List ℕ → List ℕ → Bool
between d low high xs = up_to (compared d low) (compared d xs) && up_to (compared d xs) (compared d high)

-- a list is one of some runs
abbrev pub among : List ℕ → List (List ℕ) → Bool
among xs [] = false
among xs (run ∷ runs) = same xs run || among xs runs

-- a number is at most another, or there is no bound
abbrev pub at_most : Option ℕ → ℕ → Bool
at_most None n = true
at_most (Some most) n = nat_le n most

-- an item matches a list
abbrev pub matches : Item → List ℕ → Bool
matches (literal c) xs = same xs (c ∷ [])
matches any xs = length xs == 1
matches (group runs) xs = among xs runs
matches (range d true low high) xs = length xs == length low && between d low high xs
matches (range d false low high) xs = length xs == length low && not (between d low high xs)
matches (other run) xs = length xs == length run && not (same xs run)
matches (gap least most) xs = nat_le least (length xs) && at_most most (length xs)

-- some cut of a list in two has p of its front and q of its rest
abbrev pub split : (List ℕ → Bool) → (List ℕ → Bool) → List ℕ → Bool
split p q [] = p [] && q []
split p q (x ∷ xs) = (p [] && q (x ∷ xs)) || split (λ front. p (x ∷ front)) q xs

-- items cut a list
abbrev pub cuts : List Item → List ℕ → Bool
cuts [] xs = same xs []
cuts (i ∷ is) xs = split (matches i) (cuts is) xs

-- so many elements may stand before a placement
abbrev pub before_allowed : Reference → ℕ → Bool
before_allowed (Front least most) n = within least most n
before_allowed (Back least most) n = true
before_allowed Anywhere n = true

-- so many elements may stand behind a placement
abbrev pub after_allowed : Reference → ℕ → Bool
after_allowed (Front least most) n = true
after_allowed (Back least most) n = within least most n
after_allowed Anywhere n = true

-- a sequence hits a reading
abbrev pub hits : Reference → List Item → List ℕ → Bool
hits r items = split (λ before. before_allowed r (length before)) (split (cuts items) (λ after. after_allowed r (length after)))

-- The theorem: a sequence hits exactly when a placement exists.
abbrev pub HitsExactly : Type 0
HitsExactly =
    (r : Reference) (items : List Item) (xs : List ℕ)
    → (hits r items xs ≡ true → Placement r items xs) × (Placement r items xs → hits r items xs ≡ true)

-- The mirrored pattern: items in reverse order, the runs of each reversed and compared from the other end.
abbrev pub turned : Direction → Direction
turned FirstOn = LastOn
turned LastOn = FirstOn

-- runs, each from its last code to its first
abbrev pub reversed_runs : List (List ℕ) → List (List ℕ)
reversed_runs [] = []
reversed_runs (run ∷ runs) = reverse run ∷ reversed_runs runs

-- an item that matches the reversed lists
abbrev pub mirrored_item : Item → Item
mirrored_item (literal c) = literal c
mirrored_item any = any
mirrored_item (group runs) = group (reversed_runs runs)
mirrored_item (range d inside low high) = range (turned d) inside (reverse low) (reverse high)
mirrored_item (other run) = other (reverse run)
mirrored_item (gap least most) = gap least most

-- items that cut the reversed lists
abbrev pub mirrored : List Item → List Item
mirrored [] = []
mirrored (i ∷ is) = mirrored is ++ (mirrored_item i ∷ [])

-- the other end of a reading
abbrev pub turned_reference : Reference → Reference
turned_reference (Front least most) = Back least most
turned_reference (Back least most) = Front least most
turned_reference Anywhere = Anywhere

-- The theorem: the mirrored sequence hits the reversed reading exactly when the sequence hits the reading.
abbrev pub MirroredAlike : Type 0
MirroredAlike =
    (r : Reference) (items : List Item) (xs : List ℕ)
    → hits (turned_reference r) (mirrored items) (reverse xs) ≡ hits r items xs
