-- The texts of patterns: which text says which items. A text is a list of characters, by their bytes.
use Rattle.std.specs.Prelude.{◌≡◌, ℕ, ◌+◌, ◌-◌, ◌*◌, ◌<◌, ◌≤◌, Bool, true, false, ◌⊎◌, List, [], ◌∷◌, ◌++◌, length, take, Some, None, codes, Option, ⊤}
use Rattle.kinds.specs.Alphabet.{Alphabet, within}
use Rattle.patterns.specs.Patterns.{Item, literal, any, group, range, other, gap}
use Rattle.patterns.specs.declared.direction.Direction.TheVariants.{FirstOn}

-- an item, and the place in the text where it begins
pub record Placed : Type 0 where
  pub place : ℕ
  pub item : Item

-- a number has one to four digits
abbrev pub Digits : List ℕ → Type 0
Digits [] = ⊤
Digits (d ∷ ds) = (within 48 57 d ≡ true) × Digits ds

-- the number n with further digits behind it
abbrev pub followed_by : ℕ → List ℕ → ℕ
followed_by n [] = n
followed_by n (d ∷ ds) = followed_by (10 * n + (d - 48)) ds

-- one to four digits say a number
abbrev pub Number : ℕ → List ℕ → Type 0
Number n t = (1 ≤ length t) × (length t ≤ 4) × Digits t × (n ≡ followed_by 0 t)

-- *, {m-*}, {n} and {m-n}
abbrev pub Gap : ℕ → Option ℕ → List ℕ → Type 0
Gap least None t =
    ((least ≡ 0) × (t ≡ codes "*"))
    ⊎ ((m : List ℕ) × (t ≡ codes "{" ++ (m ++ codes "-*}")) × Number least m)
Gap least (Some most) t =
    ((n : List ℕ) × (t ≡ codes "{" ++ (n ++ codes "}")) × Number least n × (most ≡ least))
    ⊎ ((m : List ℕ) × (n : List ℕ) × (t ≡ codes "{" ++ (m ++ (codes "-" ++ (n ++ codes "}")))) × Number least m × Number most n)

module _ {E : Type 0} (a : Alphabet E) where
  -- a literal is a pair that names an element; it stands for that element's code
  abbrev pub Literal : ℕ → List ℕ → Type 0
  Literal c t = (first : ℕ) × (second : ℕ) × (x : E) × (a.named first second ≡ Some x) × (c ≡ a.code x) × (t ≡ first ∷ second ∷ [])

  -- literals, one after the other
  abbrev pub Literals : List ℕ → List ℕ → Type 0
  Literals [] t = t ≡ []
  Literals (c ∷ cs) t = (front : List ℕ) × (rest : List ℕ) × (t ≡ front ++ rest) × Literal c front × Literals cs rest

  -- a run is one or more literals
  abbrev pub Run : List ℕ → List ℕ → Type 0
  Run cs t = (0 < length cs) × Literals cs t

  -- runs with a bar between neighbours
  abbrev pub Alternatives : List (List ℕ) → List ℕ → Type 0
  Alternatives [] t = ⊥
  Alternatives (run ∷ []) t = Run run t
  Alternatives (run ∷ next ∷ runs) t =
      (front : List ℕ) × (rest : List ℕ) × (t ≡ front ++ (codes "|" ++ rest)) × Run run front × Alternatives (next ∷ runs) rest

  -- two runs with a colon between them
  abbrev pub Bounds : List ℕ → List ℕ → List ℕ → Type 0
  Bounds low high t = (front : List ℕ) × (rest : List ℕ) × (t ≡ front ++ (codes ":" ++ rest)) × Run low front × Run high rest

  -- [a:b] and [!a:b]
  abbrev pub Range : Bool → List ℕ → List ℕ → List ℕ → Type 0
  Range true low high t = (inner : List ℕ) × (t ≡ codes "[" ++ (inner ++ codes "]")) × Bounds low high inner
  Range false low high t = (inner : List ℕ) × (t ≡ codes "[!" ++ (inner ++ codes "]")) × Bounds low high inner

  -- a text says an item
  abbrev pub Says : Item → List ℕ → Type 0
  Says (literal c) t = Literal c t
  Says any t = t ≡ codes "??"
  Says (group runs) t = (inner : List ℕ) × (t ≡ codes "(" ++ (inner ++ codes ")")) × (2 ≤ length runs) × Alternatives runs inner
  Says (range d inside low high) t = (d ≡ FirstOn) × Range inside low high t
  Says (other run) t = (inner : List ℕ) × (t ≡ codes "[!" ++ (inner ++ codes "]")) × Run run inner
  Says (gap least most) t = Gap least most t

  -- a text that begins at a place says placed items, one after the other
  abbrev pub SaysAll : ℕ → List Placed → List ℕ → Type 0
  SaysAll place [] t = t ≡ []
  SaysAll place (q ∷ qs) t =
      (front : List ℕ) × (rest : List ℕ) × (t ≡ front ++ rest) × (q.place ≡ place) × Says q.item front × SaysAll (place + length front) qs rest

-- One thing, then any number of further things, each after any number of gaps.
pub data Position : Type 0 where
  start after_thing after_gap : Position

-- a gap may stand at a position
abbrev pub gap_allowed : Position → Bool
gap_allowed start = false
gap_allowed after_thing = true
gap_allowed after_gap = true

-- a text may end at a position
abbrev pub may_end : Position → Bool
may_end start = false
may_end after_thing = true
may_end after_gap = false

-- an item may stand at a position
abbrev pub allowed : Position → Item → Bool
allowed p (literal c) = true
allowed p any = true
allowed p (group runs) = true
allowed p (range d inside low high) = true
allowed p (other run) = true
allowed p (gap least most) = gap_allowed p

-- the position behind an item
abbrev pub behind : Item → Position
behind (literal c) = after_thing
behind any = after_thing
behind (group runs) = after_thing
behind (range d inside low high) = after_thing
behind (other run) = after_thing
behind (gap least most) = after_gap

-- each item may stand where it stands, and the last may end the text
abbrev pub Ordered : Position → List Placed → Type 0
Ordered p [] = may_end p ≡ true
Ordered p (q ∷ qs) = (allowed p q.item ≡ true) × Ordered (behind q.item) qs

-- a text of the grammar, with its items and their places
abbrev pub Text : {E : Type 0} → Alphabet E → List Placed → List ℕ → Type 0
Text a qs t = Ordered start qs × SaysAll a 0 qs t

-- some continuation makes it a text
abbrev pub Begins : {E : Type 0} → Alphabet E → List ℕ → Type 0
Begins a t = (more : List ℕ) × (qs : List Placed) × Text a qs (t ++ more)

-- n characters of a text begin some text, and no more do
pub record Longest {E : Type 0} (a : Alphabet E) (t : List ℕ) (n : ℕ) : Type 0 where
  pub within_text : n ≤ length t
  pub begins : Begins a (take n t)
  pub no_longer : (k : ℕ) → n < k → k ≤ length t → ¬ Begins a (take k t)
