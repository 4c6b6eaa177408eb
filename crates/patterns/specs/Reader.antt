-- A reader of pattern texts that computes, character by character. Theorems tie it to the grammar.
use Rattle.std.specs.Prelude.{◌≡◌, ℕ, zero, suc, ◌+◌, ◌-◌, ◌*◌, Bool, true, false, if◌then◌else◌, not, ◌&&◌, List, [], ◌∷◌, ◌++◌, length, is_some, Some, None, Ok, Err, Option, Result, ◌==◌, nat_lt}
use Rattle.kinds.specs.Alphabet.{Alphabet, within}
use Rattle.patterns.specs.Grammar.{Placed, Position, start, gap_allowed, may_end, behind, Text, Longest}
use Rattle.patterns.specs.Patterns.{Item, literal, any, group, range, other, gap}
use Rattle.patterns.specs.declared.direction.Direction.TheVariants.{FirstOn}

-- which number of a gap is being read: the least, or the greatest behind a least that was read
pub data Numeral : Type 0 where
  least : Numeral
  most : ℕ → Numeral

-- What was read of the item that is being read.
pub data State : Type 0 where
  -- nothing: the place between items
  between : Position → State
  -- one question mark
  asked : State
  -- the first character of a pair, in another state
  half : State → ℕ → State
  -- an open group: its runs, and what was read of the next
  alternatives : List (List ℕ) → List ℕ → State
  -- an open bracket
  bracket : State
  -- an open range, inside or not: what was read of its first run
  low : Bool → List ℕ → State
  -- an open range with its first run: what was read of its second
  high : Bool → List ℕ → List ℕ → State
  -- an open brace: how many digits of which number were read, and their value
  digits : Numeral → ℕ → ℕ → State
  -- a gap without upper end, but for its last brace
  endless : ℕ → State

-- What one character more does: it cannot stand here, the item goes on, or the item is complete.
pub data Next : Type 0 where
  stuck : Next
  goes_on : State → Next
  complete : Item → Next

-- a test passes at some number below another
unfoldable pub some_below : (ℕ → Bool) → ℕ → Bool
some_below p zero = false
some_below p (suc n) = if p n then true else some_below p n

-- a run has a code
abbrev pub begun : List ℕ → Bool
begun cs = nat_lt 0 (length cs)

-- what comes next if a test passes
abbrev pub only_if : Bool → Next → Next
only_if true n = n
only_if false n = stuck

module _ {E : Type 0} (a : Alphabet E) where
  -- a character begins a pair that names an element
  abbrev pub leads : ℕ → Bool
  leads c = some_below (λ d. is_some (a.named c d)) 256

  -- an element's code is read in a state
  abbrev pub with_code : State → ℕ → Next
  with_code (between p) c = complete (literal c)
  with_code asked c = stuck
  with_code (half s f) c = stuck
  with_code (alternatives runs run) c = goes_on (alternatives runs (run ++ c ∷ []))
  with_code bracket c = goes_on (low true (c ∷ []))
  with_code (low inside run) c = goes_on (low inside (run ++ c ∷ []))
  with_code (high inside first run) c = goes_on (high inside first (run ++ c ∷ []))
  with_code (digits n k v) c = stuck
  with_code (endless m) c = stuck

  -- an element is read in a state, if a pair names one
  abbrev pub with_element : State → Option E → Next
  with_element s None = stuck
  with_element s (Some x) = with_code s (a.code x)

  -- the first character of a pair is read in a state
  abbrev pub pair_in : State → ℕ → Next
  pair_in s c = only_if (leads c) (goes_on (half s c))

  -- a number is read: which one decides what may follow
  abbrev pub closed : Numeral → ℕ → Item
  closed least v = gap v (Some v)
  closed (most m) v = gap m (Some v)

  -- a sign is read behind the digits of a number
  abbrev pub behind_digits : Numeral → ℕ → ℕ → ℕ → Next
  behind_digits least k v c = only_if (c == 45 && nat_lt 0 k) (goes_on (digits (most v) 0 0))
  behind_digits (most m) k v c = only_if (c == 42 && k == 0) (goes_on (endless m))

  -- one character is read in a state
  abbrev pub next : State → ℕ → Next
  next (between p) c =
      if c == 63 then goes_on asked
      else if c == 40 then goes_on (alternatives [] [])
      else if c == 91 then goes_on bracket
      else if c == 42 then only_if (gap_allowed p) (complete (gap 0 None))
      else if c == 123 then only_if (gap_allowed p) (goes_on (digits least 0 0))
      else pair_in (between p) c
  next asked c = only_if (c == 63) (complete any)
  next (half s f) c = with_element s (a.named f c)
  next (alternatives runs run) c =
      if c == 124 then only_if (begun run) (goes_on (alternatives (runs ++ run ∷ []) []))
      else if c == 41 then only_if (begun run && nat_lt 0 (length runs)) (complete (group (runs ++ run ∷ [])))
      else pair_in (alternatives runs run) c
  next bracket c = if c == 33 then goes_on (low false []) else pair_in bracket c
  next (low inside run) c =
      if c == 58 then only_if (begun run) (goes_on (high inside run []))
      else if c == 93 then only_if (begun run && not inside) (complete (other run))
      else pair_in (low inside run) c
  next (high inside first run) c =
      if c == 93 then only_if (begun run) (complete (range FirstOn inside first run))
      else pair_in (high inside first run) c
  next (digits n k v) c =
      if within 48 57 c then only_if (nat_lt k 4) (goes_on (digits n (suc k) (10 * v + (c - 48))))
      else if c == 125 then only_if (nat_lt 0 k) (complete (closed n v))
      else behind_digits n k v c
  next (endless m) c = only_if (c == 125) (complete (gap m None))

  -- a text may end in a state
  abbrev pub finished : State → Bool
  finished (between p) = may_end p
  finished asked = false
  finished (half s f) = false
  finished (alternatives runs run) = false
  finished bracket = false
  finished (low inside run) = false
  finished (high inside first run) = false
  finished (digits n k v) = false
  finished (endless m) = false

  -- an item before what the rest of a text gives
  abbrev pub in_front : Placed → Result (List Placed) ℕ → Result (List Placed) ℕ
  in_front q (Ok qs) = Ok (q ∷ qs)
  in_front q (Err n) = Err n

  -- The rest of a text, in a state, with the place where the item began and the place of the rest: its items, or the
  -- place of the first character that cannot stand, which is the end of the text where more was to come.
  abbrev pub follow : State → ℕ → ℕ → List ℕ → Result (List Placed) ℕ
  follow s from place [] = if finished s then Ok [] else Err place
  follow s from place (c ∷ t) =
      elim (next s c) [
        | stuck ↦ Err place
        | goes_on s' ↦ follow s' from (place + 1) t
        | complete i ↦ in_front (record { place = from; item = i }) (follow (between (behind i)) (place + 1) (place + 1) t)
      ]

  -- the items of a text, or the place where it stops
  abbrev pub items_of : List ℕ → Result (List Placed) ℕ
  items_of t = follow (between start) 0 0 t

-- The theorems: the reader reads exactly the texts of the grammar, each in one way, and refuses every other text at the
-- longest prefix that begins some text.

-- the reader reads a text as some items exactly where the grammar derives the text from them
abbrev pub ReadsExactly : {E : Type 0} → Alphabet E → Type 0
ReadsExactly a = (t : List ℕ) (qs : List Placed) → (items_of a t ≡ Ok qs → Text a qs t) × (Text a qs t → items_of a t ≡ Ok qs)

-- the place of a refusal is the length of the longest prefix that begins some text
abbrev pub RefusesAtLongest : {E : Type 0} → Alphabet E → Type 0
RefusesAtLongest a = (t : List ℕ) (n : ℕ) → items_of a t ≡ Err n → Longest a t n
