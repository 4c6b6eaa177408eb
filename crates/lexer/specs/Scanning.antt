-- What the parts of the lexer find at a place of a text.
use Rattle.std.specs.Prelude.{◌≡◌, ℕ, ◌+◌, ◌-◌, ◌*◌, ◌<◌, ◌≤◌, Bool, true, false, ◌&&◌, List, [], ◌∷◌}
use Rattle.std.specs.Prelude.{length, take, drop, Ok, Err, ◌==◌, nat_lt, slice_index}
use Rattle.kinds.specs.Alphabet.{Alphabet, within}
use Rattle.patterns.specs.Grammar.{Position, Digits, followed_by}
use Rattle.patterns.specs.Patterns.{Item, literal, any, group, range, other, gap}
use Rattle.patterns.specs.Reader.{State, between, alternatives}
use Rattle.lexer.specs.Tokens.{pairs, pair_stop, codes_in, item_from, lexeme_of, lexeme_in, slice, runs_slice}
use Rattle.lexer.specs.declared.lexer.Stop.{Stop}
use Rattle.lexer.specs.declared.lexer.Cursor.{Cursor}
use Rattle.lexer.specs.declared.token.Gap.{Gap}
use Rattle.lexer.specs.declared.token.RunText.{RunText}
use Rattle.lexer.specs.declared.token.RunsText.{RunsText}
use Rattle.lexer.specs.declared.token.Token.{Token}

-- a character stands at a place
abbrev pub standing : List ℕ → ℕ → ℕ → Bool
standing t place c = nat_lt place (length t) && (slice_index t place == c)

-- what lies ahead of a cursor
abbrev pub ahead : Cursor → List ℕ
ahead c = drop c.place c.text.now

-- a value with the cursor behind it: the text is the same, and the value is read up to its place
abbrev pub Behind : {A : Type 0} → Cursor → (A × ℕ → Type 0) → A × Cursor → Type 0
Behind before Reads r = (r.1.text.now ≡ before.text.now) × Reads (r.0, r.1.place)

-- the next character, with the cursor behind it
abbrev pub FirstBehind : Cursor → ℕ × Cursor → Type 0
FirstBehind before r =
    (before.place < length before.text.now) × (r.0 ≡ slice_index before.text.now before.place)
    × (r.1.text.now ≡ before.text.now) × (r.1.place ≡ before.place + 1)

-- a character stands at a cursor, and another cursor is behind it
abbrev pub Passes : Cursor → ℕ → Cursor → Type 0
Passes before c after =
    (standing before.text.now before.place c ≡ true)
    × (after.text.now ≡ before.text.now) × (after.place ≡ before.place + 1)

-- a character does not stand at a cursor
abbrev pub Misses : Cursor → ℕ → Type 0
Misses before c = standing before.text.now before.place c ≡ false

-- it does not, where it has to
abbrev pub MissesAt : Cursor → ℕ → Stop → Type 0
MissesAt before c stop = Misses before c × (stop.place ≡ before.place)

-- how many characters open a range, inside or not
abbrev pub opening : Bool → ℕ
opening true = 1
opening false = 2

module _ (t : List ℕ) (place : ℕ) where
  -- no digit stands there
  abbrev pub NoDigit : Type 0
  NoDigit = place < length t → within 48 57 (slice_index t place) ≡ false

  -- a number that ends before a place: up to four digits, and no digit more unless there are four
  abbrev pub LongestNumber : ℕ × ℕ → Type 0
  LongestNumber n =
      (count : ℕ) × (n.1 ≡ place + count) × (1 ≤ count) × (count ≤ 4) × (n.1 ≤ length t)
      × Digits (take count (drop place t)) × (n.0 ≡ followed_by 0 (take count (drop place t)))
      × (count < 4 → n.1 < length t → within 48 57 (slice_index t n.1) ≡ false)

module _ {E : Type 0} (a : Alphabet E) where
  -- a pair that names an element stands at a cursor, and another cursor is behind it
  pub record PairBehind (before : Cursor) (r : E × Cursor) : Type 0 where
    pub text : r.1.text.now ≡ before.text.now
    pub place : r.1.place ≡ before.place + 2
    pub counted : pairs a (ahead before) ≡ 1 + pairs a (drop r.1.place before.text.now)
    pub codes : codes_in a (ahead before) ≡ a.code r.0 ∷ codes_in a (drop r.1.place before.text.now)

  -- the longest run at a cursor, of one pair or more, and another cursor is behind it
  pub record RunBehind (before : Cursor) (r : RunText × Cursor) : Type 0 where
    pub same : r.1.text.now ≡ before.text.now
    pub some : 0 < pairs a (ahead before)
    pub end : r.1.place ≡ before.place + 2 * pairs a (ahead before)
    pub none_more : pairs a (drop r.1.place before.text.now) ≡ 0
    pub place : r.0.place ≡ before.place
    pub text : r.0.text.now ≡ take (r.1.place - before.place) (ahead before)

  -- no pair stands at a cursor, where one has to
  abbrev pub NoPair : Cursor → Stop → Type 0
  NoPair before stop =
      (pairs a (ahead before) ≡ 0) × (stop.place ≡ pair_stop a before.place (ahead before))

  -- a character does not stand at a cursor, where it has to unless a pair does
  abbrev pub NoEnd : Cursor → ℕ → Stop → Type 0
  NoEnd before c stop =
      Misses before c × (stop.place ≡ pair_stop a before.place (ahead before))

  module _ (t : List ℕ) where
    -- from a place on, a text completes an item in a state, and goes on at a later place
    abbrev pub Completes : State → ℕ → Item → ℕ → Type 0
    Completes s place i later = item_from a s place (drop place t) ≡ Ok (i, later)

    -- from a place on, a text cannot be read in a state past another place
    abbrev pub Stops : State → ℕ → ℕ → Type 0
    Stops s place at = item_from a s place (drop place t) ≡ Err at

    -- from a place on, a text completes a gap in a state
    abbrev pub CompletesGap : State → ℕ → Gap × ℕ → Type 0
    CompletesGap s place r =
        (place < r.1) × (r.1 ≤ length t) × Completes s place (gap r.0.least r.0.most) r.1

    -- from a place on, a text completes a group, whose runs stand up to the last parenthesis
    abbrev pub CompletesGroup : ℕ → RunsText × ℕ → Type 0
    CompletesGroup place r =
        (place < r.1) × (r.1 ≤ length t) × (runs_slice r.0 ≡ slice t place (r.1 - 1))
        × ((runs : List (List ℕ)) × Completes (alternatives [] []) place (group runs) r.1)

    -- where the token of an item ends that stands from a place to before another
    abbrev pub token_end : ℕ → ℕ → Item → ℕ
    token_end from to (literal c) = from + 2 * pairs a (drop from t)
    token_end from to any = to
    token_end from to (group runs) = to
    token_end from to (range d inside low high) = to
    token_end from to (other run) = to
    token_end from to (gap least most) = to

    -- from a place on, a text completes in a state an item that so many characters open,
    -- and the token is that item's
    abbrev pub CompletesAs : State → ℕ → ℕ → Token × ℕ → Type 0
    CompletesAs s opened place r =
        (place < r.1) × (r.1 ≤ length t)
        × ((i : Item) × Completes s place i r.1
        × ((from : ℕ) → from + opened ≡ place
        → (lexeme_in r.0 ≡ lexeme_of a t from r.1 i) × (r.1 ≡ token_end from r.1 i)))

    -- between items, a text completes an item at a place, and the token is that item's
    abbrev pub Lexes : Position → ℕ → Token × ℕ → Type 0
    Lexes p place r =
        (i : Item) × (later : ℕ) × Completes (between p) place i later
        × (lexeme_in r.0 ≡ lexeme_of a t place later i) × (r.1 ≡ token_end place later i)

  -- the same at a cursor, with the cursor behind it: a gap, a group, and a token of either
  abbrev pub GapBehind : Cursor → State → Gap × Cursor → Type 0
  GapBehind c s = Behind c (CompletesGap c.text.now s c.place)

  abbrev pub GroupBehind : Cursor → RunsText × Cursor → Type 0
  GroupBehind c = Behind c (CompletesGroup c.text.now c.place)

  abbrev pub RangeBehind : Cursor → State → ℕ → Token × Cursor → Type 0
  RangeBehind c s opened = Behind c (CompletesAs c.text.now s opened c.place)

  abbrev pub TokenBehind : Cursor → Position → Token × Cursor → Type 0
  TokenBehind c p = Behind c (Lexes c.text.now p c.place)

  -- at a cursor, a text cannot be read in a state past a place
  abbrev pub Refuses : Cursor → State → Stop → Type 0
  Refuses c s stop = Stops c.text.now s c.place stop.place
