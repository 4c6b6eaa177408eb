-- The tokens of a pattern text, and the lexer that hands them out, as a definition that computes.
use Rattle.std.specs.Prelude.{◌≡◌, ℕ, zero, suc, ◌+◌, ◌-◌, ◌*◌, Bool, true, false, if◌then◌else◌}
use Rattle.std.specs.Prelude.{List, [], ◌∷◌, ◌++◌, length, take, drop, codes, ◌==◌, nat_lt}
use Rattle.std.specs.Prelude.{is_some, Some, None, Ok, Err, Option, Result}
use Rattle.std.specs.List.{flat_map, slice_split, position}
use Rattle.kinds.specs.Alphabet.{Alphabet}
use Rattle.patterns.specs.Grammar.{Placed, Position, start, after_thing, after_gap, may_end}
use Rattle.patterns.specs.Patterns as item
use Rattle.patterns.specs.Patterns.{Item}
use Rattle.patterns.specs.Reader.{State, between, stuck, goes_on, complete}
use Rattle.patterns.specs.Reader.{leads, next, items_of}
use Rattle.lexer.specs.declared.lexer.Position.TheVariants as position
use Rattle.lexer.specs.declared.lexer.Position.{Position as CodePosition}
use Rattle.lexer.specs.declared.lexer.Stop.{Stop}
use Rattle.lexer.specs.declared.token.RunText.{RunText}
use Rattle.lexer.specs.declared.token.RunsText.{RunsText}
use Rattle.lexer.specs.declared.token.Token.{Token}
use Rattle.lexer.specs.declared.token.Token.TheVariants as token

-- a part of a text, and the place where it begins
pub record Slice : Type 0 where
  pub place : ℕ
  pub text : List ℕ

-- A token, by the parts of the text that it holds.
pub data Lexeme : Type 0 where
  -- neighbouring literals
  literals : Slice → Lexeme
  -- any one element
  any : Lexeme
  -- a group: its runs, with bars between them
  group : Slice → Lexeme
  -- a range, inside or not: its first run and its second
  range : Bool → Slice → Slice → Lexeme
  -- what one run leaves out
  other : Slice → Lexeme
  -- a gap as it is written, with its least length and its greatest
  gap : Slice → ℕ → Option ℕ → Lexeme

-- the part of a text from a place to before another
abbrev pub slice : List ℕ → ℕ → ℕ → Slice
slice t from to = record { place = from; text = take (to - from) (drop from t) }

-- a token as it is written
abbrev pub written : Lexeme → List ℕ
written (literals run) = run.text
written any = codes "??"
written (group runs) = codes "(" ++ (runs.text ++ codes ")")
written (range true low high) = codes "[" ++ (low.text ++ (codes ":" ++ (high.text ++ codes "]")))
written (range false low high) = codes "[!" ++ (low.text ++ (codes ":" ++ (high.text ++ codes "]")))
written (other run) = codes "[!" ++ (run.text ++ codes "]")
written (gap spelling least most) = spelling.text

-- the texts between the bars of a text
abbrev pub between_bars : List ℕ → List (List ℕ)
between_bars t = slice_split (λ c. c == 124) t

-- a text before a bar at a place and the rest behind it, or all of it
abbrev pub first_to : Slice → Option ℕ → Slice × Option Slice
first_to s None = (s, None)
first_to s (Some bar) = (
  record { place = s.place; text = take bar s.text },
  Some (record { place = s.place + bar + 1; text = drop (bar + 1) s.text }),
)

-- the first run of a group and the rest behind its bar, if it has one
abbrev pub first_run : Slice → Slice × Option Slice
first_run s = first_to s (position (λ c. c == 124) s.text)

-- the position behind a token
abbrev pub behind_lexeme : Lexeme → Position
behind_lexeme (literals run) = after_thing
behind_lexeme any = after_thing
behind_lexeme (group runs) = after_thing
behind_lexeme (range inside low high) = after_thing
behind_lexeme (other run) = after_thing
behind_lexeme (gap spelling least most) = after_gap

-- the range whose first run begins at a place, by the places of its colon and its last bracket
abbrev pub range_between : List ℕ → Bool → ℕ → ℕ → ℕ → Lexeme
range_between t inside from colon close =
    range inside (slice t from colon) (slice t (colon + 1) close)

module _ {E : Type 0} (a : Alphabet E) where
  -- how many pairs that name elements a text begins with
  abbrev pub pairs : List ℕ → ℕ
  pairs [] = 0
  pairs (first ∷ []) = 0
  pairs (first ∷ second ∷ t) = if is_some (a.named first second) then suc (pairs t) else 0

  -- the codes of the elements that these pairs name
  abbrev pub codes_in : List ℕ → List ℕ
  codes_in [] = []
  codes_in (first ∷ []) = []
  codes_in (first ∷ second ∷ t) =
      elim (a.named first second) [ None ↦ [] | Some x ↦ a.code x ∷ codes_in t ]

  -- the place of the first character that cannot stand, where a text has to begin with a pair
  -- and does not
  abbrev pub pair_stop : ℕ → List ℕ → ℕ
  pair_stop place [] = place
  pair_stop place (first ∷ t) = if leads a first then place + 1 else place

  -- The item that a text at a place completes in a state, with the place behind it; or the place
  -- of the first character that cannot stand, which is the end where more was to come.
  abbrev pub item_from : State → ℕ → List ℕ → Result (Item × ℕ) ℕ
  item_from s place [] = Err place
  item_from s place (c ∷ t) =
      elim (next a s c) [
        | stuck ↦ Err place
        | goes_on s' ↦ item_from s' (place + 1) t
        | complete i ↦ Ok (i, place + 1)
      ]

  -- the token of an item that stands from a place to before another; literals go together
  abbrev pub lexeme_of : List ℕ → ℕ → ℕ → Item → Lexeme
  lexeme_of t from to (item.literal c) = literals (slice t from (from + 2 * pairs (drop from t)))
  lexeme_of t from to item.any = any
  lexeme_of t from to (item.group runs) = group (slice t (from + 1) (to - 1))
  lexeme_of t from to (item.range d true low high) =
      range_between t true (from + 1) (from + 1 + 2 * length low) (to - 1)
  lexeme_of t from to (item.range d false low high) =
      range_between t false (from + 2) (from + 2 + 2 * length low) (to - 1)
  lexeme_of t from to (item.other run) = other (slice t (from + 2) (to - 1))
  lexeme_of t from to (item.gap least most) = gap (slice t from to) least most

  -- the token at a place, by what the text completes there
  abbrev pub lexeme_at : List ℕ → ℕ → Result (Item × ℕ) ℕ → Result (Option Lexeme) ℕ
  lexeme_at t from (Ok r) = Ok (Some (lexeme_of t from r.1 r.0))
  lexeme_at t from (Err at) = Err at

  -- The next token of a text at a place, by its position there; none where the text may end and
  -- has ended; or the place of the first character that cannot stand.
  abbrev pub lexed : List ℕ → Position → ℕ → Result (Option Lexeme) ℕ
  lexed t p place =
      if nat_lt place (length t) then lexeme_at t place (item_from (between p) place (drop place t))
      else if may_end p then Ok None
      else Err place

  -- a token before what follows it
  abbrev pub token_before : Lexeme → Result (List Lexeme) ℕ → Result (List Lexeme) ℕ
  token_before x (Ok xs) = Ok (x ∷ xs)
  token_before x (Err at) = Err at

  -- the tokens of a text from a place on, where they are fewer than n
  abbrev pub tokens_from : ℕ → List ℕ → Position → ℕ → Result (List Lexeme) ℕ
  tokens_from zero t p place = Err place
  tokens_from (suc n) t p place =
      elim (lexed t p place) [
        | Err at ↦ Err at
        | Ok o ↦ elim o [
          | None ↦ Ok []
          | Some x ↦ token_before x (tokens_from n t (behind_lexeme x) (place + length (written x)))
        ]
      ]

  -- all tokens of a text: each has a character at least
  abbrev pub tokens_of : List ℕ → Result (List Lexeme) ℕ
  tokens_of t = tokens_from (suc (length t)) t start 0

  -- The theorem: a text that is read has tokens, and as they are written they are the text.
  abbrev pub TokensAreTheText : Type 0
  TokensAreTheText =
      (t : List ℕ) (qs : List Placed) → items_of a t ≡ Ok qs
      → (xs : List Lexeme) × (tokens_of t ≡ Ok xs) × (flat_map written xs ≡ t)

-- What the code answers, in the words above.

-- the text of a run
abbrev pub run_slice : RunText → Slice
run_slice run = record { place = run.place; text = run.text.now }

-- the text of a group's runs
abbrev pub runs_slice : RunsText → Slice
runs_slice runs = record { place = runs.place; text = runs.text.now }

-- a token
abbrev pub lexeme_in : Token → Lexeme
lexeme_in (token.Literals run) = literals (run_slice run)
lexeme_in token.Any = any
lexeme_in (token.Group runs) = group (runs_slice runs)
lexeme_in (token.Range inside low high) = range inside (run_slice low) (run_slice high)
lexeme_in (token.Other run) = other (run_slice run)
lexeme_in (token.Gap spelling place g) =
    gap (record { place = place; text = spelling.now }) g.least g.most

-- an answer
abbrev pub answer_in : Result (Option Token) Stop → Result (Option Lexeme) ℕ
answer_in (Ok None) = Ok None
answer_in (Ok (Some tok)) = Ok (Some (lexeme_in tok))
answer_in (Err stop) = Err stop.place

-- what the lexer passed with an answer
abbrev pub passed : Result (Option Token) Stop → List ℕ
passed (Ok None) = []
passed (Ok (Some tok)) = written (lexeme_in tok)
passed (Err stop) = []

-- a position
abbrev pub position_in : CodePosition → Position
position_in position.Start = start
position_in position.AfterThing = after_thing
position_in position.AfterGap = after_gap

-- the position behind a token
abbrev pub behind_token : Token → Position
behind_token tok = behind_lexeme (lexeme_in tok)

-- the position behind an answer: only a token moves the lexer on
abbrev pub position_behind : Result (Option Token) Stop → Position → Position
position_behind (Ok None) p = p
position_behind (Ok (Some tok)) p = behind_token tok
position_behind (Err stop) p = p
