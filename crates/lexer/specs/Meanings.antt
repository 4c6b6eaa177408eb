-- What tokens say: their items.
use Rattle.std.specs.Prelude.{ℕ, ◌+◌, List, [], ◌∷◌, map, length}
use Rattle.kinds.specs.Alphabet.{Alphabet}
use Rattle.patterns.specs.Grammar.{Placed}
use Rattle.patterns.specs.Patterns as item
use Rattle.patterns.specs.Patterns.{Item}
use Rattle.patterns.specs.declared.direction.Direction.TheVariants.{FirstOn}
use Rattle.lexer.specs.Tokens.{Lexeme, literals, any, group, range, other, gap}
use Rattle.lexer.specs.Tokens.{between_bars, codes_in}

-- literals that begin at a place, two characters each
abbrev pub literals_at : ℕ → List ℕ → List Placed
literals_at place [] = []
literals_at place (c ∷ cs) =
    record { place = place; item = item.literal c } ∷ literals_at (place + 2) cs

-- one item at a place
abbrev pub one_at : ℕ → Item → List Placed
one_at place i = record { place = place; item = i } ∷ []

-- how many runs of a group a token holds
abbrev pub run_count : Lexeme → ℕ
run_count (literals run) = 0
run_count any = 0
run_count (group runs) = length (between_bars runs.text)
run_count (range inside low high) = 0
run_count (other run) = 0
run_count (gap spelling least most) = 0

module _ {E : Type 0} (a : Alphabet E) where
  -- the runs between the bars of a text
  abbrev pub runs_in : List ℕ → List (List ℕ)
  runs_in t = map (codes_in a) (between_bars t)

  -- the items of a token that begins at a place
  abbrev pub items_at : ℕ → Lexeme → List Placed
  items_at place (literals run) = literals_at place (codes_in a run.text)
  items_at place any = one_at place item.any
  items_at place (group runs) = one_at place (item.group (runs_in runs.text))
  items_at place (range inside low high) =
      one_at place (item.range FirstOn inside (codes_in a low.text) (codes_in a high.text))
  items_at place (other run) = one_at place (item.other (codes_in a run.text))
  items_at place (gap spelling least most) = one_at place (item.gap least most)
