-- One step of an item over the codes of a reading, from the members of a row to those of another.
use Rattle.std.specs.Prelude.{◌≡◌, ℕ, ◌+◌, ◌<◌, ◌≤◌, Bool, true, ◌&&◌, ◌↔◌, List, length, IsTrue, nat_le}
use Rattle.patterns.specs.Patterns.{Item, matches, range}
use Rattle.patterns.specs.Search.{stretch}
use Rattle.rows.specs.Rows.{member}
use Rattle.rows.specs.declared.Row.{Row}
use Rattle.engine.specs.declared.reach.RunRange.{RunRange}

-- the item that a range of runs stands for
abbrev pub range_item : RunRange → Item
range_item r = range r.direction r.inside r.low.now r.high.now

-- an item leads from a member of a row to j
pub record Led (item : Item) (row : Row) (xs : List ℕ) (j : ℕ) : Type 0 where
  pub origin : ℕ
  pub held : member row origin ≡ true
  pub ordered : origin ≤ j
  pub small : j < 1024
  pub inside : j ≤ length xs
  pub matched : matches item (stretch xs origin j) ≡ true

-- the members of a row are the places that an item leads to from those of another
abbrev pub Stepped : Item → Row → List ℕ → Row → Type 0
Stepped item row xs on = (j : ℕ) → IsTrue (member on j) ↔ Led item row xs j

-- whether an item matches the n codes at an offset, where there are that many
abbrev pub matches_at : Item → ℕ → List ℕ → ℕ → Bool
matches_at item n xs at = nat_le (at + n) (length xs) && matches item (stretch xs at (at + n))
