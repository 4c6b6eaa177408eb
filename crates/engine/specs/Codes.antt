-- The codes of a reading's elements, the table of an anchor's shifts, and the places that are looked at.
use Rattle.std.specs.Prelude.{◌≡◌, ℕ, ◌<◌, if◌then◌else◌, List, Some, None, Option, nat_le, slice_index}
use Rattle.patterns.specs.Fragments.{shift}

-- a table has the shift of each index of an anchor
abbrev pub ShiftsOf : List ℕ → List ℕ → Type 0
ShiftsOf shifts anchor = (index : ℕ) → index < 256 → slice_index shifts index ≡ shift anchor index

-- a place, if it is not past the last one that is looked at
abbrev pub not_past : ℕ → Option ℕ → Option ℕ
not_past last (Some place) = if nat_le place last then Some place else None
not_past last None = None
