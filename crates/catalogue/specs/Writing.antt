-- How entries are written into a buffer.
use Rattle.std.specs.Prelude.{ℕ, List, ◌++◌, map, take, drop}
use Rattle.std.specs.List.{flat_map}
use Rattle.records.specs.Calls.{over, record_with}

-- the records of a kind with the bodies of entries, one after the other
abbrev pub records_of : ℕ → List (ℕ × List ℕ) → List ℕ
records_of kind pairs = flat_map (record_with kind) (map (λ (e : ℕ × List ℕ). e.1) pairs)

-- output in a list from a place on, and the rest as it was
abbrev pub over_from : {X : Type 0} → ℕ → List X → List X → List X
over_from at output old = take at old ++ over output (drop at old)
