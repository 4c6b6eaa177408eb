-- The two sides of a place in a reading.
use Rattle.std.specs.Prelude.{List, ℕ, drop, reverse, take}
use Rattle.std.proofs.Common.{arith}
use Rattle.std.proofs.lemmas.List.{length-take, length-drop}
use Rattle.kinds.specs.Readings.{FitsReading, FitsReading-reverse}

-- what stands before a place is no longer than all, and neither is what stands from it on
pub FitsReading-back : {E : Type 0} (n : ℕ) (xs : List E) → FitsReading xs → FitsReading (reverse (take n xs))
FitsReading-back n xs h = FitsReading-reverse (take n xs) (simp length-take (omega arith))

pub FitsReading-on : {E : Type 0} (n : ℕ) (xs : List E) → FitsReading xs → FitsReading (drop n xs)
FitsReading-on n xs h = simp length-drop (omega arith)
