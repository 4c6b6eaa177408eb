-- What readings mean: a list of elements, at most 4,294,967,295 long.
use Rattle.std.specs.Prelude.{◌≤◌, List, map, reverse, length, take}
use Rattle.std.proofs.Common.{subst, sym}
use Rattle.std.proofs.lemmas.List.{length-map, length-reverse}

-- a list that a length of 32 bits can count
abbrev pub FitsReading : {E : Type 0} → List E → Type 0
FitsReading xs = length xs ≤ 4294967295

-- as much of a list as a reading can show
abbrev pub shown : {E : Type 0} → List E → List E
shown xs = take 4294967295 xs

-- a list has as many elements mapped as it had
pub FitsReading-map : {E F : Type 0} (f : E → F) (xs : List E) → FitsReading xs → FitsReading (map f xs)
FitsReading-map f xs h = subst (λ n. n ≤ 4294967295) (sym (length-map xs f)) h

-- a list has as many elements reversed as it had
pub FitsReading-reverse : {E : Type 0} (xs : List E) → FitsReading xs → FitsReading (reverse xs)
FitsReading-reverse xs h = subst (λ n. n ≤ 4294967295) (sym (length-reverse xs)) h
