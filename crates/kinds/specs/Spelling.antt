-- Elements written as their pairs, run together.
use Rattle.std.specs.Prelude.{ℕ, ◌+◌, List, [], ◌∷◌, ◌++◌, codes, Some, None, Ok, Err, Option, Result}
use Rattle.std.specs.Fmt.{decimal}
use Rattle.kinds.specs.Alphabet.{Alphabet}
use Rattle.kinds.specs.declared.spelling.SpellingFault.{SpellingFault}
use Rattle.kinds.specs.declared.spelling.SpellingFault.TheVariants.{Unnamed, Odd, Memory}

-- one element in front of the rest, unless either is at fault; the pair's own fault comes first
abbrev pub in_front : {E : Type 0} → ℕ → Option E → Result (List E) SpellingFault → Result (List E) SpellingFault
in_front place None rest = Err (Unnamed place)
in_front place (Some x) (Ok xs) = Ok (x ∷ xs)
in_front place (Some x) (Err fault) = Err fault

-- the elements of the pairs of a text that begins at a place; or the first pair that names none, by its place;
-- or that one character is left over
abbrev pub spelled_from : {E : Type 0} → Alphabet E → ℕ → List ℕ → Result (List E) SpellingFault
spelled_from a place [] = Ok []
spelled_from a place (first ∷ []) = Err Odd
spelled_from a place (first ∷ second ∷ rest) = in_front place (a.named first second) (spelled_from a (place + 2) rest)

-- the elements that a text spells, or its fault
abbrev pub spelled : {E : Type 0} → Alphabet E → List ℕ → Result (List E) SpellingFault
spelled a text = spelled_from a 0 text

-- elements that stood before, and behind them those that were read, unless there was a fault
abbrev pub after : {E : Type 0} → List E → Result (List E) SpellingFault → Result (List E) SpellingFault
after xs (Ok ys) = Ok (xs ++ ys)
after xs (Err fault) = Err fault

-- a fault as text
abbrev pub fault_text : SpellingFault → List ℕ
fault_text (Unnamed place) = codes "no element is named at " ++ decimal place
fault_text Odd = codes "odd number of characters"
fault_text Memory = codes "no memory"
