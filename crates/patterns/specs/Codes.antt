-- The codes of elements.
use Rattle.std.specs.Prelude.{ℕ, List, map}
use Rattle.kinds.specs.Alphabet.{Alphabet}

-- the codes of elements, in order
abbrev pub codes_of : {E : Type 0} → Alphabet E → List E → List ℕ
codes_of a xs = map a.code xs
