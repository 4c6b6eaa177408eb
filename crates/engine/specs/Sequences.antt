-- What texts are refused for, and what the compiled fragments of a sequence hold.
use Rattle.std.specs.Prelude.{◌≡◌, ℕ, List, Ok, Err, Option, Result}
use Rattle.faults.specs.declared.fault.Fault.{Fault}
use Rattle.kinds.specs.Alphabet.{Alphabet}
use Rattle.patterns.specs.Fragments.{oriented}
use Rattle.patterns.specs.Grammar.{Placed}
use Rattle.patterns.specs.Sequences.{Said, outcome, parts_said}
use Rattle.patterns.specs.declared.reference.Reference.{Reference}
use Rattle.engine.specs.Reading.{held}
use Rattle.engine.specs.Searched.{Accepted, HoldsEach}
use Rattle.engine.specs.declared.fragment.Fragment.{Fragment}
use Rattle.engine.specs.declared.pattern.Pattern.{Pattern}

-- a refusal has the cause and the place of a text's, and the number of its sequence
abbrev pub Refused : {E : Type 0} → Alphabet E → List ℕ → ℕ → Fault → Type 0
Refused a t sequence f = (outcome a t ≡ Err (f.cause, f.place)) × (f.sequence ≡ sequence)

-- a text read and not refused gives its items, else it is refused
abbrev pub Checked : {E : Type 0} → Alphabet E → List ℕ → ℕ → Result Pattern Fault → Type 0
Checked a t sequence (Ok p) = outcome a t ≡ Ok (held p)
Checked a t sequence (Err f) = Refused a t sequence f

-- A text is read and not refused, and its items stand in the order of their search, with the mirrored ones.
pub record Orients {E : Type 0} (a : Alphabet E) (t : List ℕ) (r : Reference) (items mirror : List Placed) : Type 0 where
  pub read : outcome a t ≡ Ok (oriented r items)
  pub accepted : Accepted r items mirror

-- the compiled fragments, by their numbers from 0 on, hold the fragments of a sequence
abbrev pub HoldsSaid : Said → (ℕ → Option Fragment) → Type 0
HoldsSaid s at = HoldsEach s.reference (oriented s.reference s.items) at (parts_said s)
