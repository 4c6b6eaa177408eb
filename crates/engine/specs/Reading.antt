-- What the reader of texts answers.
use Rattle.std.specs.Prelude.{◌≡◌, ℕ, List, Ok, Err, Result}
use Rattle.kinds.specs.Alphabet.{Alphabet}
use Rattle.patterns.specs.Grammar.{Placed}
use Rattle.patterns.specs.Reader.{items_of}
use Rattle.engine.specs.Stored.{items}
use Rattle.faults.specs.declared.fault.Cause.TheVariants.{Grammar}
use Rattle.faults.specs.declared.fault.Fault.{Fault}
use Rattle.engine.specs.declared.pattern.Pattern.{Pattern}

-- the items that a pattern holds
abbrev pub held : Pattern → List Placed
held p = items p.codes.items p.runs.items p.parts.items

-- a text is read as its items, or refused at the place that the definition gives
abbrev pub Read : {E : Type 0} → Alphabet E → List ℕ → ℕ → Result Pattern Fault → Type 0
Read a t sequence (Ok p) = items_of a t ≡ Ok (held p)
Read a t sequence (Err f) =
    (items_of a t ≡ Err f.place) × (f.cause ≡ Grammar) × (f.sequence ≡ sequence)
