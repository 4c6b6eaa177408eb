-- What a compiled sequence says, and what its fragments hold.
use Rattle.std.specs.Prelude.{ℕ, List, Ok, Err, Option, Result}
use Rattle.faults.specs.declared.fault.Fault.{Fault}
use Rattle.patterns.specs.Fragments as spec
use Rattle.patterns.specs.Fragments.{bodies, fragments, oriented}
use Rattle.patterns.specs.Patterns.{least_offset}
use Rattle.patterns.specs.Search.{least_end}
use Rattle.patterns.specs.Sequences.{Said}
use Rattle.engine.specs.Compiled.{Hold}
use Rattle.engine.specs.Reading.{held}
use Rattle.engine.specs.Searched.{HoldsEach, Searched}
use Rattle.engine.specs.declared.fragment.Fragment.{Fragment}
use Rattle.engine.specs.declared.oriented.Oriented.{Oriented}
use Rattle.engine.specs.declared.starts.Starts.{Starts}

-- what a pattern in the order of its search says
abbrev pub said : Oriented → Said
said o = record { reference = o.reference; items = oriented o.reference (held o.pattern) }

-- the least end among codes of a placement of a pattern, in the order of its search, that starts where it may
abbrev pub end_in : Oriented → Starts → List ℕ → Option ℕ
end_in o starts xs = least_end (bodies (held o.pattern)) starts.from starts.until xs

-- what is said where there is a pattern
abbrev pub said_if : Result Oriented Fault → Result Said Fault
said_if (Ok o) = Ok (said o)
said_if (Err e) = Err e

-- the fragments of a pattern in the order of its search
abbrev pub parts : Oriented → List spec.Fragment
parts o = fragments (least_offset o.reference) (held o.pattern)

-- compiled fragments hold them, one for one
abbrev pub HoldsOwn : Oriented → List Fragment → Type 0
HoldsOwn o fs = Hold o.reference (held o.pattern) fs (parts o)

-- and those that are asked for by number do
abbrev pub HoldsAt : Oriented → (ℕ → Option Fragment) → Type 0
HoldsAt o at = HoldsEach o.reference (held o.pattern) at (parts o)

-- a compiled fragment that can be searched for in a pattern, as a fragment
abbrev pub Searches : Oriented → Fragment → spec.Fragment → Type 0
Searches o f g = Searched o.reference (held o.pattern) (held o.mirror) f g
