-- Which texts of the grammar are refused, and where.
use Rattle.std.specs.Prelude.{ℕ, List, Some, None, Option}
use Rattle.patterns.specs.Fragments.{fragments, limit_place, bare_place}
use Rattle.patterns.specs.Grammar.{Placed}
use Rattle.faults.specs.declared.fault.Cause.{Cause}
use Rattle.faults.specs.declared.fault.Cause.TheVariants.{Limit, NoLiteral}

-- a limit comes before a missing literal, each at its smallest place
abbrev pub refusal : List Placed → Option (Cause × ℕ)
refusal qs =
    elim (limit_place qs) [
      | Some n ↦ Some (Limit, n)
      | None ↦ elim (bare_place (fragments 0 qs)) [ Some n ↦ Some (NoLiteral, n) | None ↦ None ]
    ]
