-- How long a reading of one element is.
use Rattle.std.specs.Prelude.{ℕ, ◌≤◌, replicate}
use Rattle.std.proofs.Common.{subst, sym}
use Rattle.std.proofs.lemmas.List.{length-replicate}
use Rattle.kinds.specs.Readings.{FitsReading}

-- an element so many times over is as long as that
pub FitsReading-replicate : {E : Type 0} (n : ℕ) (x : E) → n ≤ 4294967295 → FitsReading (replicate n x)
FitsReading-replicate n x h = subst (λ k. k ≤ 4294967295) (sym (length-replicate n x)) h
