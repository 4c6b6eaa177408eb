-- The smaller of two numbers that may be absent.
use Rattle.std.proofs.Common.{◌≡◌, ℕ, min, Some, None, Option, refl, ap, arith}
use Rattle.std.specs.Ordering.{nat_cmp, ord_min}
use Rattle.std.proofs.lemmas.Bool.Decides.{nat_tests}
use Rattle.engine.specs.Smaller.{smaller_by}

-- the smaller of two ends, where there are both: contracts say it by an order, and proofs calculate with `min`
abbrev pub smaller_of : Option ℕ → Option ℕ → Option ℕ
smaller_of (Some a) (Some b) = Some (min a b)
smaller_of (Some a) None = Some a
smaller_of None b = b

-- of two numbers it is their minimum
smaller_is_min : (a b : ℕ) → ord_min nat_cmp a b ≡ min a b
smaller_is_min a b = grind (arith, nat_tests)

-- the smaller of two ends, where there are both
pub smaller_ends : (a b : Option ℕ) → smaller_by nat_cmp a b ≡ smaller_of a b
smaller_ends (Some a) (Some b) = ap Some (smaller_is_min a b)
smaller_ends (Some a) None = refl
smaller_ends None b = refl
