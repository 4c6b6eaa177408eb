-- The smaller of two values that may be absent, in an order.
use Rattle.std.specs.Prelude.{Some, None, Option}
use Rattle.std.specs.Ordering.{ord_min}
use Rattle.std.specs.declared.cmp.Ordering.{Ordering}

-- the smaller of two values, where there are both
abbrev pub smaller_by : {X : Type 0} → (X → X → Ordering) → Option X → Option X → Option X
smaller_by cmp (Some a) (Some b) = Some (ord_min cmp a b)
smaller_by cmp (Some a) None = Some a
smaller_by cmp None b = b
