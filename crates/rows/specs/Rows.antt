-- Sets of offsets below 1,024, as 16 words of 64 bits.
use Rattle.std.specs.Prelude.{◌≡◌, ℕ, zero, suc, ◌-◌, ◌/◌, ◌%◌, ◌<◌, ◌≤◌, Bool, true, false, ◌&&◌, ◌||◌, nat_le, nat_lt, slice_index}
use Rattle.rows.specs.declared.Row.{Row}
use Rattle.rows.specs.Words.{bit}

-- whether k is a member of the row: bit k % 64 of its word k / 64, and never from 1,024 on
unfoldable pub member : Row → ℕ → Bool
member row k = nat_lt k 1024 && bit (slice_index row.words (k / 64)) (k % 64)

-- whether j is a member of the row moved on by d
unfoldable pub moved : Row → ℕ → ℕ → Bool
moved row d j = nat_le d j && member row (j - d)

-- whether j is a member of the row moved on by some distance from `least` to `most`
unfoldable pub some_distance : Row → ℕ → ℕ → ℕ → Bool
some_distance row least zero j = nat_le least 0 && moved row 0 j
some_distance row least (suc most) j = (nat_le least (suc most) && moved row (suc most) j) || some_distance row least most j

-- the row has no member from `start` on
unfoldable pub NoneFrom : Row → ℕ → Type 0
NoneFrom row start = (j : ℕ) → start ≤ j → member row j ≡ false

-- k is the row's least member from `start` on
pub record FirstFrom (row : Row) (start k : ℕ) : Type 0 where
  pub held : member row k ≡ true
  pub reached : start ≤ k
  pub before : (j : ℕ) → start ≤ j → j < k → member row j ≡ false
