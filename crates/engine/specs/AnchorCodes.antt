-- What a contract sees of the codes of an anchor.
use Rattle.std.specs.Prelude.{ℕ, ◌-◌, List, length, replicate}

-- the codes in order
pub record Cells : Type 0 where
  pub items : List ℕ

-- what the places behind them hold, which is 0
abbrev pub spare : Cells → List ℕ
spare c = replicate (100 - length c.items) 0
