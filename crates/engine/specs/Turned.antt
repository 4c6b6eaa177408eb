-- A stored pattern, mirrored: its list of codes is reversed, and its runs and parts follow.
use Rattle.std.specs.Prelude.{ℕ, ◌-◌}
use Rattle.patterns.specs.Patterns.{turned}
use Rattle.engine.specs.declared.pattern.Part.{Part}
use Rattle.engine.specs.declared.pattern.Part.TheVariants as part
use Rattle.engine.specs.declared.pattern.PlacedPart.{PlacedPart}
use Rattle.engine.specs.declared.pattern.Run.{Run}

-- where a run of n codes stands once the codes are reversed
abbrev pub turned_run : ℕ → Run → Run
turned_run n r = record { start = n - r.start - r.len; len = r.len }

-- a part that has runs of n codes, once the codes are reversed
abbrev pub turned_part : ℕ → Part → Part
turned_part n (part.Literal c) = part.Literal c
turned_part n part.Any = part.Any
turned_part n (part.Group first count) = part.Group first count
turned_part n (part.Range direction inside low high) =
    part.Range (turned direction) inside (turned_run n low) (turned_run n high)
turned_part n (part.Other run) = part.Other (turned_run n run)
turned_part n (part.Gap least most) = part.Gap least most

-- the same with its place
abbrev pub turned_placed : ℕ → PlacedPart → PlacedPart
turned_placed n p = record { place = p.place; part = turned_part n p.part }
