-- What a stored pattern stands for: items whose runs are parts of one list of codes.
use Rattle.std.specs.Prelude.{ℕ, ◌+◌, Bool, true, ◌&&◌, List, [], ◌∷◌, map, length, take, drop, nat_le}
use Rattle.patterns.specs.Grammar.{Placed}
use Rattle.patterns.specs.Patterns.{Item, literal, any, group, range, other, gap}
use Rattle.engine.specs.declared.pattern.Part.{Part}
use Rattle.engine.specs.declared.pattern.Part.TheVariants as part
use Rattle.engine.specs.declared.pattern.PlacedPart.{PlacedPart}
use Rattle.engine.specs.declared.pattern.Run.{Run}

-- the codes of a run
abbrev pub run_codes : List ℕ → Run → List ℕ
run_codes codes r = take r.len (drop r.start codes)

-- the item that a part stands for
abbrev pub item_of : List ℕ → List Run → Part → Item
item_of codes runs (part.Literal c) = literal c
item_of codes runs part.Any = any
item_of codes runs (part.Group first count) =
    group (map (run_codes codes) (take count (drop first runs)))
item_of codes runs (part.Range direction inside low high) =
    range direction inside (run_codes codes low) (run_codes codes high)
item_of codes runs (part.Other run) = other (run_codes codes run)
item_of codes runs (part.Gap m n) = gap m n

-- the same with its place
abbrev pub placed_of : List ℕ → List Run → PlacedPart → Placed
placed_of codes runs p = record { place = p.place; item = item_of codes runs p.part }

-- the items that parts stand for
abbrev pub items : List ℕ → List Run → List PlacedPart → List Placed
items codes runs parts = map (placed_of codes runs) parts

-- a run lies within the codes
abbrev pub run_within : List ℕ → Run → Bool
run_within codes r = nat_le (r.start + r.len) (length codes)

-- all of some runs do
abbrev pub all_runs_within : List ℕ → List Run → Bool
all_runs_within codes [] = true
all_runs_within codes (r ∷ rs) = run_within codes r && all_runs_within codes rs

-- the runs of a part lie within the lists of codes and runs
abbrev pub part_within : List ℕ → List Run → Part → Bool
part_within codes runs (part.Literal c) = true
part_within codes runs part.Any = true
part_within codes runs (part.Group first count) = nat_le (first + count) (length runs)
part_within codes runs (part.Range direction inside low high) =
    run_within codes low && run_within codes high
part_within codes runs (part.Other run) = run_within codes run
part_within codes runs (part.Gap m n) = true

-- all of some parts do
abbrev pub all_parts_within : List ℕ → List Run → List PlacedPart → Bool
all_parts_within codes runs [] = true
all_parts_within codes runs (p ∷ ps) =
    part_within codes runs p.part && all_parts_within codes runs ps
