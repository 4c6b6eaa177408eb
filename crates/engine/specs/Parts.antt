-- What the runs and parts of a pattern stand for, by the pattern that holds them.
use Rattle.std.specs.Prelude.{◌≡◌, ℕ, true, List, [], ◌∷◌, ◌++◌}
use Rattle.patterns.specs.Fragments.{bodies}
use Rattle.patterns.specs.Grammar.{Placed}
use Rattle.patterns.specs.Patterns.{Item}
use Rattle.engine.specs.Reading.{held}
use Rattle.engine.specs.Stored.{run_codes, item_of, placed_of, items, run_within, all_runs_within, part_within, all_parts_within}
use Rattle.engine.specs.declared.pattern.Part.{Part}
use Rattle.engine.specs.declared.pattern.PlacedPart.{PlacedPart}
use Rattle.engine.specs.declared.pattern.Pattern.{Pattern}
use Rattle.engine.specs.declared.pattern.Run.{Run}

-- the codes of a run
abbrev pub run_in : Pattern → Run → List ℕ
run_in p run = run_codes p.codes.items run

-- the item that a part stands for
abbrev pub item_in : Pattern → Part → Item
item_in p part = item_of p.codes.items p.runs.items part

-- the same with its place
abbrev pub placed_in : Pattern → PlacedPart → Placed
placed_in p part = placed_of p.codes.items p.runs.items part

-- the items that parts stand for, without their places
abbrev pub items_in : Pattern → List PlacedPart → List Item
items_in p parts = bodies (items p.codes.items p.runs.items parts)

-- a run lies within the pattern's codes
abbrev pub HasRun : Pattern → Run → Type 0
HasRun p run = run_within p.codes.items run ≡ true

-- all of some runs do
abbrev pub HasRuns : Pattern → List Run → Type 0
HasRuns p runs = all_runs_within p.codes.items runs ≡ true

-- a part lies within the pattern's codes and runs
abbrev pub HasPart : Pattern → Part → Type 0
HasPart p part = part_within p.codes.items p.runs.items part ≡ true

-- all of some parts do
abbrev pub HasParts : Pattern → List PlacedPart → Type 0
HasParts p parts = all_parts_within p.codes.items p.runs.items parts ≡ true

-- a pattern has no codes, no runs and no parts
pub record IsEmpty (p : Pattern) : Type 0 where
  pub codes : p.codes.items ≡ []
  pub runs : p.runs.items ≡ []
  pub parts : p.parts.items ≡ []

-- one code more, and the same runs and items
pub record CodePushed (before : Pattern) (code : ℕ) (after : Pattern) : Type 0 where
  pub codes : after.codes.items ≡ before.codes.items ++ code ∷ []
  pub runs : after.runs.items ≡ before.runs.items
  pub items : held after ≡ held before

-- one run more, and the same codes and items
pub record RunPushed (before : Pattern) (run : Run) (after : Pattern) : Type 0 where
  pub codes : after.codes.items ≡ before.codes.items
  pub runs : after.runs.items ≡ before.runs.items ++ run ∷ []
  pub items : held after ≡ held before

-- one item more, and the same codes and runs
pub record PartPushed (before : Pattern) (p : PlacedPart) (after : Pattern) : Type 0 where
  pub codes : after.codes.items ≡ before.codes.items
  pub runs : after.runs.items ≡ before.runs.items
  pub items : held after ≡ held before ++ placed_of before.codes.items before.runs.items p ∷ []
