-- A table of compiled fragments: its free slots, what stands in a slot, and the sequences whose fragments stand in it.
use Rattle.std.specs.Prelude.{◌≡◌, ℕ, suc, ◌+◌, ◌<◌, List, [], ◌∷◌, ◌++◌, length, take, Some, None, Ok, Err, Option, Result, IsSome, slice_set, ⊤}
use Rattle.std.specs.List.{slice_get, AllByRecursion, Contains}
use Rattle.std.specs.Option.{option_and_then, option_flatten}
use Rattle.patterns.specs.Sequences.{Said, parts_said}
use Rattle.engine.specs.Sequences.{HoldsSaid}
use Rattle.engine.specs.declared.fragment.Fragment.{Fragment}

-- the numbers of the free slots, rising, where the slots are numbered from n on
abbrev pub free_from : {X : Type 0} → ℕ → List (Option X) → List ℕ
free_from n [] = []
free_from n (None ∷ slots) = n ∷ free_from (suc n) slots
free_from n (Some x ∷ slots) = free_from (suc n) slots

-- the numbers of the free slots, rising
abbrev pub free_slots : {X : Type 0} → List (Option X) → List ℕ
free_slots table = free_from 0 table

-- what stands in a slot, if it is one of the table and not free
abbrev pub at_slot : {X : Type 0} → List (Option X) → ℕ → Option X
at_slot table slot = option_flatten (slice_get table slot)

-- what stands in the slot at place k of a list of slots
abbrev pub at_slots : {X : Type 0} → List (Option X) → List ℕ → ℕ → Option X
at_slots table slots k = option_and_then (at_slot table) (slice_get slots k)

-- a table with some slots freed
abbrev pub cleared : {X : Type 0} → List (Option X) → List ℕ → List (Option X)
cleared table [] = table
cleared table (slot ∷ slots) = cleared (slice_set table slot None) slots

-- A sequence in a table: what it says, and the slots of its fragments, in the order of their numbers.
pub record Slotted : Type 0 where
  pub said : Said
  pub slots : List ℕ

-- The fragments of a sequence stand in its slots of a table.
pub record StandsIn (table : List (Option Fragment)) (v : Slotted) : Type 0 where
  pub counted : length v.slots ≡ length (parts_said v.said)
  pub holds : HoldsSaid v.said (at_slots table v.slots)

-- A sequence is moved into a table: its fragments stand in the first free slots, the others stay free, and with its slots freed the
-- table is as it was.
pub record Moved (s : Said) (before after : List (Option Fragment)) (v : Slotted) : Type 0 where
  pub same : v.said ≡ s
  pub first : v.slots ≡ take (length (parts_said s)) (free_slots before)
  pub free : v.slots ++ free_slots after ≡ free_slots before
  pub stands : StandsIn after v
  pub others : cleared after v.slots ≡ before

-- A sequence is moved into a table, or the table has too few free slots for its fragments, and both stay as they were.
abbrev pub MovedOrNot : Said → List (Option Fragment) → List (Option Fragment) → Result Slotted Said → Type 0
MovedOrNot s before after (Ok v) = Moved s before after v
MovedOrNot s before after (Err t) = (length (free_slots before) < length (parts_said s)) × (t ≡ s) × (after ≡ before)

-- a slot holds a fragment
abbrev pub IsFilled : {X : Type 0} → List (Option X) → ℕ → Type 0
IsFilled table slot = IsSome (at_slot table slot)

-- no slot is twice in a list
abbrev pub Distinct : List ℕ → Type 0
Distinct [] = ⊤
Distinct (slot ∷ slots) = ¬ (Contains slots slot) × Distinct slots

-- no slot is in both lists
abbrev pub Apart : List ℕ → List ℕ → Type 0
Apart some others = (slot : ℕ) → Contains some slot → Contains others slot → ⊥

-- A sequence that stands in a table goes on to stand in it as long as its slots are left alone: where a further sequence is moved in,
-- which gets other slots, where another slot is set or freed, and where other slots are freed. The slots that it gets are distinct,
-- each of them holds a fragment, and where distinct slots that do are freed, so many more are free.
pub record StandsOn : Type 0 where
  pub moved_in :
      (s : Said) (before after : List (Option Fragment)) (v w : Slotted) → StandsIn before v
      → Moved s before after w → StandsIn after v × Apart v.slots w.slots
  pub set_beside :
      (t : List (Option Fragment)) (v : Slotted) (slot : ℕ) (x : Option Fragment) → StandsIn t v
      → (Contains v.slots slot → ⊥) → StandsIn (slice_set t slot x) v
  pub freed_beside :
      (t : List (Option Fragment)) (v : Slotted) (slots : List ℕ) → StandsIn t v
      → Apart v.slots slots → StandsIn (cleared t slots) v
  pub distinct : (s : Said) (before after : List (Option Fragment)) (v : Slotted) → Moved s before after v → Distinct v.slots
  pub filled : (t : List (Option Fragment)) (v : Slotted) → StandsIn t v → AllByRecursion (IsFilled t) v.slots
  pub freed :
      (t : List (Option Fragment)) (slots : List ℕ) → Distinct slots → AllByRecursion (IsFilled t) slots
      → length (free_slots (cleared t slots)) ≡ length (free_slots t) + length slots
