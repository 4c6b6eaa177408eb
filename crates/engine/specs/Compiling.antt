-- What the parts of the compiler answer.
use Rattle.std.specs.Prelude.{◌≡◌, ℕ, ◌+◌, ◌<◌, ◌≤◌, Bool, ◌&&◌, List, [], ◌∷◌, length, take, drop, Some, None, Option, nat_le, nat_lt}
use Rattle.std.specs.List.{filter_map}
use Rattle.patterns.specs.Fragments.{anchor, bodies, cut_from}
use Rattle.patterns.specs.Grammar.{Placed}
use Rattle.patterns.specs.Patterns.{Item}
use Rattle.patterns.specs.declared.reference.Reference.{Reference}
use Rattle.patterns.specs.declared.reference.Reference.TheVariants.{Front, Back, Anywhere}
use Rattle.engine.specs.Compiled.{literal_codes, anchor_at}
use Rattle.engine.specs.Stored.{items}
use Rattle.engine.specs.declared.pattern.Part.{Part}
use Rattle.engine.specs.declared.pattern.Part.TheVariants.{Literal}
use Rattle.engine.specs.declared.pattern.PlacedPart.{PlacedPart}
use Rattle.engine.specs.declared.pattern.Run.{Run}

-- the items of parts, without their places
abbrev pub part_items : List ℕ → List Run → List PlacedPart → List Item
part_items codes runs parts = bodies (items codes runs parts)

-- the code of a part that is a literal
abbrev pub part_code : Part → Option ℕ
part_code (Literal c) = Some c
part_code _ = None

-- the codes of the literals among parts
abbrev pub part_codes : List PlacedPart → List ℕ
part_codes parts = filter_map (λ (p : PlacedPart). part_code p.part) parts

-- A run of literals among items, from a place on, of a length.
pub record LiteralRun (is : List Item) (start len : ℕ) : Type 0 where
  pub inside : start + len ≤ length is
  pub all : length (literal_codes (take len (drop start is))) ≡ len

-- whether a run of literals is taken for the anchor in place of one before it, by their lengths
abbrev pub replaces : Reference → ℕ → ℕ → Bool
replaces (Front least most) old new = nat_lt 0 new && nat_le old new
replaces (Back least most) old new = nat_lt 0 new && nat_lt old new
replaces Anywhere old new = nat_lt 0 new && nat_le old new

-- A run of literals is the anchor of items.
pub record Anchors (r : Reference) (is : List Item) (start len : ℕ) : Type 0 where
  pub literals : LiteralRun is start len
  pub anchored : anchor r is ≡ anchor_at is start len

-- a run of literals is the anchor of parts, whatever codes and runs they have
abbrev pub AnchorsParts : Reference → List PlacedPart → ℕ → ℕ → Type 0
AnchorsParts r parts start len =
    (codes : List ℕ) (runs : List Run) → Anchors r (part_items codes runs parts) start len

-- The items from the start of a fragment on are cut behind its body, and from the next fragment's start on, if there is one.
abbrev pub Cuts : List Placed → ℕ → Option (ℕ × ℕ) → Type 0
Cuts qs end None =
    (end ≤ length qs)
    × ((break : ℕ) → cut_from break [] [] qs ≡ record { break = break; body = take end qs } ∷ [])
Cuts qs end (Some next) =
    (end < next.0) × (next.0 < length qs)
    × ((break : ℕ)
    → cut_from break [] [] qs
    ≡ record { break = break; body = take end qs } ∷ cut_from next.1 [] [] (drop next.0 qs))

-- the same of parts, whatever codes and runs they have
abbrev pub CutsParts : List PlacedPart → ℕ → Option (ℕ × ℕ) → Type 0
CutsParts parts end next =
    (codes : List ℕ) (runs : List Run) → Cuts (items codes runs parts) end next
