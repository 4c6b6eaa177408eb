-- What a compiled fragment holds, by the items that it was compiled from.
use Rattle.std.specs.Prelude.{◌≡◌, ℕ, ◌+◌, ◌-◌, ◌<◌, ◌≤◌, List, [], ◌∷◌, length, take, drop, Some, None, slice_index, ⊤}
use Rattle.patterns.specs.Fragments as spec
use Rattle.patterns.specs.Fragments.{Anchor, anchor, lead, shift, bodies, literal_code}
use Rattle.patterns.specs.Grammar.{Placed}
use Rattle.patterns.specs.Patterns.{Item}
use Rattle.patterns.specs.declared.reference.Reference.{Reference}
use Rattle.engine.specs.declared.fragment.Fragment.{Fragment}

-- the codes of the literals among items
abbrev pub literal_codes : List Item → List ℕ
literal_codes [] = []
literal_codes (i ∷ is) =
    elim (literal_code i) [ Some c ↦ c ∷ literal_codes is | None ↦ literal_codes is ]

-- the run of literals from a place on, of a length
abbrev pub anchor_at : List Item → ℕ → ℕ → Anchor
anchor_at items start len = record {
  front = take start items;
  codes = literal_codes (take len (drop start items));
  back = drop (start + len) items;
}

-- A compiled fragment holds the numbers of a fragment of the pattern's items.
pub record Holds (r : Reference) (items : List Placed) (f : Fragment) (g : spec.Fragment)
    : Type 0 where
  pub ordered :
      (f.first ≤ f.anchor) × (f.anchor + length f.codes.items ≤ f.end) × (f.end ≤ length items)
  pub body : take (f.end - f.first) (drop f.first items) ≡ g.body
  pub break : f.break_before ≡ g.break
  pub anchored :
      anchor r (bodies g.body)
      ≡ anchor_at (bodies g.body) (f.anchor - f.first) (length f.codes.items)
  pub codes : f.codes.items ≡ (anchor r (bodies g.body)).codes
  pub leads : f.lead ≡ lead (anchor r (bodies g.body))
  pub shifts :
      (index : ℕ) → index < 256
      → slice_index f.shifts index ≡ shift (anchor r (bodies g.body)).codes index

-- compiled fragments hold those of the items, one for one
abbrev pub Hold : Reference → List Placed → List Fragment → List spec.Fragment → Type 0
Hold r items [] [] = ⊤
Hold r items [] (g ∷ gs) = ⊥
Hold r items (f ∷ fs) [] = ⊥
Hold r items (f ∷ fs) (g ∷ gs) = Holds r items f g × Hold r items fs gs
