-- The search for a fragment: what stands before and behind its anchor, and the least end through one place of the anchor.
use Rattle.std.specs.Prelude.{◌≡◌, ℕ, ◌+◌, ◌-◌, ◌<◌, ◌≤◌, min, true, ◌&&◌, List, length, take, drop, Some, None, Option, nat_lt}
use Rattle.patterns.specs.Fragments.{Anchor, bodies}
use Rattle.patterns.specs.Grammar.{Placed}
use Rattle.patterns.specs.Patterns.{Item, AtMost, mirrored}
use Rattle.patterns.specs.Search.{reaches}
use Rattle.patterns.specs.Spans.{Anchored, SmallParts, Spans}
use Rattle.patterns.specs.declared.reference.Reference.{Reference}
use Rattle.patterns.specs.declared.reference.Reference.TheVariants.{Front, Back, Anywhere}
use Rattle.rows.specs.Rows.{member}
use Rattle.rows.specs.declared.Row.{Row}
use Rattle.engine.specs.declared.fragment.Fragment.{Fragment}
use Rattle.engine.specs.declared.starts.Starts.{Starts}

-- a row has as members the offsets below 1,024 that items reach
abbrev pub Reached : List Item → List ℕ → Row → Type 0
Reached items xs row = (j : ℕ) → member row j ≡ (nat_lt j 1024 && reaches items xs j)

-- the items from one place to before another
abbrev pub part_of : List Placed → ℕ → ℕ → List Item
part_of qs from to = bodies (take (to - from) (drop from qs))

-- where a placement may start, counted from where the search begins
abbrev pub starts_of : Reference → Starts
starts_of (Front least most) = record { from = least; until = Some most }
starts_of (Back least most) = record { from = least; until = Some most }
starts_of Anywhere = record { from = 0; until = None }

-- a member of a row that leads from a place back to a start where a placement may start
pub record Start (row : Row) (place : ℕ) (starts : Starts) : Type 0 where
  pub distance : ℕ
  pub held : member row distance ≡ true
  pub inside : distance ≤ place
  pub late : starts.from ≤ place - distance
  pub early : AtMost starts.until (place - distance)

-- a fragment's bounds among as many items
pub record Bounds (count : ℕ) (f : Fragment) : Type 0 where
  pub before : f.first ≤ f.anchor
  pub behind : f.anchor + length f.codes.items ≤ f.end
  pub inside : f.end ≤ count

-- a fragment's anchor, what stands before it, which the mirrored items have mirrored, and what stands behind it
pub record Sides (items mirror : List Placed) (f : Fragment) (a : Anchor) : Type 0 where
  pub before : part_of mirror (length mirror - f.anchor) (length mirror - f.first) ≡ mirrored a.front
  pub len : length f.codes.items ≡ length a.codes
  pub some : 0 < length f.codes.items
  pub behind : part_of items (f.anchor + length f.codes.items) f.end ≡ a.back
  pub small : SmallParts a

-- the least end of a placement whose anchor stands at a place, or none
abbrev pub LeastThrough : Anchor → Starts → List ℕ → ℕ → Option ℕ → Type 0
LeastThrough a starts xs p None = (e : ℕ) → Anchored a.front a.codes a.back starts.from starts.until xs p e → ⊥
LeastThrough a starts xs p (Some b) =
    Anchored a.front a.codes a.back starts.from starts.until xs p b × ((e : ℕ) → Spans a.back xs (p + length a.codes) e → b ≤ e)

-- no anchor of a placement that has at most `far` elements before it stands past this place: it is as many places past the last start,
-- as far as a reading reaches
abbrev pub last_place_of : Option ℕ → ℕ → ℕ
last_place_of None far = 4294967295
last_place_of (Some most) far = min (most + far) 4294967295

-- the last of the places up to one where an anchor of a length can give a smaller end than the best one
abbrev pub last_useful_of : ℕ → Option ℕ → ℕ → ℕ
last_useful_of last None len = last
last_useful_of last (Some end) len = min last (end - len)
