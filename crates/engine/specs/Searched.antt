-- What the search of a compiled sequence relies on.
use Rattle.std.specs.Prelude.{◌≡◌, ℕ, ◌<◌, ◌≤◌, List, length, Some, None, Option, ⊤}
use Rattle.std.specs.List.{slice_get}
use Rattle.patterns.specs.Fragments as spec
use Rattle.patterns.specs.Fragments.{anchor, bodies, mirrored_placed, oriented}
use Rattle.patterns.specs.Grammar.{Placed, Ordered, start}
use Rattle.patterns.specs.Spans.{Small}
use Rattle.patterns.specs.declared.reference.Reference.{Reference}
use Rattle.engine.specs.Compiled.{literal_codes, Holds}
use Rattle.patterns.specs.Limits.{refusal}
use Rattle.engine.specs.declared.fragment.Fragment.{Fragment}

-- Items in the order of the search that the compiler can have made: in the order of the text they are a text's and not refused,
-- with at most 100 literals, and the mirrored items are theirs.
pub record Accepted (r : Reference) (items mirror : List Placed) : Type 0 where
  pub ordered : Ordered start (oriented r items)
  pub accepted : refusal (oriented r items) ≡ None
  pub mirrors : mirror ≡ mirrored_placed items
  pub few : length (literal_codes (bodies items)) ≤ 100

-- A compiled fragment that can be searched for: it holds a fragment of the items, there are the mirrored items to look back
-- from its anchor, it spans no more than a row, and its anchor has a code.
pub record Searched (r : Reference) (items mirror : List Placed) (f : Fragment) (g : spec.Fragment) : Type 0 where
  pub holds : Holds r items f g
  pub mirrors : mirror ≡ mirrored_placed items
  pub small : Small (bodies g.body)
  pub coded : 0 < length (anchor r (bodies g.body)).codes

-- a compiled fragment, if there is one, holds a fragment of the items, if there is one
abbrev pub HoldsIf : Reference → List Placed → Option Fragment → Option spec.Fragment → Type 0
HoldsIf r items None None = ⊤
HoldsIf r items None (Some g) = ⊥
HoldsIf r items (Some f) None = ⊥
HoldsIf r items (Some f) (Some g) = Holds r items f g

-- the compiled fragments, by their numbers from 0 on, hold the fragments of the items
abbrev pub HoldsEach : Reference → List Placed → (ℕ → Option Fragment) → List spec.Fragment → Type 0
HoldsEach r items at gs = (k : ℕ) → HoldsIf r items (at k) (slice_get gs k)
