-- The fragments of a pattern, the limits on them, and the numbers that they are compiled to.
use Rattle.std.specs.Prelude.{ℕ, suc, ◌+◌, ◌%◌, min, max, Bool, true, false, if◌then◌else◌, not, ◌&&◌, ◌||◌, List, [], ◌∷◌, ◌++◌, map, length, Some, None, Option, ◌==◌, nat_le, nat_lt}
use Rattle.patterns.specs.Grammar.{Placed}
use Rattle.patterns.specs.Patterns.{Item, literal, any, group, range, other, gap, compared, same, up_to, mirrored_item}
use Rattle.patterns.specs.declared.direction.Direction.{Direction}
use Rattle.patterns.specs.declared.reference.Reference.{Reference}
use Rattle.patterns.specs.declared.reference.Reference.TheVariants.{Front, Back, Anywhere}

-- Lengths.

-- the length of the shortest of some runs
abbrev pub shortest : List (List ℕ) → ℕ
shortest [] = 0
shortest (run ∷ []) = length run
shortest (run ∷ next ∷ runs) = min (length run) (shortest (next ∷ runs))

-- the length of the longest of some runs
abbrev pub longest : List (List ℕ) → ℕ
longest [] = 0
longest (run ∷ runs) = max (length run) (longest runs)

-- the least number of elements that an item takes
abbrev pub least : Item → ℕ
least (literal c) = 1
least any = 1
least (group runs) = shortest runs
least (range d inside low high) = length low
least (other run) = length run
least (gap m n) = m

-- how many elements an item spans: a gap its n, a group its longest run, a range its first run's length
abbrev pub span : Item → ℕ
span (literal c) = 1
span any = 1
span (group runs) = longest runs
span (range d inside low high) = length low
span (other run) = length run
span (gap m (Some n)) = n
span (gap m None) = 0

-- the sum of a number of each item
abbrev pub sum : (Item → ℕ) → List Placed → ℕ
sum f [] = 0
sum f (q ∷ qs) = f q.item + sum f qs

-- Fragments.

-- an item is a gap
abbrev pub is_gap : Item → Bool
is_gap (literal c) = false
is_gap any = false
is_gap (group runs) = false
is_gap (range d inside low high) = false
is_gap (other run) = false
is_gap (gap m n) = true

-- a gap without upper end
abbrev pub endless : Item → Bool
endless (literal c) = false
endless any = false
endless (group runs) = false
endless (range d inside low high) = false
endless (other run) = false
endless (gap m (Some n)) = false
endless (gap m None) = true

-- some item passes a test
abbrev pub some : (Item → Bool) → List Placed → Bool
some p [] = false
some p (q ∷ qs) = p q.item || some p qs

-- A fragment: its items, and the least number of elements that stand before it.
pub record Fragment : Type 0 where
  pub break : ℕ
  pub body : List Placed

-- A spacing is neighbouring gaps with nothing else between them. The items are cut at every spacing that has a gap without
-- upper end. What was read: the break and the body of the fragment so far, and the spacing behind it.
abbrev pub cut_from : ℕ → List Placed → List Placed → List Placed → List Fragment
cut_from break body spacing [] = record { break = break; body = body } ∷ []
cut_from break body spacing (q ∷ qs) =
    elim (is_gap q.item) [
      | true ↦ cut_from break body (spacing ++ q ∷ []) qs
      | false ↦
          elim (some endless spacing) [
            | true ↦ record { break = break; body = body } ∷ cut_from (sum least spacing) (q ∷ []) [] qs
            | false ↦ cut_from break (body ++ (spacing ++ q ∷ [])) [] qs
          ]
    ]

-- the fragments of a pattern's items, of which the first has the break lo
abbrev pub fragments : ℕ → List Placed → List Fragment
fragments lo qs = cut_from lo [] [] qs

-- The limits.

-- one run comes before another of its length
abbrev pub before : Direction → List ℕ → List ℕ → Bool
before d low high = (length low == length high && up_to (compared d low) (compared d high)) && not (same low high)

-- m above n; runs of unequal length, or the first not before the second
abbrev pub wrong : Item → Bool
wrong (literal c) = false
wrong any = false
wrong (group runs) = false
wrong (range d inside low high) = not (before d low high)
wrong (other run) = false
wrong (gap m (Some n)) = nat_lt n m
wrong (gap m None) = false

-- the least number of a list, and a number
abbrev pub least_with : Option ℕ → ℕ → Option ℕ
least_with None n = Some n
least_with (Some m) n = Some (min m n)

-- the smallest place of a wrong item, and what was found before
abbrev pub wrong_place : Option ℕ → List Placed → Option ℕ
wrong_place found [] = found
wrong_place found (q ∷ qs) = wrong_place (if wrong q.item then least_with found q.place else found) qs

-- where a fragment begins
abbrev pub first_place : List Placed → ℕ
first_place [] = 0
first_place (q ∷ qs) = q.place

-- the smallest place of a fragment past the eighth or with a span above 1,024, and what was found before
abbrev pub fragment_place : ℕ → Option ℕ → List Fragment → Option ℕ
fragment_place number found [] = found
fragment_place number found (f ∷ fs) =
    fragment_place (suc number) (if nat_le 8 number || nat_lt 1024 (sum span f.body) then least_with found (first_place f.body) else found) fs

-- the smallest place that is beyond a limit
abbrev pub limit_place : List Placed → Option ℕ
limit_place qs = fragment_place 0 (wrong_place None qs) (fragments 0 qs)

-- an item is a literal
abbrev pub is_literal : Item → Bool
is_literal (literal c) = true
is_literal any = false
is_literal (group runs) = false
is_literal (range d inside low high) = false
is_literal (other run) = false
is_literal (gap m n) = false

-- where the first fragment without a literal outside groups and ranges begins
abbrev pub bare_place : List Fragment → Option ℕ
bare_place [] = None
bare_place (f ∷ fs) = if some is_literal f.body then bare_place fs else Some (first_place f.body)

-- Compiled numbers. A sequence from the back is compiled mirrored, so its fragments are numbered from the back.

-- the items from the last to the first, each mirrored, with their places
abbrev pub mirrored_placed : List Placed → List Placed
mirrored_placed [] = []
mirrored_placed (q ∷ qs) = mirrored_placed qs ++ (record { place = q.place; item = mirrored_item q.item } ∷ [])

-- the items as they are compiled: mirrored where the sequence is looked for from the back
abbrev pub oriented : Reference → List Placed → List Placed
oriented (Front least most) qs = qs
oriented (Back least most) qs = mirrored_placed qs
oriented Anywhere qs = qs

-- the items without their places
abbrev pub bodies : List Placed → List Item
bodies [] = []
bodies (q ∷ qs) = q.item ∷ bodies qs

-- A run of neighbouring literals in a fragment: the items before it, its codes, and the items after it.
pub record Anchor : Type 0 where
  pub front : List Item
  pub codes : List ℕ
  pub back : List Item

-- a run of literals that ends here, if one had begun
abbrev pub ended : List Item → List ℕ → List Item → List Anchor
ended front [] back = []
ended front (c ∷ cs) back = record { front = front; codes = c ∷ cs; back = back } ∷ []

-- the code of a literal, and none of another item
abbrev pub literal_code : Item → Option ℕ
literal_code (literal c) = Some c
literal_code any = None
literal_code (group runs) = None
literal_code (range d inside low high) = None
literal_code (other run) = None
literal_code (gap m n) = None

-- the longest runs of neighbouring literals, in order: what was read before, and the run so far
abbrev pub literal_runs : List Item → List ℕ → List Item → List Anchor
literal_runs front run [] = ended front run []
literal_runs front run (i ∷ is) =
    elim (literal_code i) [
      | Some c ↦ literal_runs front (run ++ c ∷ []) is
      | None ↦ ended front run (i ∷ is) ++ literal_runs (front ++ (map literal run ++ i ∷ [])) [] is
    ]

-- whether the second of two runs is the better anchor: it is longer, or as long and later in the text, which is sooner in a mirrored one
abbrev pub better : Reference → Anchor → Anchor → Bool
better (Front least most) old new = nat_le (length old.codes) (length new.codes)
better (Back least most) old new = nat_lt (length old.codes) (length new.codes)
better Anywhere old new = nat_le (length old.codes) (length new.codes)

-- the best of some runs
abbrev pub best : Reference → Anchor → List Anchor → Anchor
best r old [] = old
best r old (new ∷ more) = best r (if better r old new then new else old) more

-- the anchor of a fragment's items: the best run of literals, or none of the codes where there is no literal
abbrev pub anchor : Reference → List Item → Anchor
anchor r items = best r (record { front = items; codes = []; back = [] }) (literal_runs [] [] items)

-- the sum of the least lengths of items
abbrev pub sum_least : List Item → ℕ
sum_least [] = 0
sum_least (i ∷ is) = least i + sum_least is

-- the least number of elements from the fragment's start to the anchor's
abbrev pub lead : Anchor → ℕ
lead a = sum_least a.front

-- the distances of the codes that have an index, counting the last code as 1
abbrev pub distances : List ℕ → ℕ → List ℕ
distances [] index = []
distances (c ∷ cs) index = if c % 256 == index then suc (length cs) ∷ distances cs index else distances cs index

-- the smallest of a number and some others
abbrev pub smallest : ℕ → List ℕ → ℕ
smallest n [] = n
smallest n (m ∷ ms) = smallest (min n m) ms

-- the shift of an index: the least distance, or the anchor's length plus 1 where no code has it
abbrev pub shift : List ℕ → ℕ → ℕ
shift codes index = smallest (suc (length codes)) (distances codes index)
