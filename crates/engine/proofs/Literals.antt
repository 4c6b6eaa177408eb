-- How many literals items have: each takes two characters of their text.
use Rattle.std.proofs.Common.{◌≡◌, ℕ, ◌+◌, ◌*◌, ◌≤◌, List, [], ◌∷◌, ◌++◌, length, take, drop, ap, ◌∙◌, refl, arith, length-append, take-append-drop}
use Rattle.kinds.specs.Alphabet.{Alphabet}
use Rattle.patterns.specs.Fragments.{bodies, mirrored_placed, oriented}
use Rattle.patterns.specs.Grammar.{Placed, Says, SaysAll}
use Rattle.patterns.specs.Patterns.{Item, literal, any, group, range, other, gap, mirrored_item}
use Rattle.patterns.specs.declared.reference.Reference.{Reference}
use Rattle.patterns.specs.declared.reference.Reference.TheVariants.{Front, Back, Anywhere}
use Rattle.patterns.proofs.Searches.{bodies_append}
use Rattle.engine.specs.Compiled.{literal_codes}
use Rattle.engine.specs.Compiling.{part_codes, part_items}
use Rattle.engine.specs.declared.pattern.PlacedPart.{PlacedPart}
use Rattle.engine.specs.declared.pattern.Run.{Run}
use Rattle.engine.proofs.Bodies.{part_codes_are, part_items_take, part_items_drop}

-- the literals of items and of those behind them
literals_append : (is js : List Item) → length (literal_codes (is ++ js)) ≡ length (literal_codes is) + length (literal_codes js)
literals_append [] js = omega arith
literals_append (literal c ∷ is) js = let h = literals_append is js in omega arith
literals_append (any ∷ is) js = literals_append is js
literals_append (group runs ∷ is) js = literals_append is js
literals_append (range d inside low high ∷ is) js = literals_append is js
literals_append (other run ∷ is) js = literals_append is js
literals_append (gap m n ∷ is) js = literals_append is js

-- some of the items have no more
literals_part : (is : List Item) (first n : ℕ) → length (literal_codes (take n (drop first is))) ≤ length (literal_codes is)
literals_part is first n =
    let here = literals_append (take first is) (drop first is) in
    let there = literals_append (take n (drop first is)) (drop n (drop first is)) in
    let whole = ap (λ js. length (literal_codes js)) (take-append-drop first is) in
    let rest = ap (λ js. length (literal_codes js)) (take-append-drop n (drop first is)) in
    omega arith

-- one item has as many, mirrored
literal_mirrored : (i : Item) → length (literal_codes (mirrored_item i ∷ [])) ≡ length (literal_codes (i ∷ []))
literal_mirrored (literal c) = refl
literal_mirrored any = refl
literal_mirrored (group runs) = refl
literal_mirrored (range d inside low high) = refl
literal_mirrored (other run) = refl
literal_mirrored (gap m n) = refl

-- and so have all
literals_mirrored : (qs : List Placed) → length (literal_codes (bodies (mirrored_placed qs))) ≡ length (literal_codes (bodies qs))
literals_mirrored [] = refl
literals_mirrored (q ∷ qs) =
    let last = literal_mirrored q.item in
    let more = literals_mirrored qs in
    let first = literals_append (q.item ∷ []) (bodies qs) in
    ap (λ js. length (literal_codes js)) (bodies_append (mirrored_placed qs) _) ∙ literals_append (bodies (mirrored_placed qs)) (mirrored_item q.item ∷ []) ∙ omega arith

-- and all in the order of a search
pub literals_oriented : (r : Reference) (qs : List Placed) → length (literal_codes (bodies (oriented r qs))) ≡ length (literal_codes (bodies qs))
literals_oriented (Front least most) qs = refl
literals_oriented (Back least most) qs = literals_mirrored qs
literals_oriented Anywhere qs = refl

module _ {E : Type 0} (a : Alphabet E) where
  -- the text of one item has two characters for a literal
  literal_said : (i : Item) (front : List ℕ) → Says a i front → 2 * length (literal_codes (i ∷ [])) ≤ length front
  literal_said (literal c) front (first, second, x, named, code, is) = let long = ap length is in omega arith
  literal_said any front says = omega arith
  literal_said (group runs) front says = omega arith
  literal_said (range d inside low high) front says = omega arith
  literal_said (other run) front says = omega arith
  literal_said (gap m n) front says = omega arith

  -- and that of all two for each
  pub literals_said : (place : ℕ) (qs : List Placed) (t : List ℕ) → SaysAll a place qs t → 2 * length (literal_codes (bodies qs)) ≤ length t
  literals_said place [] t says = omega arith
  literals_said place (q ∷ qs) t (front, rest, cut, at, says, later) =
      let here = literal_said q.item front says in
      let there = literals_said (place + length front) qs rest later in
      let all = literals_append (q.item ∷ []) (bodies qs) in
      let long = ap length cut ∙ length-append front rest in
      omega arith

-- some of the parts have at most as many literals as the items of all
pub codes_part : (codes : List ℕ) (runs : List Run) (ps : List PlacedPart) (first n : ℕ) → length (part_codes (take n (drop first ps))) ≤ length (literal_codes (part_items codes runs ps))
codes_part codes runs ps first n =
    let same = ap length (part_codes_are codes runs (take n (drop first ps)) ∙ ap literal_codes (part_items_take codes runs n (drop first ps) ∙ ap (take n) (part_items_drop codes runs first ps))) in
    let part = literals_part (part_items codes runs ps) first n in
    omega arith
