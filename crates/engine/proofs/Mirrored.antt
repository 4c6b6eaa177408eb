-- A stored pattern whose codes are reversed, and whose runs and parts follow, stands for the mirrored items.
use Rattle.std.proofs.Common.{◌≡◌, ℕ, ◌+◌, ◌-◌, ◌≤◌, true, leb, List, [], ◌∷◌, ◌++◌, map, reverse, length, take, drop, sym, refl, ap, ◌∙◌, append_assoc, arith, length-drop, take-append-drop}
use mathlib.Core.List.{map-append, reverse-append, reverse-cons}
use lib.ListN.{length-map, length-reverse}
use Rattle.std.proofs.lemmas.List.{take_at, drop_at, take-map, drop-map}
use Rattle.std.proofs.lemmas.Bool.{leb-true, le-leb, and_parts, and_from}
use Rattle.patterns.specs.Fragments.{mirrored_placed}
use Rattle.patterns.specs.Grammar.{Placed}
use Rattle.patterns.specs.Patterns.{Item, group, range, other, turned, reversed_runs, mirrored_item}
use Rattle.engine.specs.Stored.{run_codes, item_of, placed_of, items, run_within, all_runs_within, part_within, all_parts_within}
use Rattle.engine.specs.Turned.{turned_run, turned_part, turned_placed}
use Rattle.engine.specs.declared.pattern.Part.{Part}
use Rattle.engine.specs.declared.pattern.Part.TheVariants as part
use Rattle.engine.specs.declared.pattern.PlacedPart.{PlacedPart}
use Rattle.engine.specs.declared.pattern.Run.{Run}
use Rattle.engine.proofs.Growth.{runs_within_drop, runs_within_take, parts_within_push}
use Rattle.engine.proofs.Runs.{run_length}

-- a stretch of a list, in the reversed list
stretch_reversed : (front middle rest : List ℕ) → take (length middle) (drop (length rest) (reverse (front ++ (middle ++ rest)))) ≡ reverse middle
stretch_reversed front middle rest =
    let turned_over : reverse (front ++ (middle ++ rest)) ≡ reverse rest ++ (reverse middle ++ reverse front) =
    reverse-append front (middle ++ rest) ∙ ap (λ l. l ++ reverse front) (reverse-append middle rest) ∙ append_assoc (reverse rest) (reverse middle) (reverse front) in
    ap (λ l. take (length middle) (drop (length rest) l)) turned_over
    ∙ ap (take (length middle)) (drop_at (reverse rest) (reverse middle ++ reverse front) (length rest) (length-reverse rest))
    ∙ take_at (reverse middle) (reverse front) (length middle) (length-reverse middle)

-- a run of the reversed codes is the run reversed
pub run_turned : (codes : List ℕ) (r : Run) → run_within codes r ≡ true → run_codes (reverse codes) (turned_run (length codes) r) ≡ reverse (run_codes codes r)
run_turned codes r within =
    let front = take r.start codes in
    let middle = take r.len (drop r.start codes) in
    let rest = drop r.len (drop r.start codes) in
    let whole : front ++ (middle ++ rest) ≡ codes = ap (λ l. front ++ l) (take-append-drop r.len (drop r.start codes)) ∙ take-append-drop r.start codes in
    let long : length middle ≡ r.len = run_length codes r within in
    let left : length rest ≡ length codes - r.start - r.len = simp (length-drop, length-drop) refl in
    ap (λ n. take n (drop (length codes - r.start - r.len) (reverse codes))) (sym long)
    ∙ ap (λ n. take (length middle) (drop n (reverse codes))) (sym left)
    ∙ ap (λ l. take (length middle) (drop (length rest) (reverse l))) (sym whole)
    ∙ stretch_reversed front middle rest

-- runs of the reversed codes are the runs reversed
runs_turned : (codes : List ℕ) (rs : List Run) → all_runs_within codes rs ≡ true → map (run_codes (reverse codes)) (map (turned_run (length codes)) rs) ≡ reversed_runs (map (run_codes codes) rs)
runs_turned codes [] within = refl
runs_turned codes (r ∷ rs) within =
    let parts = and_parts (run_within codes r) (all_runs_within codes rs) within in
    λ i. run_turned codes r parts.0 i ∷ runs_turned codes rs parts.1 i

module _ (codes : List ℕ) (runs : List Run) (all : all_runs_within codes runs ≡ true) where
  -- a part stands for the mirrored item
  part_turned : (p : Part) → part_within codes runs p ≡ true → item_of (reverse codes) (map (turned_run (length codes)) runs) (turned_part (length codes) p) ≡ mirrored_item (item_of codes runs p)
  part_turned (part.Literal c) within = refl
  part_turned part.Any within = refl
  part_turned (part.Group first count) within =
      let some = take count (drop first runs) in
      let within_some = runs_within_take codes count (drop first runs) (runs_within_drop codes first runs all) in
      ap group (ap (map (run_codes (reverse codes))) (ap (take count) (drop-map (turned_run (length codes)) first runs) ∙ take-map (turned_run (length codes)) count (drop first runs)) ∙ runs_turned codes some within_some)
  part_turned (part.Range direction inside low high) within =
      let parts = and_parts (run_within codes low) (run_within codes high) within in
      λ i. range (turned direction) inside (run_turned codes low parts.0 i) (run_turned codes high parts.1 i)
  part_turned (part.Other run) within = ap other (run_turned codes run within)
  part_turned (part.Gap m n) within = refl

  -- the turned parts, in reverse order, stand for the mirrored items
  pub items_turned : (ps : List PlacedPart) → all_parts_within codes runs ps ≡ true → items (reverse codes) (map (turned_run (length codes)) runs) (map (turned_placed (length codes)) (reverse ps)) ≡ mirrored_placed (items codes runs ps)
  items_turned [] within = refl
  items_turned (p ∷ ps) within =
      let parts = and_parts (part_within codes runs p.part) (all_parts_within codes runs ps) within in
      let runs' = map (turned_run (length codes)) runs in
      let item : Placed = record { place = p.place; item = mirrored_item (item_of codes runs p.part) } in
      ap (λ l. items (reverse codes) runs' (map (turned_placed (length codes)) l)) (reverse-cons p ps)
      ∙ ap (map (placed_of (reverse codes) runs')) (map-append (turned_placed (length codes)) (reverse ps) (p ∷ []))
      ∙ map-append (placed_of (reverse codes) runs') (map (turned_placed (length codes)) (reverse ps)) (turned_placed (length codes) p ∷ [])
      ∙ ap (λ l. l ++ (placed_of (reverse codes) runs' (turned_placed (length codes) p) ∷ [])) (items_turned ps parts.1)
      ∙ ap (λ (i : Item). mirrored_placed (items codes runs ps) ++ (record { place = p.place; item = i } ∷ [])) (part_turned p.part parts.0)

-- a turned run lies within the reversed codes
turned_run_within : (codes : List ℕ) (r : Run) → run_within codes r ≡ true → run_within (reverse codes) (turned_run (length codes) r) ≡ true
turned_run_within codes r within =
    let fits : r.start + r.len ≤ length codes = leb-true (r.start + r.len) (length codes) within in
    let same : length (reverse codes) ≡ length codes = length-reverse codes in
    le-leb (length codes - r.start - r.len + r.len) (length (reverse codes)) (omega arith)

pub turned_runs_within : (codes : List ℕ) (rs : List Run) → all_runs_within codes rs ≡ true → all_runs_within (reverse codes) (map (turned_run (length codes)) rs) ≡ true
turned_runs_within codes [] within = refl
turned_runs_within codes (r ∷ rs) within =
    let parts = and_parts (run_within codes r) (all_runs_within codes rs) within in
    and_from (run_within (reverse codes) (turned_run (length codes) r)) (all_runs_within (reverse codes) (map (turned_run (length codes)) rs)) (turned_run_within codes r parts.0) (turned_runs_within codes rs parts.1)

module _ (codes : List ℕ) (runs : List Run) where
  turned_part_within : (p : Part) → part_within codes runs p ≡ true → part_within (reverse codes) (map (turned_run (length codes)) runs) (turned_part (length codes) p) ≡ true
  turned_part_within (part.Literal c) within = refl
  turned_part_within part.Any within = refl
  turned_part_within (part.Group first count) within = ap (leb (first + count)) (length-map runs (turned_run (length codes))) ∙ within
  turned_part_within (part.Range direction inside low high) within =
      let parts = and_parts (run_within codes low) (run_within codes high) within in
      and_from (run_within (reverse codes) (turned_run (length codes) low)) (run_within (reverse codes) (turned_run (length codes) high)) (turned_run_within codes low parts.0) (turned_run_within codes high parts.1)
  turned_part_within (part.Other run) within = turned_run_within codes run within
  turned_part_within (part.Gap m n) within = refl

  -- the turned parts lie within
  pub turned_parts_within : (ps : List PlacedPart) → all_parts_within codes runs ps ≡ true → all_parts_within (reverse codes) (map (turned_run (length codes)) runs) (map (turned_placed (length codes)) (reverse ps)) ≡ true
  turned_parts_within [] within = refl
  turned_parts_within (p ∷ ps) within =
      let parts = and_parts (part_within codes runs p.part) (all_parts_within codes runs ps) within in
      let runs' = map (turned_run (length codes)) runs in
      let last : map (turned_placed (length codes)) (reverse (p ∷ ps)) ≡ map (turned_placed (length codes)) (reverse ps) ++ turned_placed (length codes) p ∷ [] =
      ap (map (turned_placed (length codes))) (reverse-cons p ps) ∙ map-append (turned_placed (length codes)) (reverse ps) (p ∷ []) in
      ap (all_parts_within (reverse codes) runs') last
      ∙ parts_within_push (reverse codes) runs' (map (turned_placed (length codes)) (reverse ps)) (turned_placed (length codes) p) (turned_parts_within ps parts.1) (turned_part_within p.part parts.0)
