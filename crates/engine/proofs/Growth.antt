-- What stays as it was where codes and runs are appended to those that are stored.
use Rattle.std.proofs.Common.{◌≡◌, ℕ, zero, suc, ◌+◌, ◌≤◌, true, List, [], ◌∷◌, ◌++◌, map, length, take, drop, sym, refl, ap, ◌∙◌, append-nil, arith, length-append, length-drop}
use Rattle.std.proofs.lemmas.List.{take-append-le, drop-append-le}
use Rattle.std.proofs.lemmas.Bool.{leb-true, le-leb, and_parts, and_from}
use Rattle.patterns.specs.Patterns.{group, range, other}
use Rattle.engine.specs.Stored.{run_codes, item_of, items, run_within, all_runs_within, part_within, all_parts_within}
use Rattle.engine.specs.declared.pattern.Part.{Part}
use Rattle.engine.specs.declared.pattern.Part.TheVariants as part
use Rattle.engine.specs.declared.pattern.PlacedPart.{PlacedPart}
use Rattle.engine.specs.declared.pattern.Run.{Run}

module _ (codes more : List ℕ) where
  -- a run that lies within the codes lies within more codes
  pub run_within_more : (r : Run) → run_within codes r ≡ true → run_within (codes ++ more) r ≡ true
  run_within_more r h =
      le-leb (r.start + r.len) (length (codes ++ more)) (omega (arith, leb-true (r.start + r.len) (length codes) h, length-append codes more))

  -- and it has the same codes there
  pub run_codes_more : (r : Run) → run_within codes r ≡ true → run_codes (codes ++ more) r ≡ run_codes codes r
  run_codes_more r h =
      let fits : r.start + r.len ≤ length codes = leb-true (r.start + r.len) (length codes) h in
      ap (take r.len) (drop-append-le r.start codes more (omega arith))
      ∙ take-append-le r.len (drop r.start codes) more (omega (arith, length-drop r.start codes))

  -- the same of runs: they lie within more codes
  pub runs_within_more : (rs : List Run) → all_runs_within codes rs ≡ true → all_runs_within (codes ++ more) rs ≡ true
  runs_within_more [] h = refl
  runs_within_more (r ∷ rs) h =
      let parts = and_parts (run_within codes r) (all_runs_within codes rs) h in
      and_from _ _ (run_within_more r parts.0) (runs_within_more rs parts.1)

  -- and have the same codes there
  pub runs_codes_more : (rs : List Run) → all_runs_within codes rs ≡ true → map (run_codes (codes ++ more)) rs ≡ map (run_codes codes) rs
  runs_codes_more [] h = refl
  runs_codes_more (r ∷ rs) h =
      let parts = and_parts (run_within codes r) (all_runs_within codes rs) h in
      λ i. run_codes_more r parts.0 i ∷ runs_codes_more rs parts.1 i

module _ (codes : List ℕ) where
  -- the last runs lie within the codes where all do
  pub runs_within_drop : (n : ℕ) (rs : List Run) → all_runs_within codes rs ≡ true → all_runs_within codes (drop n rs) ≡ true
  runs_within_drop zero rs h = h
  runs_within_drop (suc n) [] h = refl
  runs_within_drop (suc n) (r ∷ rs) h = runs_within_drop n rs (and_parts (run_within codes r) (all_runs_within codes rs) h).1

  -- the same of the first runs
  pub runs_within_take : (n : ℕ) (rs : List Run) → all_runs_within codes rs ≡ true → all_runs_within codes (take n rs) ≡ true
  runs_within_take zero rs h = refl
  runs_within_take (suc n) [] h = refl
  runs_within_take (suc n) (r ∷ rs) h =
      let parts = and_parts (run_within codes r) (all_runs_within codes rs) h in
      and_from _ _ parts.0 (runs_within_take n rs parts.1)

  -- one run more
  pub runs_within_push : (rs : List Run) (r : Run) → all_runs_within codes rs ≡ true → run_within codes r ≡ true → all_runs_within codes (rs ++ r ∷ []) ≡ true
  runs_within_push [] r h e = and_from _ _ e refl
  runs_within_push (x ∷ rs) r h e =
      let parts = and_parts (run_within codes x) (all_runs_within codes rs) h in
      and_from _ _ parts.0 (runs_within_push rs r parts.1 e)

  -- one item more
  pub parts_within_push : (runs : List Run) (ps : List PlacedPart) (p : PlacedPart) → all_parts_within codes runs ps ≡ true → part_within codes runs p.part ≡ true → all_parts_within codes runs (ps ++ p ∷ []) ≡ true
  parts_within_push runs [] p h e = and_from _ _ e refl
  parts_within_push runs (x ∷ ps) p h e =
      let parts = and_parts (part_within codes runs x.part) (all_parts_within codes runs ps) h in
      and_from _ _ parts.0 (parts_within_push runs ps p parts.1 e)

-- items, where codes and runs are appended
module _ (codes more : List ℕ) (runs later : List Run) where
  -- an item lies within more codes and runs
  part_within_more : (p : Part) → part_within codes runs p ≡ true → part_within (codes ++ more) (runs ++ later) p ≡ true
  part_within_more (part.Literal c) h = refl
  part_within_more part.Any h = refl
  part_within_more (part.Group first count) h =
      le-leb (first + count) (length (runs ++ later)) (omega (arith, leb-true (first + count) (length runs) h, length-append runs later))
  part_within_more (part.Range direction inside low high) h =
      let parts = and_parts (run_within codes low) (run_within codes high) h in
      and_from _ _ (run_within_more codes more low parts.0) (run_within_more codes more high parts.1)
  part_within_more (part.Other run) h = run_within_more codes more run h
  part_within_more (part.Gap m n) h = refl

  -- so do all items
  pub parts_within_more : (ps : List PlacedPart) → all_parts_within codes runs ps ≡ true → all_parts_within (codes ++ more) (runs ++ later) ps ≡ true
  parts_within_more [] h = refl
  parts_within_more (p ∷ ps) h =
      let parts = and_parts (part_within codes runs p.part) (all_parts_within codes runs ps) h in
      and_from _ _ (part_within_more p.part parts.0) (parts_within_more ps parts.1)

  module _ (within : all_runs_within codes runs ≡ true) where
    -- an item that lies within is the same among more
    item_more : (p : Part) → part_within codes runs p ≡ true → item_of (codes ++ more) (runs ++ later) p ≡ item_of codes runs p
    item_more (part.Literal c) h = refl
    item_more part.Any h = refl
    item_more (part.Group first count) h =
        let fits : first + count ≤ length runs = leb-true (first + count) (length runs) h in
        let same : take count (drop first (runs ++ later)) ≡ take count (drop first runs) =
        ap (take count) (drop-append-le first runs later (omega arith)) ∙ take-append-le count (drop first runs) later (omega (arith, length-drop first runs)) in
        ap group
        (ap (map (run_codes (codes ++ more))) same
        ∙ runs_codes_more codes more (take count (drop first runs)) (runs_within_take codes count (drop first runs) (runs_within_drop codes first runs within)))
    item_more (part.Range direction inside low high) h =
        let parts = and_parts (run_within codes low) (run_within codes high) h in
        λ i. range direction inside (run_codes_more codes more low parts.0 i) (run_codes_more codes more high parts.1 i)
    item_more (part.Other run) h = ap other (run_codes_more codes more run h)
    item_more (part.Gap m n) h = refl

    -- so are all items
    pub items_more : (ps : List PlacedPart) → all_parts_within codes runs ps ≡ true → items (codes ++ more) (runs ++ later) ps ≡ items codes runs ps
    items_more [] h = refl
    items_more (p ∷ ps) h =
        let parts = and_parts (part_within codes runs p.part) (all_parts_within codes runs ps) h in
        λ i. record { place = p.place; item = item_more p.part parts.0 i } ∷ items_more ps parts.1 i

-- the same where only codes are appended, and where only runs are
module _ (codes more : List ℕ) (runs : List Run) (ps : List PlacedPart) where
  -- items lie within more codes
  pub parts_within_more_codes : all_parts_within codes runs ps ≡ true → all_parts_within (codes ++ more) runs ps ≡ true
  parts_within_more_codes h = ap (λ rs. all_parts_within (codes ++ more) rs ps) (sym (append-nil runs)) ∙ parts_within_more codes more runs [] ps h

  -- and are the same there
  pub items_more_codes : all_runs_within codes runs ≡ true → all_parts_within codes runs ps ≡ true → items (codes ++ more) runs ps ≡ items codes runs ps
  items_more_codes within h = ap (λ rs. items (codes ++ more) rs ps) (sym (append-nil runs)) ∙ items_more codes more runs [] within ps h

module _ (codes : List ℕ) (runs later : List Run) (ps : List PlacedPart) where
  -- items lie within more runs
  pub parts_within_more_runs : all_parts_within codes runs ps ≡ true → all_parts_within codes (runs ++ later) ps ≡ true
  parts_within_more_runs h = ap (λ cs. all_parts_within cs (runs ++ later) ps) (sym (append-nil codes)) ∙ parts_within_more codes [] runs later ps h

  -- and are the same there
  pub items_more_runs : all_runs_within codes runs ≡ true → all_parts_within codes runs ps ≡ true → items codes (runs ++ later) ps ≡ items codes runs ps
  items_more_runs within h = ap (λ cs. items cs (runs ++ later) ps) (sym (append-nil codes)) ∙ items_more codes [] runs later within ps h
