-- Parts of lists, the items of stored parts, and those of some of them.
use Rattle.std.proofs.Common.{◌≡◌, ℕ, zero, suc, ◌+◌, ◌-◌, ◌<◌, ◌≤◌, List, [], ◌∷◌, ◌++◌, length, get_or, take, drop, Some, None, Option, refl, ap, ◌∙◌, suc-le-suc, arith, length-drop}
use Rattle.std.proofs.lemmas.List.{take_more, drop_more, get_or-drop}
use Rattle.std.specs.List.{cons_option}
use Rattle.patterns.specs.Fragments.{literal_code}
use Rattle.patterns.specs.Patterns.{any}
use Rattle.engine.specs.Compiled.{literal_codes}
use Rattle.engine.specs.Compiling.{part_code, part_codes, part_items}
use Rattle.engine.specs.Stored.{item_of}
use Rattle.engine.specs.declared.pattern.Part.{Part}
use Rattle.engine.specs.declared.pattern.Part.TheVariants as part
use Rattle.engine.specs.declared.pattern.PlacedPart.{PlacedPart}
use Rattle.engine.specs.declared.pattern.Run.{Run}

-- the elements from one place to another, and one more
pub stretch_more : {X : Type 0} (xs : List X) (start i : ℕ) (d : X) → start ≤ i → i < length xs → take (i + 1 - start) (drop start xs) ≡ take (i - start) (drop start xs) ++ get_or xs i d ∷ []
stretch_more xs start i d h l =
    let on : i + 1 - start ≡ i - start + 1 = omega arith in
    let at : start + (i - start) ≡ i = omega arith in
    let left = length-drop start xs in
    ap (λ n. take n (drop start xs)) on
    ∙ take_more (drop start xs) (i - start) d (omega arith)
    ∙ ap (λ x. take (i - start) (drop start xs) ++ x ∷ []) (get_or-drop start xs (i - start) d ∙ ap (λ k. get_or xs k d) at)

-- parts have as many items
pub part_items_length : (codes : List ℕ) (runs : List Run) (ps : List PlacedPart) → length (part_items codes runs ps) ≡ length ps
part_items_length codes runs [] = refl
part_items_length codes runs (p ∷ ps) = ap suc (part_items_length codes runs ps)

-- the item at a place is that of the part there
pub part_items_at : (codes : List ℕ) (runs : List Run) (ps : List PlacedPart) (i : ℕ) (d : PlacedPart) → i < length ps → get_or (part_items codes runs ps) i any ≡ item_of codes runs (get_or ps i d).part
part_items_at codes runs [] i d l = absurd (omega arith)
part_items_at codes runs (p ∷ ps) zero d l = refl
part_items_at codes runs (p ∷ ps) (suc i) d (suc-le-suc l) = part_items_at codes runs ps i d l

-- the items of the first parts
pub part_items_take : (codes : List ℕ) (runs : List Run) (n : ℕ) (ps : List PlacedPart) → part_items codes runs (take n ps) ≡ take n (part_items codes runs ps)
part_items_take codes runs zero ps = refl
part_items_take codes runs (suc n) [] = refl
part_items_take codes runs (suc n) (p ∷ ps) = ap (λ is. item_of codes runs p.part ∷ is) (part_items_take codes runs n ps)

-- the items of the parts from a place on
pub part_items_drop : (codes : List ℕ) (runs : List Run) (n : ℕ) (ps : List PlacedPart) → part_items codes runs (drop n ps) ≡ drop n (part_items codes runs ps)
part_items_drop codes runs zero ps = refl
part_items_drop codes runs (suc n) [] = refl
part_items_drop codes runs (suc n) (p ∷ ps) = part_items_drop codes runs n ps

-- the code of a literal is that of the part's item
part_code_is : (codes : List ℕ) (runs : List Run) (p : Part) → part_code p ≡ literal_code (item_of codes runs p)
part_code_is codes runs (part.Literal c) = refl
part_code_is codes runs part.Any = refl
part_code_is codes runs (part.Group first count) = refl
part_code_is codes runs (part.Range d inside low high) = refl
part_code_is codes runs (part.Other run) = refl
part_code_is codes runs (part.Gap m n) = refl

-- so the codes of the literals among parts are those of their items
pub part_codes_are : (codes : List ℕ) (runs : List Run) (ps : List PlacedPart) → part_codes ps ≡ literal_codes (part_items codes runs ps)
part_codes_are codes runs [] = refl
part_codes_are codes runs (p ∷ ps) = (λ k. cons_option (part_code_is codes runs p.part k) (part_codes_are codes runs ps k)) ∙ joined (literal_code (item_of codes runs p.part)) (literal_codes (part_items codes runs ps))
  where
    joined : (o : Option ℕ) (cs : List ℕ) → cons_option o cs ≡ elim o [ Some c ↦ c ∷ cs | None ↦ cs ]
    joined (Some c) cs = refl
    joined None cs = refl

-- a part that is no literal
pub no_code : (codes : List ℕ) (runs : List Run) (p : Part) → ((c : ℕ) → p ≡ part.Literal c → ⊥) → literal_code (item_of codes runs p) ≡ None
no_code codes runs (part.Literal c) h = absurd (h c refl)
no_code codes runs part.Any h = refl
no_code codes runs (part.Group first count) h = refl
no_code codes runs (part.Range d inside low high) h = refl
no_code codes runs (part.Other run) h = refl
no_code codes runs (part.Gap m n) h = refl

-- the codes from a literal on, which begin with its own
pub codes_on : (ps : List PlacedPart) (i c : ℕ) (d : PlacedPart) → i < length ps → (get_or ps i d).part ≡ part.Literal c → part_codes (drop i ps) ≡ c ∷ part_codes (drop (i + 1) ps)
codes_on ps i c d l at = ap part_codes (drop_more ps i d l) ∙ ap (λ p. cons_option (part_code p) (part_codes (drop (i + 1) ps))) at

-- the codes from a part on that is no literal, which are those behind it
pub codes_past : (ps : List PlacedPart) (i : ℕ) (d : PlacedPart) → i < length ps → ((c : ℕ) → (get_or ps i d).part ≡ part.Literal c → ⊥) → part_codes (drop i ps) ≡ part_codes (drop (i + 1) ps)
codes_past ps i d l other = ap part_codes (drop_more ps i d l) ∙ past (get_or ps i d).part other
  where
    past : (p : Part) → ((c : ℕ) → p ≡ part.Literal c → ⊥) → cons_option (part_code p) (part_codes (drop (i + 1) ps)) ≡ part_codes (drop (i + 1) ps)
    past (part.Literal c) h = absurd (h c refl)
    past part.Any h = refl
    past (part.Group first count) h = refl
    past (part.Range d inside low high) h = refl
    past (part.Other run) h = refl
    past (part.Gap m n) h = refl
