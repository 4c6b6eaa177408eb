-- What stands at a place of a list that is reversed, mapped or cut.
use Rattle.std.proofs.Common.{◌≡◌, ℕ, zero, suc, ◌+◌, ◌≤◌, List, [], ◌∷◌, ◌++◌, append_assoc, take, length, Some, None, Option, sym, ap, ◌∙◌, arith, Bor}
use Rattle.std.specs.List.{slice_get}
use Rattle.std.specs.Option.{option_map}
use Rattle.std.specs.Slice.{IsGetResult}
use Rattle.std.proofs.lemmas.List.{take_more}
use Rattle.std.proofs.lemmas.Option.{slice_get-get_or, slice_get_past, slice_get_within, get_or_from_slice_get}

-- what a slice lends at an index, as the element or none
pub nth_item : {X : Type 0} (xs : List X) (i : ℕ) (r : Option (Bor X)) → IsGetResult xs i i r → option_map (λ x. x.now) r ≡ slice_get xs i
nth_item xs i None h = sym (slice_get_past xs i h.3)
nth_item xs i (Some x) h = ap Some h.1 ∙ sym (slice_get-get_or xs i x.now h.3.0)

-- one element more of a list that is copied behind another
pub copied_more : {X : Type 0} (old ys xs : List X) (i : ℕ) (x : X) → ys ≡ old ++ take i xs → slice_get xs i ≡ Some x
    → ys ++ x ∷ [] ≡ old ++ take (i + 1) xs
copied_more old ys xs i x so_far e =
    let next : take (i + 1) xs ≡ take i xs ++ x ∷ [] =
    take_more xs i x (slice_get_within xs i x e) ∙ ap (λ y. take i xs ++ y ∷ []) (get_or_from_slice_get xs i x x e) in
    ap (λ l. l ++ x ∷ []) so_far ∙ append_assoc old (take i xs) (x ∷ []) ∙ ap (λ l. old ++ l) (sym next)

-- there is an element at each place of a list
pub nth_none : {X : Type 0} (xs : List X) (i : ℕ) → slice_get xs i ≡ None → length xs ≤ i
nth_none [] i e = omega arith
nth_none (y ∷ ys) zero e = grind arith
nth_none (y ∷ ys) (suc i) e = omega (arith, nth_none ys i e)
