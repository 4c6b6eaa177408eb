-- The cut of items into fragments, one item at a time.
use Rattle.std.proofs.Common.{◌≡◌, ℕ, ◌+◌, ◌-◌, ◌<◌, ◌≤◌, Bool, true, false, not, ◌||◌, List, [], ◌∷◌, ◌++◌, length, get_or, take, drop, is_some, Some, None, Option, sym, refl, ap, ◌∙◌, arith, take-add}
use Rattle.std.proofs.lemmas.List.{drop_more}
use Rattle.std.proofs.lemmas.Bool.{both_ways}
use Rattle.patterns.specs.Fragments.{Fragment, is_gap, endless, some, sum, least, cut_from}
use Rattle.patterns.specs.Grammar.{Placed}
use Rattle.patterns.specs.Patterns.{Item}
use Rattle.patterns.specs.Patterns as pattern
use Rattle.patterns.proofs.Backs.{sum_push}
use Rattle.engine.specs.Compiling.{Cuts}
use Rattle.engine.specs.Stored.{item_of}
use Rattle.engine.specs.declared.pattern.Part.{Part}
use Rattle.engine.specs.declared.pattern.Part.TheVariants as part
use Rattle.engine.specs.declared.pattern.Run.{Run}
use Rattle.engine.proofs.Bodies.{stretch_more}

-- tests joined in another order
or_assoc : (x y z : Bool) → ((x || y) || z) ≡ (x || (y || z))
or_assoc true y z = refl
or_assoc false y z = refl

-- a test joined with one that fails
or_false : (x : Bool) → (x || false) ≡ x
or_false true = refl
or_false false = refl

-- a test of some items, with one item more
some_more : (p : Item → Bool) (qs : List Placed) (q : Placed) → some p (qs ++ q ∷ []) ≡ (some p qs || p q.item)
some_more p [] q = or_false (p q.item)
some_more p (x ∷ qs) q = ap (λ b. p x.item || b) (some_more p qs q) ∙ sym (or_assoc (p x.item) (some p qs) (p q.item))

module _ (qs : List Placed) where
  -- the spacing from the end of a body to here
  abbrev pub spacing : ℕ → ℕ → List Placed
  spacing end i = take (i - end) (drop end qs)

  -- What was read: a body up to its end, and the spacing behind it, whether one of its gaps is endless and their least sum.
  pub record Cutting (end i : ℕ) (open_ended : Bool) (between : ℕ) : Type 0 where
    pub ordered : end ≤ i
    pub tested : open_ended ≡ some endless (spacing end i)
    pub summed : between ≡ sum least (spacing end i)
    pub cuts : (break : ℕ) → cut_from break [] [] qs ≡ cut_from break (take end qs) (spacing end i) (drop i qs)

  module _ (end i : ℕ) (open_ended : Bool) (between : ℕ) (so_far : Cutting end i open_ended between) where
    module _ (q : Placed) (inside : i < length qs) (here : get_or qs i q ≡ q) where
      -- the items from here on begin with this one
      next : drop i qs ≡ q ∷ drop (i + 1) qs
      next = drop_more qs i q inside ∙ ap (λ x. x ∷ drop (i + 1) qs) here

      -- the spacing with this item
      more : spacing end (i + 1) ≡ spacing end i ++ q ∷ []
      more = stretch_more qs end i q so_far.ordered inside ∙ ap (λ x. spacing end i ++ x ∷ []) here

      -- one step, by whether the item is a gap and the spacing has an endless one
      abbrev step : ℕ → Bool → Bool → List Fragment
      step break gap ended =
          elim gap [
            | true ↦ cut_from break (take end qs) (spacing end i ++ q ∷ []) (drop (i + 1) qs)
            | false ↦
                elim ended [
                  | true ↦ record { break = break; body = take end qs } ∷ cut_from (sum least (spacing end i)) (q ∷ []) [] (drop (i + 1) qs)
                  | false ↦ cut_from break (take end qs ++ (spacing end i ++ q ∷ [])) [] (drop (i + 1) qs)
                ]
          ]

      -- the cut of the items goes on with that step
      stepped : (break : ℕ) → cut_from break [] [] qs ≡ step break (is_gap q.item) (some endless (spacing end i))
      stepped break = so_far.cuts break ∙ ap (cut_from break (take end qs) (spacing end i)) next

      -- a gap goes on with the spacing
      pub cutting_gap : is_gap q.item ≡ true → (e : Bool) → e ≡ (open_ended || endless q.item) → (n : ℕ) → n ≡ between + least q.item → Cutting end (i + 1) e n
      cutting_gap gap e e_is n n_is =
          let before = so_far.ordered in
          record {
            ordered = omega arith;
            tested = e_is ∙ ap (λ b. b || endless q.item) so_far.tested ∙ sym (some_more endless (spacing end i) q) ∙ ap (some endless) (sym more);
            summed = n_is ∙ ap (λ k. k + least q.item) so_far.summed ∙ sym (sum_push least (spacing end i) q) ∙ ap (sum least) (sym more);
            cuts = λ break. stepped break ∙ ap (λ b. step break b (some endless (spacing end i))) gap ∙ ap (λ xs. cut_from break (take end qs) xs (drop (i + 1) qs)) (sym more);
          }

      -- a thing behind a spacing without an endless gap takes the spacing into the body
      pub cutting_thing : is_gap q.item ≡ false → open_ended ≡ false → Cutting (i + 1) (i + 1) false 0
      cutting_thing thing shut =
          let before = so_far.ordered in
          let none : i + 1 - (i + 1) ≡ 0 = omega arith in
          let empty : spacing (i + 1) (i + 1) ≡ [] = ap (λ n. take n (drop (i + 1) qs)) none in
          let on : end + (i + 1 - end) ≡ i + 1 = omega arith in
          let body : take end qs ++ (spacing end i ++ q ∷ []) ≡ take (i + 1) qs = ap (λ xs. take end qs ++ xs) (sym more) ∙ sym (take-add end (i + 1 - end) qs) ∙ ap (λ n. take n qs) on in
          record {
            ordered = omega arith;
            tested = sym (ap (some endless) empty);
            summed = sym (ap (sum least) empty);
            cuts = λ break. stepped break
                ∙ ap (λ b. step break b (some endless (spacing end i))) thing
                ∙ ap (step break false) (sym so_far.tested ∙ shut)
                ∙ ap (λ xs. cut_from break xs [] (drop (i + 1) qs)) body
                ∙ ap (λ xs. cut_from break (take (i + 1) qs) xs (drop (i + 1) qs)) (sym empty);
          }

      -- a thing behind a spacing with an endless gap begins the next fragment
      pub cutting_cuts : is_gap q.item ≡ false → open_ended ≡ true → Cuts qs end (Some (i, between))
      cutting_cuts thing opened =
          let before = so_far.ordered in
          let some_row : end ≡ i → ⊥ = λ e.
          let none : i - end ≡ 0 = omega arith in
          both_ways open_ended (so_far.tested ∙ ap (λ n. some endless (take n (drop end qs))) none) opened in
          let first : (break : ℕ) → cut_from break [] [] (drop i qs) ≡ cut_from break (q ∷ []) [] (drop (i + 1) qs) =
          λ break. ap (cut_from break [] []) next
          ∙ ap (λ b. elim b [ true ↦ cut_from break [] (q ∷ []) (drop (i + 1) qs) | false ↦ cut_from break (q ∷ []) [] (drop (i + 1) qs) ]) thing in (
            omega (arith, some_row),
            inside,
            λ break. stepped break
                ∙ ap (λ b. step break b (some endless (spacing end i))) thing
                ∙ ap (step break false) (sym so_far.tested ∙ opened)
                ∙ ap (λ n. record { break = break; body = take end qs } ∷ cut_from n (q ∷ []) [] (drop (i + 1) qs)) (sym so_far.summed)
                ∙ ap (λ fs. record { break = break; body = take end qs } ∷ fs) (sym (first between)),
          )

-- the item of a part that is no gap
pub no_gap : (codes : List ℕ) (runs : List Run) (p : Part) → ((m : ℕ) (n : Option ℕ) → p ≡ part.Gap m n → ⊥) → is_gap (item_of codes runs p) ≡ false
no_gap codes runs (part.Literal c) h = refl
no_gap codes runs part.Any h = refl
no_gap codes runs (part.Group first count) h = refl
no_gap codes runs (part.Range d inside low high) h = refl
no_gap codes runs (part.Other run) h = refl
no_gap codes runs (part.Gap m n) h = absurd (h m n refl)

-- a gap is endless where it has no upper end
pub endless_gap : (m : ℕ) (n : Option ℕ) → endless (pattern.gap m n) ≡ not (is_some n)
endless_gap m None = refl
endless_gap m (Some n) = refl
