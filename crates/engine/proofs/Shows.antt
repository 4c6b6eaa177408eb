-- What compiled fragments hold, by their numbers and as a list.
use Rattle.std.proofs.Common.{◌≡◌, ℕ, zero, suc, List, [], ◌∷◌, length, Option, sym, refl, ap, ◌∙◌, subst}
use Rattle.std.specs.List.{slice_get}
use Rattle.patterns.specs.Fragments as spec
use Rattle.patterns.specs.Fragments.{fragments}
use Rattle.patterns.specs.Patterns.{least_offset}
use Rattle.patterns.specs.Grammar.{Placed}
use Rattle.patterns.specs.declared.reference.Reference.{Reference}
use Rattle.engine.specs.Compiled.{Hold}
use Rattle.engine.specs.Reading.{held}
use Rattle.engine.specs.Said.{said, parts, HoldsOwn, HoldsAt}
use Rattle.engine.specs.Searched.{HoldsEach}
use Rattle.patterns.specs.Sequences.{parts_said}
use Rattle.engine.specs.Sequences.{HoldsSaid}
use Rattle.engine.specs.declared.fragment.Fragment.{Fragment}
use Rattle.engine.specs.declared.oriented.Oriented.{Oriented}
use Rattle.engine.proofs.Sounds.{oriented_twice}

-- the fragments that a pattern in the order of its search says are its fragments
pub parts_same : (o : Oriented) → parts_said (said o) ≡ parts o
parts_same o = ap (fragments (least_offset o.reference)) (oriented_twice o.reference (held o.pattern))

-- compiled fragments that hold those of a pattern in the order of its search hold those of what it says
pub holds_said : (o : Oriented) (at : ℕ → Option Fragment) → HoldsAt o at → HoldsSaid (said o) at
holds_said o at = subst (λ items. HoldsEach o.reference items at (fragments (least_offset o.reference) items)) (sym (oriented_twice o.reference (held o.pattern)))

-- and the other way round
pub holds_oriented : (o : Oriented) (at : ℕ → Option Fragment) → HoldsSaid (said o) at → HoldsAt o at
holds_oriented o at = subst (λ items. HoldsEach o.reference items at (fragments (least_offset o.reference) items)) (oriented_twice o.reference (held o.pattern))

-- there are as many compiled ones
hold_length : (r : Reference) (items : List Placed) (fs : List Fragment) (gs : List spec.Fragment) → Hold r items fs gs → length fs ≡ length gs
hold_length r items [] [] h = refl
hold_length r items [] (g ∷ gs) h = absurd h
hold_length r items (f ∷ fs) [] h = absurd h
hold_length r items (f ∷ fs) (g ∷ gs) h = ap suc (hold_length r items fs gs h.1)

module _ (o : Oriented) (fs : List Fragment) (own : HoldsOwn o fs) where
  -- as many as it says
  pub counted : length fs ≡ length (parts_said (said o))
  counted = hold_length o.reference (held o.pattern) fs (parts o) own ∙ ap length (sym (parts_same o))

  -- by number too they hold the fragments
  pub held_each : HoldsAt o (slice_get fs)
  held_each = each fs (parts o) own
    where
      each : (fs : List Fragment) (gs : List spec.Fragment) → Hold o.reference (held o.pattern) fs gs → HoldsEach o.reference (held o.pattern) (slice_get fs) gs
      each [] [] h k = tt
      each [] (g ∷ gs) h k = absurd h
      each (f ∷ fs) [] h k = absurd h
      each (f ∷ fs) (g ∷ gs) h zero = h.0
      each (f ∷ fs) (g ∷ gs) h (suc k) = each fs gs h.1 k
