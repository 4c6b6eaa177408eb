-- Signatures that stand, and what they hold once one is taken out and its slots are freed.
use Rattle.std.proofs.Common.{◌≡◌, ℕ, suc, ◌<◌, List, [], ◌∷◌, ◌++◌, length, get_or, set, take, drop, Some, None, Option, refl, sym, ap, ◌∙◌, subst, arith}
use Rattle.std.specs.List.{flat_map, remove, AllByRecursion}
use Rattle.std.proofs.Math.Seq.{drop-cons}
use Rattle.std.proofs.lemmas.List.{length-append, take-append-drop}
use Rattle.std.proofs.lemmas.List.Concat.{flat_map-append}
use Rattle.std.proofs.lemmas.List.Elements.{Contains-append_left, Contains-append_right}
use Rattle.kinds.specs.Alphabet.{Alphabet}
use Rattle.engine.specs.Tables.{Slotted, IsFilled, Apart, cleared}
use Rattle.engine.specs.declared.fragment.Fragment.{Fragment}
use Rattle.engine.proofs.Tables.{stands_on, front_distinct}
use Rattle.catalogue.specs.Standing.{signature_pair, slots_in, slots_of, used, Accounted, StandsInIf, SignatureHeld, SignaturesHold}
use Rattle.catalogue.specs.declared.signatures.StandingSignature.{StandingSignature}
use Rattle.catalogue.proofs.Changes.{rise_removed}
use Rattle.catalogue.proofs.HeldSignatures.{held_in, used_filled}
use Rattle.catalogue.proofs.Slots.{all_append, all_front, all_back, distinct_append, back_distinct, parts_apart}

-- slots are freed in two steps
pub cleared_append : {X : Type 0} (t : List (Option X)) (some others : List ℕ) → cleared t (some ++ others) ≡ cleared (cleared t some) others
cleared_append t [] others = refl
cleared_append t (s ∷ ss) others = cleared_append (set t s None) ss others

-- a sequence goes on to stand where other slots are freed
one_beside : (t : List (Option Fragment)) (v : Option Slotted) (slots : List ℕ) → StandsInIf t v → Apart (slots_in v) slots → StandsInIf (cleared t slots) v
one_beside t None slots h apart = tt
one_beside t (Some v) slots h apart = stands_on.freed_beside t v slots h apart

-- all do
all_beside : (t : List (Option Fragment)) (vs : List (Option Slotted)) (slots : List ℕ) → AllByRecursion (StandsInIf t) vs → Apart (flat_map slots_in vs) slots
    → AllByRecursion (StandsInIf (cleared t slots)) vs
all_beside t [] slots h apart = tt
all_beside t (v ∷ vs) slots h apart = (
  one_beside t v slots h.0 (λ slot is there. apart slot (Contains-append_left (slots_in v) (flat_map slots_in vs) slot is) there),
  all_beside t vs slots h.1 (λ slot is there. apart slot (Contains-append_right (slots_in v) (flat_map slots_in vs) slot is) there),
)

-- the slots are accounted for once those of one signature are freed
accounted_less : (t : List (Option Fragment)) (xs slots ys : List ℕ) → Accounted t (xs ++ (slots ++ ys)) → AllByRecursion (IsFilled t) (xs ++ (slots ++ ys))
    → Accounted (cleared t slots) (xs ++ ys)
accounted_less t xs slots ys old filled =
    let behind = back_distinct xs (slots ++ ys) old.distinct in
    let freed = stands_on.freed t slots (front_distinct slots ys behind) (all_front (IsFilled t) slots ys (all_back (IsFilled t) xs (slots ++ ys) filled)) in
    record {
      distinct =
          distinct_append xs ys (front_distinct xs (slots ++ ys) old.distinct) (back_distinct slots ys behind)
          (λ slot is there. parts_apart xs (slots ++ ys) old.distinct slot is (Contains-append_right slots ys slot there));
      counted = omega (arith, old.counted, freed, length-append xs (slots ++ ys), length-append slots ys, length-append xs ys);
    }

module _ {E K : Type 0} (a : Alphabet E) where
  -- signatures go on to be held where other slots are freed
  held_beside : (t : List (Option Fragment)) (es : List (StandingSignature K)) (slots : List ℕ) → AllByRecursion (SignatureHeld a t) es → Apart (used es) slots
      → AllByRecursion (SignatureHeld a (cleared t slots)) es
  held_beside t [] slots h apart = tt
  held_beside t (e ∷ es) slots h apart = (
    held_in a t (cleared t slots) e h.0
        (all_beside t e.sequences.items slots h.0.stands (λ slot is there. apart slot (Contains-append_left (slots_of e) (used es) slot is) there)),
    held_beside t es slots h.1 (λ slot is there. apart slot (Contains-append_right (slots_of e) (used es) slot is) there),
  )

  -- the signatures before one and those behind it
  split_holds : (front back : List (StandingSignature K)) (e : StandingSignature K) (t : List (Option Fragment)) → SignaturesHold a (front ++ (e ∷ back)) t
      → AllByRecursion (SignatureHeld a (cleared t (slots_of e))) (front ++ back) × Accounted (cleared t (slots_of e)) (used (front ++ back))
  split_holds front back e t old =
      let all = e ∷ back in
      let slots = flat_map-append slots_of front all in
      let accounted = subst (Accounted t) slots old.accounted in
      let filled = subst (AllByRecursion (IsFilled t)) slots (used_filled a t (front ++ all) old.held) in
      let apart = parts_apart (used front) (used all) accounted.distinct in
      let behind = parts_apart (slots_of e) (used back) (back_distinct (used front) (used all) accounted.distinct) in (
        all_append (SignatureHeld a (cleared t (slots_of e))) front back
            (held_beside t front (slots_of e) (all_front (SignatureHeld a t) front all old.held)
            (λ slot is there. apart slot is (Contains-append_left (slots_of e) (used back) slot there)))
            (held_beside t back (slots_of e) (all_back (SignatureHeld a t) front all old.held).1 (λ slot is there. behind slot there is)),
        subst (Accounted (cleared t (slots_of e))) (sym (flat_map-append slots_of front back)) (accounted_less t (used front) (slots_of e) (used back) accounted filled),
      )

  -- what they hold once one is taken out
  pub removed_holds : (es : List (StandingSignature K)) (n : ℕ) (e : StandingSignature K) (t : List (Option Fragment)) → n < length es → e ≡ get_or es n e
      → SignaturesHold a es t → SignaturesHold a (remove es n) (cleared t (slots_of e))
  removed_holds es n e t inside is old =
      let front = take n es in
      let back = drop (suc n) es in
      let parts : es ≡ front ++ (e ∷ back) = sym (take-append-drop n es) ∙ ap (λ l. front ++ l) (drop-cons es n e inside ∙ ap (λ x. x ∷ back) (sym is)) in
      let (held, accounted) = split_holds front back e t (subst (λ l. SignaturesHold a l t) parts old) in
      record {
        rise = rise_removed signature_pair es n e inside old.rise;
        held = held;
        accounted = accounted;
      }
