-- Signatures that stand: how many fragments they have, and what they hold once one is put among them.
use Rattle.std.proofs.Common.{◌≡◌, ℕ, T, List, [], ◌∷◌, ◌++◌, map, length, take, drop, Option, refl, sym, ap, ◌∙◌, subst, ⊎_elim, arith}
use Rattle.std.specs.FinMap as finmap
use Rattle.std.specs.FinMap.{is_sorted}
use Rattle.std.specs.List.{cons_option, filter_map, insert, sum_by, AllByRecursion}
use Rattle.std.specs.Ordering.{nat_cmp}
use Rattle.std.proofs.lemmas.List.{length-append, take-append-drop}
use Rattle.std.proofs.lemmas.List.Concat.{flat_map-append}
use Rattle.std.proofs.lemmas.List.Elements.{Contains-append_left, Contains-append_right, Contains-append_cases}
use Rattle.std.proofs.lemmas.List.Sums.{sum_by-cons}
use Rattle.kinds.specs.Alphabet.{Alphabet}
use Rattle.patterns.specs.Sequences.{Said}
use Rattle.engine.specs.Tables.{Slotted, IsFilled, Distinct, Apart, free_slots}
use Rattle.engine.specs.declared.fragment.Fragment.{Fragment}
use Rattle.engine.proofs.Tables.{free_distinct, front_distinct}
use Rattle.records.specs.Book as book
use Rattle.records.specs.Book.{fragments_of, fragments_standing}
use Rattle.catalogue.specs.Entering.{MovedAll, signatures_in}
use Rattle.catalogue.specs.Standing.{signature_pair, slots_of, said_in, used, Accounted, StandsInIf, SignatureHeld, SignaturesHold}
use Rattle.catalogue.specs.declared.signatures.StandingSignature.{StandingSignature}
use Rattle.catalogue.proofs.Moving.{all_free, kept_by_all}
use Rattle.catalogue.proofs.Slots.{all_append, all_front, all_back, all_filled, distinct_append, back_distinct, parts_apart, free_apart, fragments_said, slots_total}

-- sequences stand in another table too
stand_on : (before after : List (Option Fragment)) → ((v : Option Slotted) → StandsInIf before v → StandsInIf after v) → (vs : List (Option Slotted))
    → AllByRecursion (StandsInIf before) vs → AllByRecursion (StandsInIf after) vs
stand_on before after on [] h = tt
stand_on before after on (v ∷ vs) h = (on v h.0, stand_on before after on vs h.1)

-- the slots are accounted for once one more signature is put among them
accounted_more : (before after : List (Option Fragment)) (xs new ys : List ℕ) → Accounted before (xs ++ ys) → AllByRecursion (IsFilled before) (xs ++ ys)
    → new ++ free_slots after ≡ free_slots before → Accounted after (xs ++ (new ++ ys))
accounted_more before after xs new ys old filled taken = record {
  distinct =
      distinct_append xs (new ++ ys) (front_distinct xs ys old.distinct)
      (distinct_append new ys (front_distinct new (free_slots after) (subst Distinct (sym taken) (free_distinct 0 before))) (back_distinct xs ys old.distinct)
      (λ slot is_new is_old. beside slot (Contains-append_right xs ys slot is_old) is_new))
      (λ slot is_old h. ⊎_elim (beside slot (Contains-append_left xs ys slot is_old)) (parts_apart xs ys old.distinct slot is_old) (Contains-append_cases new ys slot h));
  counted =
      omega (arith, old.counted, ap length taken, length-append xs ys, length-append xs (new ++ ys), length-append new ys, length-append new (free_slots after));
}
  where
    beside : Apart (xs ++ ys) new
    beside = free_apart before (xs ++ ys) new (free_slots after) filled taken

module _ {E K : Type 0} (a : Alphabet E) where
  -- those that stand have as many fragments as slots
  fragments_held : (table : List (Option Fragment)) (es : List (StandingSignature K)) → AllByRecursion (SignatureHeld a table) es
      → sum_by (fragments_of a) (filter_map book.signature_in (map (λ p. p.1) (map signature_pair es))) ≡ length (used es)
  fragments_held table [] held = refl
  fragments_held table (e ∷ es) held =
      let h = held.0 in
      let rest = fragments_held table es held.1 in
      let others = filter_map book.signature_in (map (λ p. p.1) (map signature_pair es)) in
      let one = fragments_said a h.entry.sequences (map said_in e.sequences.items) h.said ∙ slots_total table e.sequences.items h.stands in
      let all : sum_by (fragments_of a) (h.entry ∷ others) ≡ length (slots_of e ++ used es) =
      omega (arith, sum_by-cons (fragments_of a) h.entry others, length-append (slots_of e) (used es)) in
      subst (λ o. sum_by (fragments_of a) (cons_option o others) ≡ length (slots_of e ++ used es)) (sym h.reads) all

  -- as many fragments stand as slots are in use
  pub fragments_counted : (es : List (StandingSignature K)) (table : List (Option Fragment)) → SignaturesHold a es table
      → fragments_standing a (signatures_in es) ≡ length (used es)
  fragments_counted es table holds =
      ap (λ l. sum_by (fragments_of a) (filter_map book.signature_in (map (λ p. p.1) l))) (finmap.entries-from_sorted nat_cmp (map signature_pair es) holds.rise)
      ∙ fragments_held table es holds.held

  -- a signature is held in another table where its sequences stand there
  pub held_in : (before after : List (Option Fragment)) (e : StandingSignature K) → SignatureHeld a before e
      → AllByRecursion (StandsInIf after) e.sequences.items → SignatureHeld a after e
  held_in before after e h stands = record {
    entry = h.entry;
    reads = h.reads;
    id = h.id;
    specific = h.specific;
    said = h.said;
    stands = stands;
  }

  -- signatures are held there then
  all_held_in : (before after : List (Option Fragment)) → ((v : Option Slotted) → StandsInIf before v → StandsInIf after v) → (es : List (StandingSignature K))
      → AllByRecursion (SignatureHeld a before) es → AllByRecursion (SignatureHeld a after) es
  all_held_in before after on [] h = tt
  all_held_in before after on (e ∷ es) h = (held_in before after e h.0 (stand_on before after on e.sequences.items h.0.stands), all_held_in before after on es h.1)

  -- the slots in use hold fragments
  pub used_filled : (table : List (Option Fragment)) (es : List (StandingSignature K)) → AllByRecursion (SignatureHeld a table) es
      → AllByRecursion (IsFilled table) (used es)
  used_filled table [] held = tt
  used_filled table (e ∷ es) held = all_append (IsFilled table) (slots_of e) (used es) (all_filled table e.sequences.items held.0.stands) (used_filled table es held.1)

  -- what they hold once one is put among them
  pub inserted_holds : (es : List (StandingSignature K)) (before after : List (Option Fragment)) (n : ℕ) (e : StandingSignature K) (ss : List (Option Said))
      → SignaturesHold a es before → MovedAll ss before after e.sequences.items → SignatureHeld a after e
      → T (is_sorted nat_cmp (map signature_pair (insert es n e))) → SignaturesHold a (insert es n e) after
  inserted_holds es before after n e ss old moved held rise =
      let front = take n es in
      let back = drop n es in
      let parts : front ++ back ≡ es = take-append-drop n es in
      let all = all_held_in before after (kept_by_all ss before after e.sequences.items moved) es old.held in
      let split = subst (AllByRecursion (SignatureHeld a after)) (sym parts) all in
      let slots : used es ≡ used front ++ used back = ap used (sym parts) ∙ flat_map-append slots_of front back in
      let filled = subst (AllByRecursion (IsFilled before)) slots (used_filled before es old.held) in
      let accounted = accounted_more before after (used front) (slots_of e) (used back) (subst (Accounted before) slots old.accounted) filled (all_free ss before after e.sequences.items moved) in
      record {
        rise = rise;
        held = all_append (SignatureHeld a after) front (e ∷ back) (all_front (SignatureHeld a after) front back split) (held, all_back (SignatureHeld a after) front back split);
        accounted = subst (Accounted after) (sym (flat_map-append slots_of front (e ∷ back))) accounted;
      }
