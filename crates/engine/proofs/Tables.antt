-- Slots of a table: which are free, what stands in one, and what setting and freeing them changes.
use Rattle.std.proofs.Common.{◌≡◌, ℕ, zero, suc, ◌+◌, ◌<◌, ◌≤◌, cond, ltb, List, [], ◌∷◌, ◌++◌, map, length, set, get_or, take, replicate, Some, None, Option, zero-add, add-zero, sym, refl, ap, ◌∙◌, subst, ⊎_elim, arith}
use Rattle.std.specs.List.{slice_get, filter, position, position_or_len, AllByRecursion, Contains}
use Rattle.std.specs.Option.{is_none, is_some, option_map, option_and_then, IsSome}
use Rattle.std.proofs.lemmas.List.{set-set, length_push, length-take, length-map, replicate_more, append-nil, append_assoc, map-append, get_or-take, take_at}
use Rattle.std.proofs.lemmas.List.Elements.{Contains-append_left}
use Rattle.std.proofs.lemmas.Bool.{cases_lt, lt-ltb, le-ltb}
use Rattle.std.proofs.lemmas.Option.{none-some, slice_get-get_or, slice_get_within, get_or_from_slice_get}
use Rattle.kinds.proofs.Places.{nth_none}
use Rattle.patterns.specs.Fragments as spec
use Rattle.patterns.specs.Fragments.{fragments, oriented}
use Rattle.engine.specs.Reading.{held}
use Rattle.patterns.specs.Sequences.{Said, parts_said}
use Rattle.engine.specs.Said.{said, parts, HoldsOwn, HoldsAt}
use Rattle.engine.specs.Searched.{HoldsIf}
use Rattle.engine.specs.Tables.{free_from, free_slots, at_slot, at_slots, cleared, Slotted, StandsIn, Moved, IsFilled, Distinct, Apart, StandsOn}
use Rattle.engine.specs.declared.fragment.Fragment.{Fragment}
use Rattle.engine.specs.declared.oriented.Oriented.{Oriented}
use Rattle.engine.proofs.Shows.{counted, held_each, holds_said}

-- the first of a list
head_is : (l : List ℕ) (s : ℕ) → slice_get l 0 ≡ Some s → (rest : List ℕ) × (l ≡ s ∷ rest)
head_is [] s e = absurd (cc)
head_is (r ∷ rest) s e =
    let same : r ≡ s = cc in
    (rest, ap (λ x. x ∷ rest) same)

-- a position one slot further on
position_more : (n p l : ℕ) → option_map (λ k. n + k) (cond (ltb (1 + p) (suc l)) (Some (1 + p)) None) ≡ option_map (λ k. suc n + k) (cond (ltb p l) (Some p) None)
position_more n p l =
    ⊎_elim
    (λ h.
    let above : 1 + p < suc l = omega arith in
    let same : n + (1 + p) ≡ suc n + p = omega arith in
    rw (lt-ltb (1 + p) (suc l) above, lt-ltb p l h) (ap Some same))
    (λ h. let above : suc l ≤ 1 + p = omega arith in rw (le-ltb (1 + p) (suc l) above, le-ltb p l h))
    (cases_lt p l)

module _ {X : Type 0} where
  -- a list of free slots with one more is one of one more
  pub free_more : (t : List (Option X)) (x : Option X) → t ≡ replicate (length t) None → x ≡ None → t ++ x ∷ [] ≡ replicate (length (t ++ x ∷ [])) None
  free_more t x e f =
      ap (λ y. t ++ y ∷ []) f ∙ ap (λ l. l ++ None ∷ []) e ∙ replicate_more (length t) None
      ∙ ap (λ n. replicate n None) (sym (length_push t x))

  -- a filter keeps as many slots as are free
  pub free_counted : (n : ℕ) (t : List (Option X)) → length (filter is_none t) ≡ length (free_from n t)
  free_counted n [] = refl
  free_counted n (None ∷ t) = ap suc (free_counted (suc n) t)
  free_counted n (Some x ∷ t) = free_counted (suc n) t

  -- the position of the first free slot is the first of them
  first_free : (n : ℕ) (t : List (Option X)) → option_map (λ k. n + k) (position is_none t) ≡ slice_get (free_from n t) 0
  first_free n [] = refl
  first_free n (None ∷ t) = grind arith
  first_free n (Some x ∷ t) = position_more n (position_or_len is_none t) (length t) ∙ first_free (suc n) t

  -- the position of the first free slot, from 0 on
  pub first_is : (t : List (Option X)) → position is_none t ≡ slice_get (free_slots t) 0
  first_is t = from_zero (position is_none t) ∙ first_free 0 t
    where
      from_zero : (o : Option ℕ) → o ≡ option_map (λ k. 0 + k) o
      from_zero None = refl
      from_zero (Some k) = ap Some (sym (zero-add k))

  -- slots are freed in any order
  clear_clear : (t : List (Option X)) (i j : ℕ) → set (set t i None) j None ≡ set (set t j None) i None
  clear_clear [] i j = refl
  clear_clear (x ∷ t) zero zero = refl
  clear_clear (x ∷ t) zero (suc j) = refl
  clear_clear (x ∷ t) (suc i) zero = refl
  clear_clear (x ∷ t) (suc i) (suc j) = ap (λ l. x ∷ l) (clear_clear t i j)

  -- a slot that is freed first may be freed last
  cleared_first : (t : List (Option X)) (slots : List ℕ) (s : ℕ) → cleared (set t s None) slots ≡ set (cleared t slots) s None
  cleared_first t [] s = refl
  cleared_first t (r ∷ rs) s = ap (λ l. cleared l rs) (clear_clear t s r) ∙ cleared_first (set t r None) rs s

  -- one slot more is freed last
  pub cleared_push : (t : List (Option X)) (slots : List ℕ) (s : ℕ) → cleared t (slots ++ s ∷ []) ≡ set (cleared t slots) s None
  cleared_push t [] s = refl
  cleared_push t (r ∷ rs) s = cleared_push (set t r None) rs s

  -- freeing a free slot changes nothing
  clear_free : (t : List (Option X)) (i : ℕ) → at_slot t i ≡ None → set t i None ≡ t
  clear_free [] i e = refl
  clear_free (x ∷ t) zero e = ap (λ y. y ∷ t) (sym e)
  clear_free (x ∷ t) (suc i) e = ap (λ l. x ∷ l) (clear_free t i e)

  -- what stands in a table with a slot freed stood in it before
  stood_clear : (t : List (Option X)) (i j : ℕ) (x : X) → at_slot (set t i None) j ≡ Some x → at_slot t j ≡ Some x
  stood_clear [] i j x e = e
  stood_clear (y ∷ t) zero zero x e = absurd (cc)
  stood_clear (y ∷ t) zero (suc j) x e = e
  stood_clear (y ∷ t) (suc i) zero x e = e
  stood_clear (y ∷ t) (suc i) (suc j) x e = stood_clear t i j x e

  -- the same with some slots freed
  pub stood_cleared : (t : List (Option X)) (slots : List ℕ) (j : ℕ) (x : X) → at_slot (cleared t slots) j ≡ Some x → at_slot t j ≡ Some x
  stood_cleared t [] j x e = e
  stood_cleared t (r ∷ rs) j x e = stood_clear t r j x (stood_cleared (set t r None) rs j x e)

  -- The first free slot: it is one of the table and free, and with an element put into it the others are free.
  pub record First (n : ℕ) (t : List (Option X)) (s : ℕ) (rest : List ℕ) : Type 0 where
    pub place : ℕ
    pub is : s ≡ n + place
    pub inside : place < length t
    pub free : at_slot t place ≡ None
    pub others : (x : X) → free_from n (set t place (Some x)) ≡ rest

  first_from : (n : ℕ) (t : List (Option X)) (s : ℕ) (rest : List ℕ) → free_from n t ≡ s ∷ rest → First n t s rest
  first_from n [] s rest e = absurd (cc)
  first_from n (None ∷ t) s rest e =
      let head : n ≡ s = cc in
      let tail : free_from (suc n) t ≡ rest = cc in
      record { place = zero; is = omega arith; inside = omega arith; free = refl; others = λ x. tail }
  first_from n (Some y ∷ t) s rest e =
      let f = first_from (suc n) t s rest e in
      record { place = suc f.place; is = omega (arith, f.is); inside = omega (arith, f.inside); free = f.free; others = f.others }

  -- what a slot holds that an element was put into
  set_at_slot : (t : List (Option X)) (i : ℕ) (x : X) → i < length t → at_slot (set t i (Some x)) i ≡ Some x
  set_at_slot [] i x h = absurd (omega arith)
  set_at_slot (y ∷ t) zero x h = refl
  set_at_slot (y ∷ t) (suc i) x h = set_at_slot t i x (omega arith)

  -- elements that stand in slots stand there still in a table with more
  stand_still : (t u : List (Option X)) → ((j : ℕ) (x : X) → at_slot t j ≡ Some x → at_slot u j ≡ Some x) → (slots : List ℕ) (xs : List X)
      → map (at_slot t) slots ≡ map Some xs → map (at_slot u) slots ≡ map Some xs
  stand_still t u more [] [] e = refl
  stand_still t u more [] (x ∷ xs) e = absurd (cc)
  stand_still t u more (s ∷ ss) [] e = absurd (cc)
  stand_still t u more (s ∷ ss) (x ∷ xs) e =
      let head : at_slot t s ≡ Some x = cc in
      let tail : map (at_slot t) ss ≡ map Some xs = cc in
      let new = more s x head in
      let rest = stand_still t u more ss xs tail in
      cc

  -- what stands beside a slot that is set is as it was
  at_other : (t : List (Option X)) (i j : ℕ) (y : Option X) → (i ≡ j → ⊥) → at_slot (set t i y) j ≡ at_slot t j
  at_other [] i j y ne = refl
  at_other (x ∷ t) zero zero y ne = absurd (ne refl)
  at_other (x ∷ t) zero (suc j) y ne = refl
  at_other (x ∷ t) (suc i) zero y ne = refl
  at_other (x ∷ t) (suc i) (suc j) y ne = at_other t i j y (λ e. ne (ap suc e))

  -- what stands beside the slots that are freed is as it was
  pub at_cleared : (t : List (Option X)) (slots : List ℕ) (j : ℕ) → (Contains slots j → ⊥) → at_slot (cleared t slots) j ≡ at_slot t j
  at_cleared t [] j away = refl
  at_cleared t (r ∷ rs) j away =
      at_cleared (set t r None) rs j (λ (k, h, e). away (suc k, omega arith, e))
      ∙ at_other t r j None (λ e. away (zero, omega arith, e))

  -- a slot that holds a fragment and is freed is one more that is free
  clear_counted : (n : ℕ) (t : List (Option X)) (i : ℕ) → IsFilled t i → length (free_from n (set t i None)) ≡ suc (length (free_from n t))
  clear_counted n [] i f = absurd (cc)
  clear_counted n (None ∷ t) zero f = absurd (cc)
  clear_counted n (Some x ∷ t) zero f = refl
  clear_counted n (None ∷ t) (suc i) f = ap suc (clear_counted (suc n) t i f)
  clear_counted n (Some x ∷ t) (suc i) f = clear_counted (suc n) t i f

  -- slots go on to hold fragments where another slot is set
  filled_beside : (t : List (Option X)) (slots : List ℕ) (i : ℕ) (y : Option X) → ¬ (Contains slots i) → AllByRecursion (IsFilled t) slots
      → AllByRecursion (IsFilled (set t i y)) slots
  filled_beside t [] i y away f = tt
  filled_beside t (s ∷ ss) i y away f = (
    subst IsSome (sym (at_other t i s y (λ e. away (zero, omega arith, sym e)))) f.0,
    filled_beside t ss i y (λ (k, h, e). away (suc k, omega arith, e)) f.1,
  )

  -- distinct slots that hold fragments and are freed are so many more that are free
  cleared_counted : (t : List (Option X)) (slots : List ℕ) → Distinct slots → AllByRecursion (IsFilled t) slots
      → length (free_slots (cleared t slots)) ≡ length (free_slots t) + length slots
  cleared_counted t [] d f = sym (add-zero (length (free_slots t)))
  cleared_counted t (s ∷ ss) d f =
      let one = clear_counted 0 t s f.0 in
      let rest = cleared_counted (set t s None) ss d.1 (filled_beside t ss s None d.0 f.1) in
      omega arith

  -- a slot in the list of the free ones is free
  free_stands : (n : ℕ) (t : List (Option X)) (k : ℕ) (j : ℕ) → k < length (free_from n t) → get_or (free_from n t) k j ≡ j → (i : ℕ) × (j ≡ n + i) × (at_slot t i ≡ None)
  free_stands n [] k j h e = absurd (omega arith)
  free_stands n (None ∷ t) zero j h e = (zero, omega arith, refl)
  free_stands n (None ∷ t) (suc k) j h e =
      let f = free_stands (suc n) t k j (omega arith) e in
      (suc f.0, omega (arith, f.1), f.2)
  free_stands n (Some x ∷ t) k j h e =
      let f = free_stands (suc n) t k j h e in
      (suc f.0, omega (arith, f.1), f.2)

  -- the free slots are distinct
  pub free_distinct : (n : ℕ) (t : List (Option X)) → Distinct (free_from n t)
  free_distinct n [] = tt
  free_distinct n (None ∷ t) = (λ (k, h, e). let f = free_stands (suc n) t k n h e in absurd (omega (arith, f.1)), free_distinct (suc n) t)
  free_distinct n (Some x ∷ t) = free_distinct (suc n) t

  -- nothing stands in a free slot
  pub none_at : (t : List (Option X)) (j : ℕ) → Contains (free_slots t) j → at_slot t j ≡ None
  none_at t j (k, h, e) =
      let f = free_stands 0 t k j h e in
      let same : f.0 ≡ j = omega (arith, f.1) in
      subst (λ i. at_slot t i ≡ None) same f.2

  -- nothing stands in one of the first free slots
  pub none_at_free : (n : ℕ) (t : List (Option X)) (j : ℕ) → Contains (take n (free_slots t)) j → at_slot t j ≡ None
  none_at_free n t j (k, h, e) =
      let below : k < n = omega (arith, length-take n (free_slots t)) in
      let inside : k < length (free_slots t) = omega (arith, length-take n (free_slots t)) in
      none_at t j (k, inside, sym (get_or-take n (free_slots t) k j below) ∙ e)

  -- The first free slot: it is one of the table and free, and behind it in the list of free slots are those that are free once it
  -- is filled.
  pub record FirstFree (t : List (Option X)) (s : ℕ) : Type 0 where
    pub inside : s < length t
    pub free : at_slot t s ≡ None
    pub others : (x : X) → s ∷ free_slots (set t s (Some x)) ≡ free_slots t

  -- it has these properties
  pub first_of : (t : List (Option X)) (s : ℕ) → slice_get (free_slots t) 0 ≡ Some s → FirstFree t s
  first_of t s e =
      let (rest, is) = head_is (free_slots t) s e in
      let f = first_from 0 t s rest is in
      let same : f.place ≡ s = omega (arith, f.is) in
      record {
        inside = omega (arith, f.inside);
        free = subst (λ i. at_slot t i ≡ None) same f.free;
        others = λ x. ap (λ l. s ∷ l) (subst (λ i. free_from 0 (set t i (Some x)) ≡ rest) same (f.others x)) ∙ sym is;
      }

  -- Elements have been put one by one into free slots of a table: the slots were the first free ones, with these freed the table is
  -- as it was, and the elements stand in them.
  pub record Filling (before : List (Option X)) (xs : List X) (t : List (Option X)) (slots : List ℕ) : Type 0 where
    pub free : slots ++ free_slots t ≡ free_slots before
    pub freed : cleared t slots ≡ before
    pub stand : map (at_slot t) slots ≡ map Some xs

  -- one more
  pub filling_push : (before : List (Option X)) (xs : List X) (t : List (Option X)) (slots : List ℕ) (x : X) (s : ℕ)
      → Filling before xs t slots → slice_get (free_slots t) 0 ≡ Some s → Filling before (xs ++ x ∷ []) (set t s (Some x)) (slots ++ s ∷ [])
  filling_push before xs t slots x s f e =
      let first = first_of t s e in
      let more = set t s (Some x) in
      let back : set more s None ≡ t = set-set t s (Some x) None ∙ clear_free t s first.free in
      let kept = stand_still t more (λ j y h. stood_clear more s j y (subst (λ u. at_slot u j ≡ Some y) (sym back) h)) slots xs f.stand in
      record {
        free = append_assoc slots (s ∷ []) (free_slots more) ∙ ap (λ l. slots ++ l) (first.others x) ∙ f.free;
        freed = cleared_push more slots s ∙ sym (cleared_first more slots s) ∙ ap (λ u. cleared u slots) back ∙ f.freed;
        stand =
            map-append (at_slot more) slots (s ∷ [])
            ∙ (λ i. kept i ++ set_at_slot t s x first.inside i ∷ [])
            ∙ sym (map-append Some xs (x ∷ []));
      }

  -- there are as many slots as elements
  pub filling_long : (before : List (Option X)) (xs : List X) (t : List (Option X)) (slots : List ℕ) → Filling before xs t slots → length slots ≡ length xs
  filling_long before xs t slots f = sym (length-map slots (at_slot t)) ∙ ap length f.stand ∙ length-map xs Some

  -- elements that stand in slots stand at their places
  at_each : (t : List (Option X)) (slots : List ℕ) (xs : List X) → map (at_slot t) slots ≡ map Some xs → (k : ℕ) → at_slots t slots k ≡ slice_get xs k
  at_each t [] [] e k = refl
  at_each t [] (x ∷ xs) e k = absurd (cc)
  at_each t (s ∷ ss) [] e k = absurd (cc)
  at_each t (s ∷ ss) (x ∷ xs) e zero = cc
  at_each t (s ∷ ss) (x ∷ xs) e (suc k) =
      let tail : map (at_slot t) ss ≡ map Some xs = cc in
      at_each t ss xs tail k

-- a sequence whose fragments have been put into slots stands in them
stands_in : (o : Oriented) (fs : List Fragment) → HoldsOwn o fs → (before t : List (Option Fragment)) (slots : List ℕ) → Filling before fs t slots
    → StandsIn t (record { said = said o; slots = slots })
stands_in o fs own before t slots f =
    let each : HoldsAt o (at_slots t slots) =
    λ k. subst (λ x. HoldsIf o.reference (held o.pattern) x (slice_get (parts o) k)) (sym (at_each t slots fs f.stand k)) (held_each o fs own k) in
    record {
      counted = filling_long before fs t slots f ∙ counted o fs own;
      holds = holds_said o (at_slots t slots) each;
    }

-- once the last of its fragments has been put into a slot, it is moved into the table
pub moved : (o : Oriented) (fs : List Fragment) → HoldsOwn o fs → {before t : List (Option Fragment)} {slots : List ℕ} {so_far rest : List Fragment}
    → Filling before so_far t slots → so_far ++ rest ≡ fs → rest ≡ [] → Moved (said o) before t (record { said = said o; slots = slots })
moved o fs own {before} {t} {slots} {so_far} {rest} f is none =
    let all : so_far ≡ fs = sym (append-nil so_far) ∙ ap (λ l. so_far ++ l) (sym none) ∙ is in
    let put = subst (λ l. Filling before l t slots) all f in
    let long = filling_long before fs t slots put ∙ counted o fs own in
    record {
      same = refl;
      first = sym (take_at slots (free_slots t) _ long) ∙ ap (take (length (parts_said (said o)))) f.free;
      free = f.free;
      stands = stands_in o fs own before t slots put;
      others = f.freed;
    }

-- a compiled fragment, if there is one, holds a fragment of a sequence, if there is one
abbrev HeldIf : Said → Option Fragment → Option spec.Fragment → Type 0
HeldIf s p q = HoldsIf s.reference (oriented s.reference s.items) p q

-- the front of a list of distinct slots
pub front_distinct : (slots rest : List ℕ) → Distinct (slots ++ rest) → Distinct slots
front_distinct [] rest d = tt
front_distinct (s ∷ ss) rest d = (λ h. d.0 (Contains-append_left ss rest s h), front_distinct ss rest d.1)

-- a sequence that is moved into a table gets distinct slots
distinct_moved : (s : Said) (before after : List (Option Fragment)) (v : Slotted) → Moved s before after v → Distinct v.slots
distinct_moved s before after v m = front_distinct v.slots (free_slots after) (subst Distinct (sym m.free) (free_distinct 0 before))

-- in each slot of a sequence that stands in a table a fragment stands
stands_slot : (v : Slotted) (t : List (Option Fragment)) → StandsIn t v → (k slot : ℕ) → slice_get v.slots k ≡ Some slot → (f : Fragment) × (at_slot t slot ≡ Some f)
stands_slot v t h k slot e =
    found (at_slot t slot) (slice_get (parts_said v.said) k) refl refl
    (subst (λ o. HeldIf v.said (option_and_then (at_slot t) o) (slice_get (parts_said v.said) k)) e (h.holds k))
  where
    found : (p : Option Fragment) (q : Option spec.Fragment) → at_slot t slot ≡ p → slice_get (parts_said v.said) k ≡ q → HeldIf v.said p q → (f : Fragment) × (at_slot t slot ≡ Some f)
    found (Some f) q is there holds = (f, is)
    found None None is there holds =
        let inside = slice_get_within v.slots k slot e in
        absurd (omega (arith, nth_none (parts_said v.said) k there, h.counted))
    found None (Some g) is there holds = absurd holds

-- each slot of a sequence that stands in a table holds a fragment
stands_filled : (t : List (Option Fragment)) (v : Slotted) → StandsIn t v → AllByRecursion (IsFilled t) v.slots
stands_filled t v h = each v.slots (λ k slot e. let (f, is) = stands_slot v t h k slot e in ap is_some is)
  where
    each : (slots : List ℕ) → ((k slot : ℕ) → slice_get slots k ≡ Some slot → IsFilled t slot) → AllByRecursion (IsFilled t) slots
    each [] there = tt
    each (s ∷ ss) there = (there zero s refl, each ss (λ k slot e. there (suc k) slot e))

-- a sequence stands in another table too where in its slots there stands what stood there
stands_too : (v : Slotted) (t u : List (Option Fragment)) → StandsIn t v
    → ((k slot : ℕ) → slice_get v.slots k ≡ Some slot → (f : Fragment) → at_slot t slot ≡ Some f → at_slot u slot ≡ Some f) → StandsIn u v
stands_too v t u h more = record {
  counted = h.counted;
  holds = λ k. subst (λ o. HeldIf v.said o (slice_get (parts_said v.said) k)) (sym (same k (slice_get v.slots k) refl)) (h.holds k);
}
  where
    same : (k : ℕ) (o : Option ℕ) → slice_get v.slots k ≡ o → at_slots u v.slots k ≡ at_slots t v.slots k
    same k None e = ap (option_and_then (at_slot u)) e ∙ sym (ap (option_and_then (at_slot t)) e)
    same k (Some slot) e =
        let (f, is) = stands_slot v t h k slot e in
        ap (option_and_then (at_slot u)) e ∙ more k slot e f is ∙ sym is ∙ sym (ap (option_and_then (at_slot t)) e)

-- a sequence that stands in a table stands in it still once a further one is moved in
stands_moved : (s : Said) (before after : List (Option Fragment)) (v w : Slotted) → StandsIn before v → Moved s before after w → StandsIn after v
stands_moved s before after v w h m =
    stands_too v before after h (λ k slot e f is. stood_cleared after w.slots slot f (subst (λ t. at_slot t slot ≡ Some f) (sym m.others) is))

-- the further one has other slots
apart_moved : (s : Said) (before after : List (Option Fragment)) (v w : Slotted) → StandsIn before v → Moved s before after w → Apart v.slots w.slots
apart_moved s before after v w h m slot (k, inside, e) there =
    let at : slice_get v.slots k ≡ Some slot = slice_get-get_or v.slots k slot inside ∙ ap Some e in
    let (f, is) = stands_slot v before h k slot at in
    let free = none_at_free (length (parts_said s)) before slot (subst (λ l. Contains l slot) m.first there) in
    none-some f (sym free ∙ is)

-- a sequence that stands in a table stands in it still once other slots are cleared
stands_cleared : (t : List (Option Fragment)) (v : Slotted) (slots : List ℕ) → StandsIn t v → Apart v.slots slots → StandsIn (cleared t slots) v
stands_cleared t v slots h apart =
    stands_too v t (cleared t slots) h
    (λ k slot e f is.
    at_cleared t slots slot (apart slot (k, slice_get_within v.slots k slot e, get_or_from_slice_get v.slots k slot slot e)) ∙ is)

-- a sequence that stands in a table stands in it still once another slot is set
stands_set : (t : List (Option Fragment)) (v : Slotted) (slot : ℕ) (x : Option Fragment) → StandsIn t v → (Contains v.slots slot → ⊥)
    → StandsIn (set t slot x) v
stands_set t v slot x h apart =
    stands_too v t (set t slot x) h
    (λ k own e f is.
    let there : Contains v.slots own = (k, slice_get_within v.slots k own e, get_or_from_slice_get v.slots k own own e) in
    at_other t slot own x (λ same. apart (subst (Contains v.slots) (sym same) there)) ∙ is)

-- a sequence that stands in a table goes on to stand in it as long as its slots are left alone
pub stands_on : StandsOn
stands_on = record {
  moved_in = λ s before after v w h m. (stands_moved s before after v w h m, apart_moved s before after v w h m);
  set_beside = stands_set;
  freed_beside = stands_cleared;
  distinct = distinct_moved;
  filled = stands_filled;
  freed = cleared_counted;
}
