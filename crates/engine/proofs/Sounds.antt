-- What the compiler makes can be searched for, and its search decides as the rule does.
use Rattle.std.proofs.Common.{◌≡◌, ℕ, zero, suc, ◌-◌, ◌≤◌, Bool, true, false, cond, leb, List, [], ◌∷◌, ◌++◌, reverse, length, drop, is_some, Some, None, Ok, Err, Option, Result, sym, refl, ap, ◌∙◌, subst, inl, inr, arith}
use Rattle.std.specs.List.{slice_get, AllByRecursion as All}
use Rattle.std.proofs.lemmas.Bool.{cases_Bool, leb-false, or_parts}
use Rattle.std.proofs.lemmas.List.{drop_all}
use Rattle.kinds.specs.Alphabet.{Alphabet}
use Rattle.patterns.specs.Fragments as spec
use Rattle.patterns.specs.Fragments.{fragments, fragment_place, cut_from, oriented, bodies, some, span, sum, endless, is_gap, is_literal, bare_place, limit_place, first_place, mirrored_placed}
use Rattle.patterns.specs.Grammar.{Placed, Ordered, start}
use Rattle.patterns.specs.Patterns.{hits, least_offset, mirrored}
use Rattle.patterns.specs.Reader.{items_of}
use Rattle.patterns.specs.Search.{least_end}
use Rattle.patterns.specs.declared.reference.Reference.{Reference}
use Rattle.patterns.specs.declared.reference.Reference.TheVariants.{Front, Back, Anywhere}
use Rattle.patterns.specs.Spans.{Small}
use Rattle.patterns.proofs.Anchors.{any_break, fragments_small, anchor_codes}
use Rattle.patterns.proofs.Backs.{bodies_mirrored, mirrored_placed_twice, limits_mirrored, literals_mirrored, ordered_mirrored}
use Rattle.patterns.proofs.Mirrors.{mirrored_alike}
use Rattle.patterns.proofs.Searches.{front_hits, anywhere_hits, kept_none, fragments_none, cut_gap, cut_thing, cut_held}
use Rattle.patterns.proofs.Sound as reader
use Rattle.engine.specs.Compiled.{literal_codes}
use Rattle.patterns.specs.Limits.{refusal}
use Rattle.engine.specs.Reading.{held}
use Rattle.engine.specs.Said.{said, parts, HoldsAt, Searches}
use Rattle.engine.specs.Searched.{Accepted, HoldsIf}
use Rattle.engine.specs.Sequences.{Orients}
use Rattle.patterns.specs.Sequences.{outcome}
use Rattle.faults.specs.declared.fault.Cause.{Cause}
use Rattle.faults.specs.declared.fault.Cause.TheVariants.{Grammar, Limit, NoLiteral}
use Rattle.engine.specs.declared.fragment.Fragment.{Fragment}
use Rattle.engine.specs.declared.oriented.Oriented.{Oriented}
use Rattle.engine.proofs.Literals.{literals_said, literals_oriented}

-- What the compiler makes.

-- the items of a text that is accepted are those that the reader reads, and they are not refused
pub outcome_items : {E : Type 0} (a : Alphabet E) (t : List ℕ) (qs : List Placed)
    → outcome a t ≡ Ok qs → (items_of a t ≡ Ok qs) × (refusal qs ≡ None)
outcome_items a t qs e = go (items_of a t) e
  where
    accepted : (ps : List Placed) (o : Option (Cause × ℕ)) → ◌≡◌ {A = Result (List Placed) (Cause × ℕ)} (elim o [ Some c ↦ Err c | None ↦ Ok ps ]) (Ok qs) → (ps ≡ qs) × (o ≡ None)
    accepted ps (Some c) e = absurd (grind arith)
    accepted ps None e = (cc, refl)

    go : (o : Result (List Placed) ℕ) → ◌≡◌ {A = Result (List Placed) (Cause × ℕ)} (elim o [ Err n ↦ Err (Grammar, n) | Ok ps ↦ elim (refusal ps) [ Some c ↦ Err c | None ↦ Ok ps ] ]) (Ok qs)
        → (o ≡ Ok qs) × (refusal qs ≡ None)
    go (Err n) e = absurd (grind arith)
    go (Ok ps) e = let (same, none) = accepted ps (refusal ps) e in (ap Ok same, ap refusal (sym same) ∙ none)

-- what is put in the order of the search twice is as it was
pub oriented_twice : (r : Reference) (qs : List Placed) → oriented r (oriented r qs) ≡ qs
oriented_twice (Front least most) qs = refl
oriented_twice (Back least most) qs = mirrored_placed_twice qs
oriented_twice Anywhere qs = refl

-- what is compiled from a text can be searched for
pub compiled_accepted : {E : Type 0} (a : Alphabet E) (t : List ℕ) (r : Reference) (qs items mirror : List Placed)
    → outcome a t ≡ Ok qs → items ≡ oriented r qs → mirror ≡ mirrored_placed items → length t ≤ 200 → Accepted r items mirror
compiled_accepted a t r qs items mirror read order mirrors short =
    let (text, accepted) = outcome_items a t qs read in
    let literals = literals_said a 0 qs t (reader.sound a t qs text).1 in
    let same = ap (λ l. length (literal_codes (bodies l))) order ∙ literals_oriented r qs in
    let back : oriented r items ≡ qs = ap (oriented r) order ∙ oriented_twice r qs in
    record {
      ordered = subst (Ordered start) (sym back) (reader.sound a t qs text).0;
      accepted = ap refusal back ∙ accepted;
      mirrors = mirrors;
      few = omega arith;
    }

-- and it is the text's items in the order of their search, with the mirrored ones
pub text_oriented : {E : Type 0} (a : Alphabet E) (t : List ℕ) (r : Reference) (qs items mirror : List Placed)
    → outcome a t ≡ Ok qs → items ≡ oriented r qs → mirror ≡ mirrored_placed items → length t ≤ 200 → Orients a t r items mirror
text_oriented a t r qs items mirror read order mirrors short = record {
  read = read ∙ ap Ok (sym (ap (oriented r) order ∙ oriented_twice r qs));
  accepted = compiled_accepted a t r qs items mirror read order mirrors short;
}

-- What the search relies on.

-- a fragment with a literal
abbrev WithLiteral : spec.Fragment → Type 0
WithLiteral f = some is_literal f.body ≡ true

-- items that are not refused are within the limits, and no fragment is without a literal
accepted_parts : (qs : List Placed) → refusal qs ≡ None → (limit_place qs ≡ None) × (bare_place (fragments 0 qs) ≡ None)
accepted_parts qs e = go (limit_place qs) (bare_place (fragments 0 qs)) e
  where
    go : (o b : Option ℕ) → ◌≡◌ {A = Option (Cause × ℕ)} (elim o [ Some n ↦ Some (Limit, n) | None ↦ elim b [ Some n ↦ Some (NoLiteral, n) | None ↦ None ] ]) None
        → (o ≡ None) × (b ≡ None)
    go (Some n) b e = absurd (grind arith)
    go None (Some n) e = absurd (grind arith)
    go None None e = (refl, refl)

-- where no fragment is bare, each has a literal
none_bare : (fs : List spec.Fragment) → bare_place fs ≡ None → All WithLiteral fs
none_bare [] e = tt
none_bare (f ∷ fs) e = go (some is_literal f.body) e (none_bare fs)
  where
    go : (b : Bool) → cond b (bare_place fs) (Some (first_place f.body)) ≡ None → (bare_place fs ≡ None → All WithLiteral fs)
        → (b ≡ true) × All WithLiteral fs
    go true e more = (refl, more e)
    go false e more = absurd (grind arith)

-- what is known of the items of a sequence, in the order of its search
pub record Within (s : Oriented) : Type 0 where
  pub ordered : Ordered start (held s.pattern)
  pub limits : limit_place (held s.pattern) ≡ None
  pub literals : All WithLiteral (parts s)
  pub mirrors : held s.mirror ≡ mirrored_placed (held s.pattern)

-- accepted items are in the grammar's order and within the limits, and each of their fragments has a literal
searchable : (r : Reference) (items : List Placed) (break : ℕ) → Ordered start (oriented r items) → refusal (oriented r items) ≡ None
    → Ordered start items × (limit_place items ≡ None) × All WithLiteral (fragments break items)
searchable (Front least most) items break order accepted =
    let (within, bare) = accepted_parts items accepted in
    (order, within, any_break (λ b. some is_literal b ≡ true) items 0 break [] [] (none_bare (fragments 0 items) bare))
searchable (Back least most) items break order accepted =
    let text = mirrored_placed items in
    let (within, bare) = accepted_parts text accepted in
    subst
    (λ l. Ordered start l × (limit_place l ≡ None) × All WithLiteral (fragments break l))
    (mirrored_placed_twice items)
    (ordered_mirrored text order, limits_mirrored text order within, literals_mirrored text break order (none_bare (fragments 0 text) bare))
searchable Anywhere items break order accepted =
    let (within, bare) = accepted_parts items accepted in
    (order, within, any_break (λ b. some is_literal b ≡ true) items 0 break [] [] (none_bare (fragments 0 items) bare))

-- so much is known of accepted ones
pub within : (s : Oriented) → Accepted s.reference (held s.pattern) (held s.mirror) → Within s
within s k =
    let (order, limits, literals) = searchable s.reference (held s.pattern) (least_offset s.reference) k.ordered k.accepted in
    record { ordered = order; limits = limits; literals = literals; mirrors = k.mirrors }

-- what holds of all fragments holds of the one at a place
all_at : (P : spec.Fragment → Type 0) (gs : List spec.Fragment) (k : ℕ) (g : spec.Fragment) → All P gs → slice_get gs k ≡ Some g → P g
all_at P [] k g h e = absurd (grind arith)
all_at P (x ∷ gs) zero g h e = subst P (same e) h.0
  where
    same : {y z : spec.Fragment} → Some y ≡ Some z → y ≡ z
    same e = cc
all_at P (x ∷ gs) (suc k) g h e = all_at P gs k g h.1 e

-- what stands at a place of a list is the first of what stands from there on
drop_at_some : (gs : List spec.Fragment) (k : ℕ) (g : spec.Fragment) → slice_get gs k ≡ Some g → drop k gs ≡ g ∷ drop (suc k) gs
drop_at_some [] k g e = absurd (grind arith)
drop_at_some (x ∷ gs) zero g e = cc
drop_at_some (x ∷ gs) (suc k) g e = drop_at_some gs k g e

-- and where nothing stands there, nothing stands from there on
drop_at_none : (gs : List spec.Fragment) (k : ℕ) → slice_get gs k ≡ None → drop k gs ≡ []
drop_at_none [] zero e = refl
drop_at_none [] (suc k) e = refl
drop_at_none (x ∷ gs) zero e = absurd (grind arith)
drop_at_none (x ∷ gs) (suc k) e = drop_at_none gs k e

module _ (s : Oriented) (at : ℕ → Option Fragment) (holds : HoldsAt s at) where
  -- the fragment that a compiled one is searched for stands at its number
  pub part_at : Within s → (k : ℕ) (f : Fragment) → at k ≡ Some f
      → (g : spec.Fragment) × (drop k (parts s) ≡ g ∷ drop (suc k) (parts s)) × Searches s f g
  part_at w k f e = go (slice_get (parts s) k) refl (subst (λ o. HoldsIf s.reference (held s.pattern) o (slice_get (parts s) k)) e (holds k))
    where
      small : All (λ g. Small (bodies g.body)) (parts s)
      small = fragments_small (held s.pattern) (least_offset s.reference) w.limits

      go : (o : Option spec.Fragment) → slice_get (parts s) k ≡ o → HoldsIf s.reference (held s.pattern) (Some f) o
          → (g : spec.Fragment) × (drop k (parts s) ≡ g ∷ drop (suc k) (parts s)) × Searches s f g
      go None there h = absurd h
      go (Some g) there h = (
        g,
        drop_at_some (parts s) k g there,
        record {
          holds = h;
          mirrors = w.mirrors;
          small = all_at (λ g. Small (bodies g.body)) (parts s) k g small there;
          coded = anchor_codes s.reference g.body (all_at WithLiteral (parts s) k g w.literals there);
        },
      )

  -- where there is no compiled fragment, there is no fragment from there on
  pub none_at : (k : ℕ) → at k ≡ None → drop k (parts s) ≡ []
  none_at k e = go (slice_get (parts s) k) refl (subst (λ o. HoldsIf s.reference (held s.pattern) o (slice_get (parts s) k)) e (holds k))
    where
      go : (o : Option spec.Fragment) → slice_get (parts s) k ≡ o → HoldsIf s.reference (held s.pattern) None o → drop k (parts s) ≡ []
      go None there h = drop_at_none (parts s) k there
      go (Some g) there h = absurd h

-- within the limits there are at most eight fragments
few : (fs : List spec.Fragment) (number : ℕ) (o : Option ℕ) → fragment_place number o fs ≡ None → length fs ≤ 8 - number
few [] number o e = omega arith
few (f ∷ fs) number o e =
    let (was, ok) = kept_none _ o (first_place f.body) (fragments_none fs (suc number) _ e) in
    omega (arith, leb-false 8 number (or_parts (leb 8 number) _ ok).0, few fs (suc number) _ e)

-- fragments of which the first has another break
abbrev pub opened : ℕ → List spec.Fragment → List spec.Fragment
opened from [] = []
opened from (g ∷ gs) = record { break = from; body = g.body } ∷ gs

-- they are those cut with that break
pub opened_cut : (qs : List Placed) (from lo : ℕ) (body spacing : List Placed) → opened from (cut_from lo body spacing qs) ≡ cut_from from body spacing qs
opened_cut [] from lo body spacing = refl
opened_cut (q ∷ qs) from lo body spacing =
    elim (cases_Bool (is_gap q.item)) [
      | inl y ↦ ap (opened from) (cut_gap lo body spacing q qs y) ∙ opened_cut qs from lo body (spacing ++ q ∷ []) ∙ sym (cut_gap from body spacing q qs y)
      | inr n ↦
          elim (cases_Bool (some endless spacing)) [
            | inl y ↦ ap (opened from) (cut_thing lo body spacing q qs n y) ∙ sym (cut_thing from body spacing q qs n y)
            | inr m ↦ ap (opened from) (cut_held lo body spacing q qs n m) ∙ opened_cut qs from lo (body ++ (spacing ++ q ∷ [])) [] ∙ sym (cut_held from body spacing q qs n m)
          ]
    ]

-- there is a fragment at least
pub cut_some : (qs : List Placed) (break : ℕ) (body spacing : List Placed) → cut_from break body spacing qs ≡ [] → ⊥
cut_some [] break body spacing e = cc
cut_some (q ∷ qs) break body spacing e =
    elim (cases_Bool (is_gap q.item)) [
      | inl y ↦ cut_some qs break body (spacing ++ q ∷ []) (sym (cut_gap break body spacing q qs y) ∙ e)
      | inr n ↦
          elim (cases_Bool (some endless spacing)) [
            | inl y ↦ let none = sym (cut_thing break body spacing q qs n y) ∙ e in cc
            | inr m ↦ cut_some qs break (body ++ (spacing ++ q ∷ [])) [] (sym (cut_held break body spacing q qs n m) ∙ e)
          ]
    ]

-- as many fragments, whatever the first break
length_opened : (from : ℕ) (gs : List spec.Fragment) → length (opened from gs) ≡ length gs
length_opened from [] = refl
length_opened from (g ∷ gs) = refl

-- there is no ninth
pub few_parts : (s : Oriented) → Within s → (number : ℕ) → 8 ≤ number → drop number (parts s) ≡ []
few_parts s w number past =
    let qs = held s.pattern in
    let same : length (parts s) ≡ length (fragments 0 qs) = sym (ap length (opened_cut qs (least_offset s.reference) 0 [] [])) ∙ length_opened (least_offset s.reference) (fragments 0 qs) in
    drop_all number (parts s) (omega (arith, few (fragments 0 qs) 0 _ w.limits))

-- What the search answers.

-- the least end in the reading in the order of the search decides as the rule does: from the front,
pub front_decides : (s : Oriented) (least most : ℕ) (xs : List ℕ) → s.reference ≡ Front least most
    → is_some (least_end (bodies (held s.pattern)) least (Some most) xs) ≡ hits s.reference (bodies (said s).items) xs
front_decides s least most xs e =
    front_hits least most (bodies (held s.pattern)) xs ∙ ap (λ r. hits r (bodies (oriented r (held s.pattern))) xs) (sym e)

-- from the back,
pub back_decides : (s : Oriented) (least most : ℕ) (xs : List ℕ) → s.reference ≡ Back least most
    → is_some (least_end (bodies (held s.pattern)) least (Some most) (reverse xs)) ≡ hits s.reference (bodies (said s).items) xs
back_decides s least most xs e =
    let text = mirrored_placed (held s.pattern) in
    let items : bodies (held s.pattern) ≡ mirrored (bodies text) = ap bodies (sym (mirrored_placed_twice (held s.pattern))) ∙ bodies_mirrored text in
    front_hits least most (bodies (held s.pattern)) (reverse xs)
    ∙ ap (λ is. hits (Front least most) is (reverse xs)) items
    ∙ mirrored_alike (Back least most) (bodies text) xs
    ∙ ap (λ r. hits r (bodies (oriented r (held s.pattern))) xs) (sym e)

-- and anywhere
pub anywhere_decides : (s : Oriented) (xs : List ℕ) → s.reference ≡ Anywhere
    → is_some (least_end (bodies (held s.pattern)) 0 None xs) ≡ hits s.reference (bodies (said s).items) xs
anywhere_decides s xs e =
    anywhere_hits (bodies (held s.pattern)) xs ∙ ap (λ r. hits r (bodies (oriented r (held s.pattern))) xs) (sym e)
