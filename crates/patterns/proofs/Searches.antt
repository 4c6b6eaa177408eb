-- The search by fragments decides as the rule does: to take the least end of each fragment loses no placement.
use Rattle.std.proofs.Common.{◌≡◌, ℕ, zero, suc, ◌+◌, ◌-◌, ◌<◌, ◌≤◌, Bool, true, false, cond, ◌&&◌, ◌||◌, leb, ◌↔◌, List, [], ◌∷◌, ◌++◌, length, take, drop, is_some, Some, None, Decides, Option, sym, refl, ap, ◌∙◌, subst, subst₂, inl, inr, ⊎_elim, zero-add, arith, take-add}
use Rattle.std.specs.List.{AllByRecursion as All}
use Rattle.std.proofs.ByRecursion.{All-push}
use Rattle.std.proofs.lemmas.List.{append-nil, append_assoc, length-append, length-take, length-drop, take-append-drop, take_at, drop_at, drop-drop, nil_from_length}
use Rattle.std.proofs.lemmas.Bool.{false≢true, both_ways, leb-true, le-leb, ltb-false, cases_Bool, cases_lt, or_cases}
use Rattle.std.proofs.lemmas.Bool.Decides.{same_from_decides, Decides-like, Decides-and, Decides-below_or}
use Rattle.patterns.specs.Fragments.{Fragment, fragments, cut_from, bodies, sum, least, some, is_gap, endless, wrong, least_with, wrong_place, fragment_place, limit_place, first_place}
use Rattle.patterns.specs.Grammar.{Placed, Position, start, may_end, behind, Ordered}
use Rattle.patterns.specs.Patterns.{Item, literal, any, group, range, other, gap, AtMost, Matches, Cut, Allowed, Placement, at_most, cuts, hits}
use Rattle.patterns.specs.Spans.{Spans, Ends}
use Rattle.patterns.specs.Search.{stretch, ends_at, least_end_from, least_end, search_end, EndsLeast, FoundExactly}
use Rattle.patterns.specs.declared.reference.Reference.{Reference}
use Rattle.patterns.specs.declared.reference.Reference.TheVariants.{Front, Anywhere}
use Rattle.patterns.proofs.Decisions.{at_most_decides, cuts_decides, hits_exactly}
use Rattle.patterns.proofs.Mirrors.{cut_append, cut_joined}

-- Stretches of a list.

-- how long a stretch is
pub length_stretch : (xs : List ℕ) (s e : ℕ) → e ≤ length xs → length (stretch xs s e) ≡ e - s
length_stretch xs s e h = simp (length-take, length-drop) (omega arith)

-- two stretches, one behind the other, are one stretch
pub stretch_joined : (xs : List ℕ) (s m e : ℕ) → s ≤ m → m ≤ e → stretch xs s m ++ stretch xs m e ≡ stretch xs s e
stretch_joined xs s m e h k =
    let there : s + (m - s) ≡ m = omega arith in
    let parts : (m - s) + (e - m) ≡ e - s = omega arith in
    ap (λ l. stretch xs s m ++ take (e - m) l) (ap (λ n. drop n xs) (sym there) ∙ sym (drop-drop (m - s) s xs))
    ∙ sym (take-add (m - s) (e - m) (drop s xs))
    ∙ ap (λ n. take n (drop s xs)) parts

-- what two parts of a pattern span, one behind the other, they span together
pub spans_joined : (is js : List Item) (xs : List ℕ) (s m e : ℕ) → Spans is xs s m → Spans js xs m e → Spans (is ++ js) xs s e
spans_joined is js xs s m e a b =
    record {
      ordered = omega arith;
      inside = b.inside;
      cut =
          subst
          (Cut (is ++ js))
          (stretch_joined xs s m e a.ordered b.ordered)
          (cut_joined is js (stretch xs s m) (stretch xs m e) a.cut b.cut);
    }

-- what two parts of a pattern span together, each spans up to or from some place between
pub spans_parted : (is js : List Item) (xs : List ℕ) (s e : ℕ)
    → Spans (is ++ js) xs s e → (m : ℕ) × Spans is xs s m × Spans js xs m e
spans_parted is js xs s e h =
    let (front, rest, d, a, b) = (cut_append is js (stretch xs s e)).0 h.cut in
    let n = length front in
    let m = s + n in
    let whole : e - s ≡ n + length rest = sym (length_stretch xs s e h.inside) ∙ ap length d ∙ length-append front rest in
    let lower : s ≤ m = omega arith in
    let upper : m ≤ e = omega (arith, h.ordered) in
    let within : m ≤ length xs = omega (arith, h.inside) in
    let both : front ++ rest ≡ stretch xs s m ++ stretch xs m e = sym (stretch_joined xs s m e lower upper ∙ d) in
    let size : length (stretch xs s m) ≡ n = length_stretch xs s m within ∙ omega arith in
    let first : front ≡ stretch xs s m = sym (take_at front rest n refl) ∙ ap (λ l. take n l) both ∙ take_at (stretch xs s m) (stretch xs m e) n size in
    let second : rest ≡ stretch xs m e = sym (drop_at front rest n refl) ∙ ap (λ l. drop n l) both ∙ drop_at (stretch xs s m) (stretch xs m e) n size in
    let before : Spans is xs s m = record { ordered = lower; inside = within; cut = subst (Cut is) first a } in
    let behind : Spans js xs m e = record { ordered = upper; inside = h.inside; cut = subst (Cut js) second b } in
    (m, before, behind)

-- Least ends.

-- the least end of such a placement, or none
abbrev pub LeastEnd : List Item → ℕ → Option ℕ → List ℕ → Option ℕ → Type 0
LeastEnd items from until xs None = (e : ℕ) → Ends items from until xs e → ⊥
LeastEnd items from until xs (Some e) = Ends items from until xs e × ((e' : ℕ) → Ends items from until xs e' → e ≤ e')

-- a test, and another if it fails
tried : (b c : Bool) → elim b [ true ↦ true | false ↦ c ] ≡ (b || c)
tried true c = refl
tried false c = refl

module _ (items : List Item) (from : ℕ) (until : Option ℕ) (xs : List ℕ) where
  -- the starts below k are all tried
  ends_at_decides : (e k : ℕ)
      → Decides (ends_at items from until xs e k) ((s : ℕ) × (s < k) × (((from ≤ s) × AtMost until s) × Cut items (stretch xs s e)))
  ends_at_decides e =
      Decides-below_or
      (λ s. (leb from s && at_most until s) && cuts items (stretch xs s e))
      (λ s. ((from ≤ s) × AtMost until s) × Cut items (stretch xs s e))
      (ends_at items from until xs e)
      (λ s. Decides-and _ _ (Decides-and _ _ (leb-true from s, le-leb from s) (at_most_decides until s)) (cuts_decides items (stretch xs s e)))
      refl
      (λ s. tried _ (ends_at items from until xs e s))

  -- an end in the list passes its test exactly when some placement has it
  pub ends_decides : (e : ℕ) → e ≤ length xs → Decides (ends_at items from until xs e (suc e)) (Ends items from until xs e)
  ends_decides e inside =
      Decides-like
      (ends_at items from until xs e (suc e))
      (λ h. record { begins = h.0; late = h.2.0.0; early = h.2.0.1; spans = record { ordered = omega arith; inside = inside; cut = h.2.1 } })
      (λ h. (h.begins, omega arith, ((h.late, h.early), h.spans.cut)))
      (ends_at_decides e (suc e))

  -- where no placement ends before e, the first of the k ends from e on that passes is the least
  least_from : (k e : ℕ) → e + k ≡ suc (length xs) → ((e' : ℕ) → Ends items from until xs e' → e ≤ e')
      → LeastEnd items from until xs (least_end_from items from until xs e k)
  least_from zero e all below = λ e' h. omega (arith, below e' h, h.spans.inside)
  least_from (suc k) e all below = go (ends_at items from until xs e (suc e)) refl (least_from k (suc e) (omega arith))
    where
      test : Decides (ends_at items from until xs e (suc e)) (Ends items from until xs e)
      test = ends_decides e (omega arith)

      past : ends_at items from until xs e (suc e) ≡ false → (e' : ℕ) → Ends items from until xs e' → suc e ≤ e'
      past n e' h =
          ⊎_elim
          (λ l. l)
          (λ l. let same : e' ≡ e = omega (arith, below e' h) in absurd (both_ways _ n (test.1 (subst (Ends items from until xs) same h))))
          (cases_lt e e')

      go : (b : Bool) → ends_at items from until xs e (suc e) ≡ b
          → (((e' : ℕ) → Ends items from until xs e' → suc e ≤ e') → LeastEnd items from until xs (least_end_from items from until xs (suc e) k))
          → LeastEnd items from until xs (elim b [ true ↦ Some e | false ↦ least_end_from items from until xs (suc e) k ])
      go true y more = (test.0 y, below)
      go false n more = more (past n)

  -- the search for the least end finds the least
  pub least_end_exactly : LeastEnd items from until xs (least_end items from until xs)
  least_end_exactly = least_from (suc (length xs)) 0 (omega arith) (λ _ _. omega arith)

  -- so what the search says holds
  pub least_end_says : (r : Option ℕ) → least_end items from until xs ≡ r → LeastEnd items from until xs r
  least_end_says r e = subst (LeastEnd items from until xs) e least_end_exactly

  -- there is one least end
  pub least_end_unique : (r r' : Option ℕ) → LeastEnd items from until xs r → LeastEnd items from until xs r' → r ≡ r'
  least_end_unique None None h h' = refl
  least_end_unique None (Some e') h h' = absurd (h e' h'.0)
  least_end_unique (Some e) None h h' = absurd (h' e h.0)
  least_end_unique (Some e) (Some e') h h' =
      let same : e ≡ e' = omega (arith, h.1 e' h'.0, h'.1 e h.0) in ap Some same

  -- so what is the least end is what the search says
  pub least_end_is : (r : Option ℕ) → LeastEnd items from until xs r → r ≡ least_end items from until xs
  least_end_is r h = least_end_unique r (least_end items from until xs) h least_end_exactly

-- Spacings.

-- a gap, and not a wrong one
abbrev pub Plain : Placed → Type 0
Plain q = (is_gap q.item ≡ true) × (wrong q.item ≡ false)

-- what holds of every gap holds of an item that is one
of_gap : (P : Item → Type 0) → ((l : ℕ) (n : Option ℕ) → P (gap l n)) → (i : Item) → is_gap i ≡ true → P i
of_gap P each (literal c) y = absurd (false≢true y)
of_gap P each any y = absurd (false≢true y)
of_gap P each (group runs) y = absurd (false≢true y)
of_gap P each (range d inside low high) y = absurd (false≢true y)
of_gap P each (other run) y = absurd (false≢true y)
of_gap P each (gap l n) y = each l n

-- a gap takes its least length or more
gap_least : (i : Item) → is_gap i ≡ true → (xs : List ℕ) → Matches i xs → least i ≤ length xs
gap_least = of_gap _ (λ l n xs m. m.0)

-- a gap that is not wrong takes its least length
gap_exact : (i : Item) → is_gap i ≡ true → (xs : List ℕ) → wrong i ≡ false → length xs ≡ least i → Matches i xs
gap_exact = of_gap _ go
  where
    go : (l : ℕ) (n : Option ℕ) (xs : List ℕ) → wrong (gap l n) ≡ false → length xs ≡ l → Matches (gap l n) xs
    go l None xs ok e = (omega arith, tt)
    go l (Some m) xs ok e = let fits : l ≤ m = ltb-false m l ok in (omega arith, omega arith)

-- a gap without upper end takes whatever is not shorter
gap_endless : (i : Item) → is_gap i ≡ true → (xs : List ℕ) → endless i ≡ true → least i ≤ length xs → Matches i xs
gap_endless = of_gap _ go
  where
    go : (l : ℕ) (n : Option ℕ) (xs : List ℕ) → endless (gap l n) ≡ true → l ≤ length xs → Matches (gap l n) xs
    go l None xs y h = (h, tt)
    go l (Some m) xs y h = absurd (false≢true y)

-- no pattern ends behind a gap
gap_goes_on : (i : Item) → is_gap i ≡ true → may_end (behind i) ≡ false
gap_goes_on = of_gap _ (λ l n. refl)

-- a spacing takes the sum of their least lengths or more
spacing_least : (spacing : List Placed) (xs : List ℕ) → All Plain spacing → Cut (bodies spacing) xs → sum least spacing ≤ length xs
spacing_least [] xs gaps c = omega arith
spacing_least (q ∷ qs) xs ((y, ok), gaps) (front, rest, e, m, c) =
    omega (arith, ap length e ∙ length-append front rest, gap_least q.item y front m, spacing_least qs rest gaps c)

-- an item in front of a cut
cut_behind : (i : Item) (is : List Item) (xs : List ℕ) (k : ℕ) → Matches i (take k xs) → Cut is (drop k xs) → Cut (i ∷ is) xs
cut_behind i is xs k m c = (take k xs, drop k xs, sym (take-append-drop k xs), m, c)

-- if none is wrong, it takes just that sum
spacing_exact : (spacing : List Placed) (xs : List ℕ) → All Plain spacing → length xs ≡ sum least spacing → Cut (bodies spacing) xs
spacing_exact [] xs gaps e = nil_from_length xs e
spacing_exact (q ∷ qs) xs ((y, ok), gaps) e =
    let k = least q.item in
    let size : length (take k xs) ≡ k = simp length-take (omega arith) in
    let rest : length (drop k xs) ≡ sum least qs = simp length-drop (omega arith) in
    cut_behind q.item (bodies qs) xs k (gap_exact q.item y (take k xs) ok size) (spacing_exact qs (drop k xs) gaps rest)

-- and if one has no upper end, whatever is not shorter
spacing_endless : (spacing : List Placed) (xs : List ℕ) → All Plain spacing → some endless spacing ≡ true → sum least spacing ≤ length xs → Cut (bodies spacing) xs
spacing_endless [] xs gaps y h = absurd (false≢true y)
spacing_endless (q ∷ qs) xs ((g, ok), gaps) y h =
    elim (or_cases (endless q.item) (some endless qs) y) [
      | inl here ↦
          let k = length xs - sum least qs in
          let size : least q.item ≤ length (take k xs) = simp length-take (omega arith) in
          let rest : length (drop k xs) ≡ sum least qs = simp length-drop (omega arith) in
          cut_behind q.item (bodies qs) xs k (gap_endless q.item g (take k xs) here size) (spacing_exact qs (drop k xs) gaps rest)
      | inr later ↦
          let k = least q.item in
          let size : length (take k xs) ≡ k = simp length-take (omega arith) in
          let rest : sum least qs ≤ length (drop k xs) = simp length-drop (omega arith) in
          cut_behind q.item (bodies qs) xs k (gap_exact q.item g (take k xs) ok size) (spacing_endless qs (drop k xs) gaps later rest)
    ]

-- so between two places that far apart the spacing spans what stands there
pub spacing_spans : (spacing : List Placed) (xs : List ℕ) (s e : ℕ)
    → All Plain spacing → some endless spacing ≡ true → s + sum least spacing ≤ e → e ≤ length xs → Spans (bodies spacing) xs s e
spacing_spans spacing xs s e gaps y h inside =
    record {
      ordered = omega arith;
      inside = inside;
      cut = spacing_endless spacing (stretch xs s e) gaps y (omega (arith, length_stretch xs s e inside));
    }

-- and only between such places
pub spacing_apart : (spacing : List Placed) (xs : List ℕ) (s e : ℕ) → All Plain spacing → Spans (bodies spacing) xs s e → s + sum least spacing ≤ e
spacing_apart spacing xs s e gaps h = omega (arith, h.ordered, length_stretch xs s e h.inside, spacing_least spacing (stretch xs s e) gaps h.cut)

-- Fragments, one behind the other.

-- each starts at least its break behind the end of the one before it, only the first has a bound on its start, and the last
-- ends at e
abbrev pub Chain : List Fragment → ℕ → Option ℕ → List ℕ → ℕ → Type 0
Chain [] at until xs e = at ≡ e
Chain (f ∷ fs) at until xs e = (m : ℕ) × Ends (bodies f.body) (at + f.break) until xs m × Chain fs m None xs e

-- what lies behind a place lies behind an earlier one, and ends no later
chain_earlier : (fs : List Fragment) (a b : ℕ) (until : Option ℕ) (xs : List ℕ) (e : ℕ)
    → a ≤ b → Chain fs b until xs e → (e' : ℕ) × Chain fs a until xs e' × (e' ≤ e)
chain_earlier [] a b until xs e h c = (a, refl, omega arith)
chain_earlier (f ∷ fs) a b until xs e h (m, ends, more) =
    (e, (m, record { begins = ends.begins; late = omega (arith, ends.late); early = ends.early; spans = ends.spans }, more), omega arith)

-- the least end of fragments that lie so, or none
abbrev LeastChain : List Fragment → ℕ → Option ℕ → List ℕ → Option ℕ → Type 0
LeastChain fs at until xs None = (e : ℕ) → Chain fs at until xs e → ⊥
LeastChain fs at until xs (Some e) = Chain fs at until xs e × ((e' : ℕ) → Chain fs at until xs e' → e ≤ e')

-- the search ends there: the least end of each leaves the most room for the next
search_end_exactly : (fs : List Fragment) (at : ℕ) (until : Option ℕ) (xs : List ℕ) → LeastChain fs at until xs (search_end fs at until xs)
search_end_exactly [] at until xs = (refl, λ e' h. omega arith)
search_end_exactly (f ∷ fs) at until xs =
    go (least_end items from until xs) (least_end_exactly items from until xs) (λ m. search_end_exactly fs m None xs)
  where
    items : List Item
    items = bodies f.body

    from : ℕ
    from = at + f.break

    behind : (m : ℕ) → Ends items from until xs m → ((m' : ℕ) → Ends items from until xs m' → m ≤ m') → (r : Option ℕ)
        → LeastChain fs m None xs r → LeastChain (f ∷ fs) at until xs r
    behind m ends first None none =
        λ e h. let (e', more, no_later) = chain_earlier fs m h.0 None xs e (first h.0 h.1) h.2 in none e' more
    behind m ends first (Some e) (chain, best) = (
      (m, ends, chain),
      λ e' h. let (e'', more, no_later) = chain_earlier fs m h.0 None xs e' (first h.0 h.1) h.2 in omega (arith, best e'' more),
    )

    go : (r : Option ℕ) → LeastEnd items from until xs r → ((m : ℕ) → LeastChain fs m None xs (search_end fs m None xs))
        → LeastChain (f ∷ fs) at until xs (elim r [ None ↦ None | Some m ↦ search_end fs m None xs ])
    go None none more = λ e h. none h.0 h.1
    go (Some m) (ends, first) more = behind m ends first (search_end fs m None xs) (more m)

-- How items are cut into fragments.

-- the items of two parts
pub bodies_append : (ps qs : List Placed) → bodies (ps ++ qs) ≡ bodies ps ++ bodies qs
bodies_append [] qs = refl
bodies_append (p ∷ ps) qs = ap (λ l. p.item ∷ l) (bodies_append ps qs)

module _ (break : ℕ) (body spacing : List Placed) (q : Placed) (qs : List Placed) where
  -- a gap joins the spacing
  pub cut_gap : is_gap q.item ≡ true → cut_from break body spacing (q ∷ qs) ≡ cut_from break body (spacing ++ q ∷ []) qs
  cut_gap y = rw (y, cut_from)

  -- a thing behind an endless spacing begins a fragment
  pub cut_thing : is_gap q.item ≡ false → some endless spacing ≡ true
      → cut_from break body spacing (q ∷ qs) ≡ record { break = break; body = body } ∷ cut_from (sum least spacing) (q ∷ []) [] qs
  cut_thing n y = rw (n, y, cut_from)

  -- a thing behind another spacing joins the fragment, with the spacing
  pub cut_held : is_gap q.item ≡ false → some endless spacing ≡ false
      → cut_from break body spacing (q ∷ qs) ≡ cut_from break (body ++ (spacing ++ q ∷ [])) [] qs
  cut_held n m = rw (n, m, cut_from)

-- an item that is not wrong
abbrev pub Right : Placed → Type 0
Right q = wrong q.item ≡ false

-- a placement of three parts: the second and the third span what stands behind the first
ends_joined : (ps spacing qs : List Placed) (from : ℕ) (until : Option ℕ) (xs : List ℕ) (m e : ℕ)
    → Ends (bodies ps) from until xs m → All Plain spacing → some endless spacing ≡ true → Ends (bodies qs) (m + sum least spacing) None xs e
    → Ends (bodies (ps ++ (spacing ++ qs))) from until xs e
ends_joined ps spacing qs from until xs m e first gaps y last =
    let between = spacing_spans spacing xs m last.begins gaps y last.late (omega (arith, last.spans.ordered, last.spans.inside)) in
    let both = spans_joined (bodies spacing) (bodies qs) xs m last.begins e between last.spans in
    let all = spans_joined (bodies ps) (bodies spacing ++ bodies qs) xs first.begins m e first.spans both in
    let items : bodies ps ++ (bodies spacing ++ bodies qs) ≡ bodies (ps ++ (spacing ++ qs)) = simp bodies_append in
    record { begins = first.begins; late = first.late; early = first.early; spans = subst (λ l. Spans l xs first.begins e) items all }

-- and back
ends_parted : (ps spacing qs : List Placed) (from : ℕ) (until : Option ℕ) (xs : List ℕ) (e : ℕ)
    → All Plain spacing → Ends (bodies (ps ++ (spacing ++ qs))) from until xs e
    → (m : ℕ) × Ends (bodies ps) from until xs m × Ends (bodies qs) (m + sum least spacing) None xs e
ends_parted ps spacing qs from until xs e gaps h =
    let items : bodies (ps ++ (spacing ++ qs)) ≡ bodies ps ++ (bodies spacing ++ bodies qs) = simp bodies_append in
    let all = subst (λ l. Spans l xs h.begins e) items h.spans in
    let (m, first, more) = spans_parted (bodies ps) (bodies spacing ++ bodies qs) xs h.begins e all in
    let (n, between, last) = spans_parted (bodies spacing) (bodies qs) xs m e more in
    let front : Ends (bodies ps) from until xs m = record { begins = h.begins; late = h.late; early = h.early; spans = first } in
    let back : Ends (bodies qs) (m + sum least spacing) None xs e = record { begins = n; late = spacing_apart spacing xs m n gaps between; early = tt; spans = last } in
    (m, front, back)

-- the fragments of some items lie one behind the other up to an end exactly when the items have a placement that ends there
chain_exactly : (qs : List Placed) (p : Position) (break at : ℕ) (until : Option ℕ) (xs : List ℕ) (e : ℕ) (body spacing : List Placed)
    → Ordered p qs → (may_end p ≡ true → spacing ≡ []) → All Plain spacing → All Right qs
    → Chain (cut_from break body spacing qs) at until xs e ↔ Ends (bodies (body ++ (spacing ++ qs))) (at + break) until xs e
chain_exactly [] p break at until xs e body spacing may none gaps right =
    let same : body ≡ body ++ (spacing ++ []) = sym (append-nil body) ∙ ap (λ r. body ++ (r ++ [])) (sym (none may)) in
    subst
    (λ l. Chain (cut_from break body spacing []) at until xs e ↔ Ends (bodies l) (at + break) until xs e)
    same
    (λ h. subst (Ends (bodies body) (at + break) until xs) h.2 h.1, λ h. (e, h, refl))
chain_exactly (q ∷ qs) p break at until xs e body spacing (fits, order) none gaps (ok, right) =
    elim (cases_Bool (is_gap q.item)) [
      | inl y ↦
          subst₂
          (λ fs l. Chain fs at until xs e ↔ Ends (bodies (body ++ l)) (at + break) until xs e)
          (sym (cut_gap break body spacing q qs y))
          (append_assoc spacing (q ∷ []) qs)
          (chain_exactly qs (behind q.item) break at until xs e body (spacing ++ q ∷ []) order
          (λ d. absurd (both_ways _ (gap_goes_on q.item y) d)) (All-push Plain spacing q gaps (y, ok)) right)
      | inr n ↦
          elim (cases_Bool (some endless spacing)) [
            | inl y ↦
                let more = λ (m : ℕ). chain_exactly qs (behind q.item) (sum least spacing) m None xs e (q ∷ []) [] order (λ _. refl) tt right in
                subst
                (λ fs. Chain fs at until xs e ↔ Ends (bodies (body ++ (spacing ++ q ∷ qs))) (at + break) until xs e)
                (sym (cut_thing break body spacing q qs n y)) (
                  λ h. ends_joined body spacing (q ∷ qs) (at + break) until xs h.0 e h.1 gaps y ((more h.0).0 h.2),
                  λ h. let (m, first, last) = ends_parted body spacing (q ∷ qs) (at + break) until xs e gaps h in (m, first, (more m).1 last),
                )
            | inr m ↦
                subst₂
                (λ fs l. Chain fs at until xs e ↔ Ends (bodies l) (at + break) until xs e)
                (sym (cut_held break body spacing q qs n m))
                (simp append_assoc)
                (chain_exactly qs (behind q.item) break at until xs e (body ++ (spacing ++ q ∷ [])) [] order (λ _. refl) tt right)
          ]
    ]

-- The limits.

-- what keeps the least place finds none only if it had none and the test failed
pub kept_none : (b : Bool) (o : Option ℕ) (n : ℕ) → cond b (least_with o n) o ≡ None → (o ≡ None) × (b ≡ false)
kept_none true None n e = grind arith
kept_none true (Some m) n e = grind arith
kept_none false o n e = (e, refl)

-- where no fragment is beyond a limit, no item was wrong
pub fragments_none : (fs : List Fragment) (number : ℕ) (o : Option ℕ) → fragment_place number o fs ≡ None → o ≡ None
fragments_none [] number o e = e
fragments_none (f ∷ fs) number o e = (kept_none _ o (first_place f.body) (fragments_none fs (suc number) _ e)).0

-- and no item is
wrong_none : (qs : List Placed) (o : Option ℕ) → wrong_place o qs ≡ None → (o ≡ None) × All Right qs
wrong_none [] o e = (e, tt)
wrong_none (q ∷ qs) o e =
    let (kept, right) = wrong_none qs _ e in
    let (was, ok) = kept_none (wrong q.item) o q.place kept in
    (was, (ok, right))

-- within the limits every item is right
pub limits_right : (qs : List Placed) → limit_place qs ≡ None → All Right qs
limits_right qs e = (wrong_none qs None (fragments_none (fragments 0 qs) 0 (wrong_place None qs) e)).1

-- The theorems.

-- within the limits the search ends at the least end of a placement of all items
pub ends_least : EndsLeast
ends_least qs least until xs order within =
    least_end_is (bodies qs) least until xs (search_end fs 0 until xs) (ends (search_end fs 0 until xs) (search_end_exactly fs 0 until xs))
  where
    fs : List Fragment
    fs = fragments least qs

    exactly : (e : ℕ) → Chain fs 0 until xs e ↔ Ends (bodies qs) least until xs e
    exactly e =
        subst
        (λ n. Chain fs 0 until xs e ↔ Ends (bodies qs) n until xs e)
        (zero-add least)
        (chain_exactly qs start least 0 until xs e [] [] order (λ _. refl) tt (limits_right qs within))

    ends : (r : Option ℕ) → LeastChain fs 0 until xs r → LeastEnd (bodies qs) least until xs r
    ends None none = λ e h. none e ((exactly e).1 h)
    ends (Some e) (chain, best) = ((exactly e).0 chain, λ e' h. best e' ((exactly e').1 h))

-- some placement of the items
abbrev Somewhere : List Item → ℕ → Option ℕ → List ℕ → Type 0
Somewhere items from until xs = (e : ℕ) × Ends items from until xs e

-- there is a least end exactly when there is a placement
pub somewhere : (items : List Item) (from : ℕ) (until : Option ℕ) (xs : List ℕ)
    → Decides (is_some (least_end items from until xs)) (Somewhere items from until xs)
somewhere items from until xs = go (least_end items from until xs) (least_end_exactly items from until xs)
  where
    go : (r : Option ℕ) → LeastEnd items from until xs r → Decides (is_some r) (Somewhere items from until xs)
    go None none = (λ y. absurd (false≢true y), λ h. absurd (none h.0 h.1))
    go (Some e) (ends, first) = (λ _. (e, ends), λ _. refl)

-- a span, with what may stand before and after it, is a placement
pub spans_placement : (r : Reference) (items : List Item) (xs : List ℕ) (s e : ℕ)
    → Spans items xs s e → Allowed r s (length xs - e) → Placement r items xs
spans_placement r items xs s e h ok =
    let there : s + (e - s) ≡ e = omega (arith, h.ordered) in
    let rest : stretch xs s e ++ drop (s + (e - s)) xs ≡ drop s xs = ap (λ l. stretch xs s e ++ l) (sym (drop-drop (e - s) s xs)) ∙ take-append-drop (e - s) (drop s xs) in
    let before : length (take s xs) ≡ s = simp length-take (omega (arith, h.ordered, h.inside)) in
    record {
      before = take s xs;
      stretch = stretch xs s e;
      after = drop e xs;
      whole = sym (take-append-drop s xs) ∙ ap (λ l. take s xs ++ l) (sym rest ∙ ap (λ n. stretch xs s e ++ drop n xs) there);
      allowed = subst₂ (Allowed r) (sym before) (sym (length-drop e xs)) ok;
      cut = h.cut;
    }

-- and a placement is such a span
pub placement_spans : (r : Reference) (items : List Item) (xs : List ℕ)
    → Placement r items xs → (s : ℕ) × (e : ℕ) × Spans items xs s e × Allowed r s (length xs - e)
placement_spans r items xs p =
    let part = p.stretch in
    let s = length p.before in
    let e = s + length part in
    let size : length xs ≡ s + (length part + length p.after) = ap length p.whole ∙ simp length-append in
    let rest : length p.after ≡ length xs - e = omega arith in
    let later : drop s xs ≡ part ++ p.after = ap (λ l. drop s l) p.whole ∙ drop_at p.before (part ++ p.after) s refl in
    let same : part ≡ stretch xs s e = sym (ap (λ l. take (e - s) l) later ∙ take_at part p.after (e - s) (omega arith)) in
    let spans : Spans items xs s e = record { ordered = omega arith; inside = omega arith; cut = subst (Cut items) same p.cut } in
    (s, e, spans, subst (Allowed r s) rest p.allowed)

-- where the bounds on the start are what may stand before, a least end decides as the rule does
pub end_hits : (r : Reference) (items : List Item) (from : ℕ) (until : Option ℕ) (xs : List ℕ)
    → ((s after : ℕ) → ((from ≤ s) × AtMost until s) ↔ Allowed r s after)
    → is_some (least_end items from until xs) ≡ hits r items xs
end_hits r items from until xs bounds =
    same_from_decides
    (is_some (least_end items from until xs))
    (hits r items xs)
    (Decides-like _ there back (somewhere items from until xs))
    (hits_exactly r items xs)
  where
    there : Somewhere items from until xs → Placement r items xs
    there (e, h) = spans_placement r items xs h.begins e h.spans ((bounds h.begins (length xs - e)).0 (h.late, h.early))

    back : Placement r items xs → Somewhere items from until xs
    back h =
        let (s, e, spans, ok) = placement_spans r items xs h in
        let (late, early) = (bounds s (length xs - e)).1 ok in
        (e, record { begins = s; late = late; early = early; spans = spans })

-- from the front
pub front_hits : (least most : ℕ) (items : List Item) (xs : List ℕ) → is_some (least_end items least (Some most) xs) ≡ hits (Front least most) items xs
front_hits least most items xs = end_hits (Front least most) items least (Some most) xs (λ s after. (λ h. omega arith, λ h. omega arith))

-- and anywhere
pub anywhere_hits : (items : List Item) (xs : List ℕ) → is_some (least_end items 0 None xs) ≡ hits Anywhere items xs
anywhere_hits items xs = end_hits Anywhere items 0 None xs (λ s after. (λ _. tt, λ _. (omega arith, tt)))

-- within the limits, searching by fragments decides as the rule does
pub found_exactly : FoundExactly
found_exactly qs least most xs order within = (
  ap is_some (ends_least qs least (Some most) xs order within) ∙ front_hits least most (bodies qs) xs,
  ap is_some (ends_least qs 0 None xs order within) ∙ anywhere_hits (bodies qs) xs,
)
