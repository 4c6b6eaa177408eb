-- Anchors: what a fragment spans it spans through its anchor, so a search from anchor to anchor finds the least end.
use Rattle.std.proofs.Common.{◌≡◌, ℕ, zero, suc, ◌+◌, ◌-◌, ◌<◌, ◌≤◌, Bool, true, false, cond, ltb, leb, ◌⊎◌, ◌↔◌, List, [], ◌∷◌, ◌++◌, map, reverse, length, take, drop, Some, None, Decides, Option, sym, refl, ap, ◌∙◌, subst, ap₂, subst₂, inl, inr, ⊎_elim, arith, take-add}
use Rattle.std.specs.List.{AllByRecursion as All}
use Rattle.std.proofs.ByRecursion.{All-append, All-weaker}
use Rattle.std.proofs.lemmas.List.{append-nil, append_assoc, map-append, reverse-append, reverse-reverse, length-append, length-take, length-drop, length-reverse, take_at}
use Rattle.std.proofs.lemmas.Bool.{false≢true, true≢false, both_ways, leb-true, leb-false, le-leb, ltb-false, cases_Bool, cases_lt, cond_both, or_cases, or_parts}
use Rattle.std.proofs.lemmas.Bool.Decides.{Decides-like, Decides-and}
use Rattle.patterns.specs.Fragments.{Fragment, fragments, cut_from, bodies, sum, least, span, shortest, longest, some, is_gap, endless, fragment_place, limit_place, first_place}
use Rattle.patterns.specs.Fragments.{Anchor, ended, literal_code, is_literal, literal_runs, better, best, anchor, sum_least}
use Rattle.patterns.specs.Grammar.{Placed}
use Rattle.patterns.specs.Patterns.{Item, literal, any, group, range, other, gap, Among, AtMost, Matches, Cut, matches, mirrored}
use Rattle.patterns.specs.Spans.{Spans, Ends, Bounded, Small, SmallParts, Anchored, NoLess, sum_span}
use Rattle.patterns.specs.Search.{stretch, least_end, stands_at, first_fit_from, first_fit, reaches}
use Rattle.patterns.specs.declared.reference.Reference.{Reference}
use Rattle.patterns.specs.declared.reference.Reference.TheVariants.{Front, Back, Anywhere}
use Rattle.patterns.proofs.Decisions.{same_decides, cuts_decides, matches_decides}
use Rattle.patterns.proofs.Mirrors.{mirrored_twice, cut_one, cut_mirrored}
use Rattle.patterns.proofs.Searches.{length_stretch, spans_joined, spans_parted, LeastEnd, least_end_is, bodies_append, cut_gap, cut_thing, cut_held, kept_none, fragments_none}

-- The anchor is a part of the items.

-- items are the three parts of a run of literals
abbrev pub Splits : List Item → Anchor → Type 0
Splits items a = items ≡ a.front ++ (map literal a.codes ++ a.back)

-- a run of literals in the items has a code, and splits the items
abbrev RunOf : List Item → Anchor → Type 0
RunOf items a = (0 < length a.codes) × Splits items a

-- a run that ends leaves what was read before it and what is left
ended_splits : (items front : List Item) (run : List ℕ) (back : List Item)
    → items ≡ front ++ (map literal run ++ back) → All (RunOf items) (ended front run back)
ended_splits items front [] back e = tt
ended_splits items front (c ∷ cs) back e = ((omega arith, e), tt)

-- an item with a code is that literal
pub code_literal : (i : Item) (c : ℕ) → literal_code i ≡ Some c → i ≡ literal c
code_literal (literal d) c e = cc
code_literal any c e = cc
code_literal (group runs) c e = cc
code_literal (range d inside low high) c e = cc
code_literal (other run) c e = cc
code_literal (gap m n) c e = cc

-- the longest runs of literals are runs of the items that they were read from
runs_split : (items front : List Item) (run : List ℕ) (is : List Item)
    → items ≡ front ++ (map literal run ++ is) → All (RunOf items) (literal_runs front run is)
runs_split items front run [] e = ended_splits items front run [] e
runs_split items front run (i ∷ is) e =
    go (literal_code i) refl (λ c. runs_split items front (run ++ c ∷ []) is) (runs_split items (front ++ (map literal run ++ i ∷ [])) [] is)
  where
    later : List Item
    later = front ++ (map literal run ++ i ∷ [])

    go : (o : Option ℕ) → literal_code i ≡ o
        → ((c : ℕ) → items ≡ front ++ (map literal (run ++ c ∷ []) ++ is) → All (RunOf items) (literal_runs front (run ++ c ∷ []) is))
        → (items ≡ later ++ is → All (RunOf items) (literal_runs later [] is))
        → All
        (RunOf items)
        (elim o [ Some c ↦ literal_runs front (run ++ c ∷ []) is | None ↦ ended front run (i ∷ is) ++ literal_runs later [] is ])
    go (Some c) y longer next =
        longer c (e ∙ ap (λ j. front ++ (map literal run ++ j ∷ is)) (code_literal i c y) ∙ sym (simp (map-append, append_assoc)))
    go None y longer next =
        All-append (RunOf items) (ended front run (i ∷ is)) (literal_runs later [] is) (ended_splits items front run (i ∷ is) e) (next (e ∙ sym (simp append_assoc)))

-- what holds of every run holds of the best
best_holds : (P : Anchor → Type 0) (r : Reference) (old : Anchor) (more : List Anchor) → P old → All P more → P (best r old more)
best_holds P r old [] p ps = p
best_holds P r old (new ∷ more) p (q, ps) =
    best_holds P r (cond (better r old new) new old) more (cond_both (better r old new) new old P (λ _. q) (λ _. p)) ps

-- the items are what stands before the anchor, the anchor and what stands behind it
pub anchor_splits : (r : Reference) (items : List Item) → Splits items (anchor r items)
anchor_splits r items =
    let runs = literal_runs [] [] items in
    let split = All-weaker (RunOf items) (Splits items) (λ a h. h.1) runs (runs_split items [] [] items refl) in
    best_holds (Splits items) r (record { front = items; codes = []; back = [] }) runs (sym (append-nil items)) split

-- what is kept before a run with a code has a code
better_codes : (r : Reference) (old new : Anchor) → 0 < length new.codes → better r old new ≡ false → 0 < length old.codes
better_codes (Front least most) old new h n = omega (arith, leb-false (length old.codes) (length new.codes) n)
better_codes (Back least most) old new h n = omega (arith, ltb-false (length old.codes) (length new.codes) n)
better_codes Anywhere old new h n = omega (arith, leb-false (length old.codes) (length new.codes) n)

-- the best of some runs with codes has a code
best_codes : (r : Reference) (old : Anchor) (more : List Anchor)
    → 0 < length more → All (λ a. 0 < length a.codes) more → 0 < length (best r old more).codes
best_codes r old [] some_run hs = absurd (omega arith)
best_codes r old (new ∷ more) some_run (h, hs) =
    let kept = cond_both (better r old new) new old (λ a. 0 < length a.codes) (λ _. h) (better_codes r old new h) in
    best_holds (λ a. 0 < length a.codes) r (cond (better r old new) new old) more kept hs

-- a run that has begun ends as one
ended_some : (front : List Item) (run : List ℕ) (back : List Item) → 0 < length run → 0 < length (ended front run back)
ended_some front [] back h = absurd (omega arith)
ended_some front (c ∷ cs) back h = omega arith

-- what has no code is no literal
no_code : (i : Item) → literal_code i ≡ None → is_literal i ≡ true → ⊥
no_code (literal c) e y = let z : ◌≡◌ {A = ℕ} 0 1 = cc in omega arith
no_code any e y = false≢true y
no_code (group runs) e y = false≢true y
no_code (range d inside low high) e y = false≢true y
no_code (other run) e y = false≢true y
no_code (gap m n) e y = false≢true y

-- where a run has begun or a literal is left, there is a run
runs_some : (front : List Item) (run : List ℕ) (qs : List Placed)
    → (0 < length run) ⊎ (some is_literal qs ≡ true) → 0 < length (literal_runs front run (bodies qs))
runs_some front run [] (inl h) = ended_some front run [] h
runs_some front run [] (inr y) = absurd (false≢true y)
runs_some front run (q ∷ qs) h =
    go (literal_code q.item) refl (λ c. runs_some front (run ++ c ∷ []) qs) (λ y. runs_some later [] qs (inr y)) h
  where
    later : List Item
    later = front ++ (map literal run ++ q.item ∷ [])

    go : (o : Option ℕ) → literal_code q.item ≡ o
        → ((c : ℕ) → (0 < length (run ++ c ∷ [])) ⊎ (some is_literal qs ≡ true) → 0 < length (literal_runs front (run ++ c ∷ []) (bodies qs)))
        → (some is_literal qs ≡ true → 0 < length (literal_runs later [] (bodies qs)))
        → (0 < length run) ⊎ (some is_literal (q ∷ qs) ≡ true)
        → 0 < length {A = Anchor} (elim o [
          | Some c ↦ literal_runs front (run ++ c ∷ []) (bodies qs)
          | None ↦ ended front run (bodies (q ∷ qs)) ++ literal_runs later [] (bodies qs)
        ])
    go (Some c) e longer next h = longer c (inl (omega (arith, length-append run (c ∷ []))))
    go None e longer next (inl h) =
        omega (arith, ended_some front run (bodies (q ∷ qs)) h, length-append (ended front run (bodies (q ∷ qs))) (literal_runs later [] (bodies qs)))
    go None e longer next (inr y) =
        elim (or_cases (is_literal q.item) (some is_literal qs) y) [
          | inl here ↦ absurd (no_code q.item e here)
          | inr there ↦ omega (arith, next there, length-append (ended front run (bodies (q ∷ qs))) (literal_runs later [] (bodies qs)))
        ]

-- the anchor of a fragment with a literal has a code
pub anchor_codes : (r : Reference) (qs : List Placed) → some is_literal qs ≡ true → 0 < length (anchor r (bodies qs)).codes
anchor_codes r qs y =
    let items = bodies qs in
    let runs = literal_runs [] [] items in
    let coded = All-weaker (RunOf items) (λ a. 0 < length a.codes) (λ a h. h.0) runs (runs_split items [] [] items refl) in
    best_codes r (record { front = items; codes = []; back = [] }) runs (runs_some [] [] qs (inr y)) coded

-- What spans through an anchor.

-- literals cut just their codes
pub cut_literals : (codes xs : List ℕ) → Cut (map literal codes) xs ↔ (xs ≡ codes)
cut_literals [] xs = (λ e. e, λ e. e)
cut_literals (c ∷ cs) xs =
    (λ h. h.2 ∙ ap₂ ◌++◌ h.3 ((cut_literals cs h.1).0 h.4), λ e. (c ∷ [], cs, e, refl, (cut_literals cs cs).1 refl))

-- codes stand at a place exactly when the elements from there on are the codes
pub stands_decides : (codes xs : List ℕ) (p : ℕ)
    → Decides (stands_at codes xs p) ((p + length codes ≤ length xs) × (stretch xs p (p + length codes) ≡ codes))
stands_decides codes xs p =
    Decides-and _ _ (leb-true (p + length codes) (length xs), le-leb (p + length codes) (length xs)) (same_decides (stretch xs p (p + length codes)) codes)

-- literals span just from where their codes stand to behind them
pub spans_literals : (codes xs : List ℕ) (p e : ℕ)
    → Spans (map literal codes) xs p e ↔ ((e ≡ p + length codes) × (stands_at codes xs p ≡ true))
spans_literals codes xs p e = (there, back)
  where
    there : Spans (map literal codes) xs p e → (e ≡ p + length codes) × (stands_at codes xs p ≡ true)
    there h =
        let same : stretch xs p e ≡ codes = (cut_literals codes (stretch xs p e)).0 h.cut in
        let size : e - p ≡ length codes = sym (length_stretch xs p e h.inside) ∙ ap length same in
        let end : e ≡ p + length codes = omega (arith, h.ordered) in
        (end, (stands_decides codes xs p).1 (omega (arith, h.inside), subst (λ n. stretch xs p n ≡ codes) end same))

    back : (e ≡ p + length codes) × (stands_at codes xs p ≡ true) → Spans (map literal codes) xs p e
    back (end, y) =
        let (inside, same) = (stands_decides codes xs p).0 y in
        record {
          ordered = omega arith;
          inside = omega arith;
          cut = (cut_literals codes (stretch xs p e)).1 (subst (λ n. stretch xs p n ≡ codes) (sym end) same);
        }

-- what spans with literals in it spans up to a place where their codes stand, and from behind them on
pub spans_anchored : (front : List Item) (codes : List ℕ) (back : List Item) (xs : List ℕ) (s e : ℕ)
    → Spans (front ++ (map literal codes ++ back)) xs s e
    ↔ ((p : ℕ) × Spans front xs s p × (stands_at codes xs p ≡ true) × Spans back xs (p + length codes) e)
spans_anchored front codes back xs s e = (there, again)
  where
    there : Spans (front ++ (map literal codes ++ back)) xs s e
        → (p : ℕ) × Spans front xs s p × (stands_at codes xs p ≡ true) × Spans back xs (p + length codes) e
    there h =
        let (p, before, more) = spans_parted front (map literal codes ++ back) xs s e h in
        let (m, between, behind) = spans_parted (map literal codes) back xs p e more in
        let (end, y) = (spans_literals codes xs p m).0 between in
        (p, before, y, subst (λ n. Spans back xs n e) end behind)

    again : (p : ℕ) × Spans front xs s p × (stands_at codes xs p ≡ true) × Spans back xs (p + length codes) e
        → Spans (front ++ (map literal codes ++ back)) xs s e
    again (p, before, y, behind) =
        let between = (spans_literals codes xs p (p + length codes)).1 (refl, y) in
        spans_joined front (map literal codes ++ back) xs s p e before (spans_joined (map literal codes) back xs p (p + length codes) e between behind)

-- What items reach.

-- items reach a place of a list exactly when they cut what stands before it
pub reaches_decides : (items : List Item) (xs : List ℕ) (k : ℕ) → Decides (reaches items xs k) ((k ≤ length xs) × Cut items (take k xs))
reaches_decides items xs k = Decides-and _ _ (leb-true k (length xs), le-leb k (length xs)) (cuts_decides items (take k xs))

-- to the right: what spans from a place on reaches from the start of what is left there
pub reach_right : (items : List Item) (xs : List ℕ) (b e : ℕ) → b ≤ length xs → b ≤ e
    → Decides (reaches items (drop b xs) (e - b)) (Spans items xs b e)
reach_right items xs b e within ordered =
    let size = length-drop b xs in
    Decides-like
    (reaches items (drop b xs) (e - b))
    (λ h. record { ordered = ordered; inside = omega arith; cut = h.1 })
    (λ h. (omega (arith, h.inside), h.cut))
    (reaches_decides items (drop b xs) (e - b))

-- the same, by how far
pub reach_on : (items : List Item) (xs : List ℕ) (b n : ℕ) → b ≤ length xs → Decides (reaches items (drop b xs) n) (Spans items xs b (b + n))
reach_on items xs b n within =
    let far : (b + n) - b ≡ n = omega arith in
    subst (λ m. Decides (reaches items (drop b xs) m) (Spans items xs b (b + n))) far (reach_right items xs b (b + n) within (omega arith))

-- the last elements before a place, seen from there, are a stretch reversed
pub stretch_reversed : (xs : List ℕ) (s p : ℕ) → s ≤ p → p ≤ length xs → take (p - s) (reverse (take p xs)) ≡ reverse (stretch xs s p)
stretch_reversed xs s p ordered within =
    let there : s + (p - s) ≡ p = omega arith in
    let parts : take p xs ≡ take s xs ++ stretch xs s p = ap (λ n. take n xs) (sym there) ∙ take-add s (p - s) xs in
    let turned : reverse (take p xs) ≡ reverse (stretch xs s p) ++ reverse (take s xs) = ap reverse parts ∙ reverse-append (take s xs) (stretch xs s p) in
    ap (λ l. take (p - s) l) turned
    ∙ take_at (reverse (stretch xs s p)) (reverse (take s xs)) (p - s) (length-reverse (stretch xs s p) ∙ length_stretch xs s p within)

-- to the left: what spans up to a place reaches, mirrored, from there back
pub reach_left : (items : List Item) (xs : List ℕ) (s p : ℕ) → s ≤ p → p ≤ length xs
    → Decides (reaches (mirrored items) (reverse (take p xs)) (p - s)) (Spans items xs s p)
reach_left items xs s p ordered within =
    Decides-like (reaches (mirrored items) (reverse (take p xs)) (p - s)) there back (reaches_decides (mirrored items) (reverse (take p xs)) (p - s))
  where
    part : List ℕ
    part = stretch xs s p

    seen : take (p - s) (reverse (take p xs)) ≡ reverse part
    seen = stretch_reversed xs s p ordered within

    there : (p - s ≤ length (reverse (take p xs))) × Cut (mirrored items) (take (p - s) (reverse (take p xs))) → Spans items xs s p
    there (fits, c) =
        let turned = cut_mirrored (mirrored items) (reverse part) (subst (Cut (mirrored items)) seen c) in
        record { ordered = ordered; inside = within; cut = subst₂ Cut (mirrored_twice items) (reverse-reverse part) turned }

    back : Spans items xs s p → (p - s ≤ length (reverse (take p xs))) × Cut (mirrored items) (take (p - s) (reverse (take p xs)))
    back h = (simp (length-reverse, length-take) (omega arith), subst (Cut (mirrored items)) (sym seen) (cut_mirrored items part h.cut))

-- so some allowed start leads up to a place exactly when the mirrored items reach back to one
pub ends_left : (items : List Item) (from : ℕ) (until : Option ℕ) (xs : List ℕ) (p : ℕ) → p ≤ length xs
    → Ends items from until xs p
    ↔ ((d : ℕ) × (d ≤ p) × (from ≤ p - d) × AtMost until (p - d) × (reaches (mirrored items) (reverse (take p xs)) d ≡ true))
ends_left items from until xs p within = (there, back)
  where
    there : Ends items from until xs p
        → (d : ℕ) × (d ≤ p) × (from ≤ p - d) × AtMost until (p - d) × (reaches (mirrored items) (reverse (take p xs)) d ≡ true)
    there h =
        let ordered = h.spans.ordered in
        let same : h.begins ≡ p - (p - h.begins) = omega arith in
        let y = (reach_left items xs h.begins p ordered within).1 h.spans in
        (p - h.begins, omega arith, omega (arith, h.late), subst (AtMost until) same h.early, y)

    back : (d : ℕ) × (d ≤ p) × (from ≤ p - d) × AtMost until (p - d) × (reaches (mirrored items) (reverse (take p xs)) d ≡ true)
        → Ends items from until xs p
    back (d, fits, late, early, y) =
        let same : d ≡ p - (p - d) = omega arith in
        let reached = subst (λ n. reaches (mirrored items) (reverse (take p xs)) n ≡ true) same y in
        record { begins = p - d; late = late; early = early; spans = (reach_left items xs (p - d) p (omega arith) within).0 reached }

-- what is reached is spanned from the start
pub reaches_spans : (items : List Item) (xs : List ℕ) (k : ℕ) → Decides (reaches items xs k) (Spans items xs 0 k)
reaches_spans items xs k =
    let same : k - 0 ≡ k = omega arith in
    subst (λ n. Decides (reaches items xs n) (Spans items xs 0 k)) same (reach_right items xs 0 k (omega arith) (omega arith))

-- no items reach the start alone
pub reaches_none : (xs : List ℕ) (k : ℕ) → Decides (reaches [] xs k) (k ≡ 0)
reaches_none xs k =
    Decides-like
    (reaches [] xs k)
    (λ h. omega (arith, sym (length-take k xs) ∙ ap length h.1))
    (λ e. (omega arith, ap (λ n. take n xs) e))
    (reaches_decides [] xs k)

-- one item spans what it matches
pub spans_one : (i : Item) (xs : List ℕ) (s e : ℕ) → Spans (i ∷ []) xs s e ↔ ((s ≤ e) × (e ≤ length xs) × Matches i (stretch xs s e))
spans_one i xs s e = (
  λ h. (h.ordered, h.inside, alone h.cut),
  λ h. record { ordered = h.0; inside = h.1; cut = cut_one i (stretch xs s e) h.2 },
)
  where
    alone : Cut (i ∷ []) (stretch xs s e) → Matches i (stretch xs s e)
    alone (front, rest, d, m, none) = subst (Matches i) (sym (d ∙ ap (λ l. front ++ l) none ∙ append-nil front)) m

-- one item more reaches from some place that the others reach
pub reaches_more : (is : List Item) (i : Item) (xs : List ℕ) (j : ℕ)
    → Decides (reaches (is ++ i ∷ []) xs j)
    ((k : ℕ) × (k ≤ j) × (reaches is xs k ≡ true) × (j ≤ length xs) × (matches i (stretch xs k j) ≡ true))
reaches_more is i xs j = Decides-like (reaches (is ++ i ∷ []) xs j) there back (reaches_spans (is ++ i ∷ []) xs j)
  where
    there : Spans (is ++ i ∷ []) xs 0 j
        → (k : ℕ) × (k ≤ j) × (reaches is xs k ≡ true) × (j ≤ length xs) × (matches i (stretch xs k j) ≡ true)
    there h =
        let (k, before, last) = spans_parted is (i ∷ []) xs 0 j h in
        let (ordered, inside, m) = (spans_one i xs k j).0 last in
        (k, ordered, (reaches_spans is xs k).1 before, inside, (matches_decides i (stretch xs k j)).1 m)

    back : (k : ℕ) × (k ≤ j) × (reaches is xs k ≡ true) × (j ≤ length xs) × (matches i (stretch xs k j) ≡ true) → Spans (is ++ i ∷ []) xs 0 j
    back (k, ordered, y, inside, m) =
        spans_joined is (i ∷ []) xs 0 k j ((reaches_spans is xs k).0 y)
        ((spans_one i xs k j).1 (ordered, inside, (matches_decides i (stretch xs k j)).0 m))

-- How far items span.

-- the same of placed items
pub sum_span_bodies : (qs : List Placed) → sum_span (bodies qs) ≡ sum span qs
sum_span_bodies [] = refl
sum_span_bodies (q ∷ qs) = ap (λ n. span q.item + n) (sum_span_bodies qs)

-- the sum over two parts
pub sum_span_append : (is js : List Item) → sum_span (is ++ js) ≡ sum_span is + sum_span js
sum_span_append [] js = omega arith
sum_span_append (i ∷ is) js = omega (arith, sum_span_append is js)

-- the sum over literals
pub sum_span_literals : (codes : List ℕ) → sum_span (map literal codes) ≡ length codes
sum_span_literals [] = refl
sum_span_literals (c ∷ cs) = omega (arith, sum_span_literals cs)

-- one of some runs is no longer than the longest
among_longest : (xs : List ℕ) (runs : List (List ℕ)) → Among xs runs → length xs ≤ longest runs
among_longest xs [] h = absurd h
among_longest xs (run ∷ runs) (inl e) = omega (arith, ap length e)
among_longest xs (run ∷ runs) (inr h) = omega (arith, among_longest xs runs h)

-- and no shorter than the shortest
among_shortest : (xs : List ℕ) (runs : List (List ℕ)) → Among xs runs → shortest runs ≤ length xs
among_shortest xs [] h = absurd h
among_shortest xs (run ∷ []) (inl e) = omega (arith, ap length e)
among_shortest xs (run ∷ []) (inr h) = absurd h
among_shortest xs (run ∷ next ∷ runs) (inl e) = omega (arith, ap length e)
among_shortest xs (run ∷ next ∷ runs) (inr h) = omega (arith, among_shortest xs (next ∷ runs) h)

-- an item matches nothing longer than its span
pub matches_span : (i : Item) (xs : List ℕ) → Bounded i → Matches i xs → length xs ≤ span i
matches_span (literal c) xs b m = omega (arith, ap length m)
matches_span any xs b m = omega arith
matches_span (group runs) xs b m = among_longest xs runs m
matches_span (range d true low high) xs b m = omega (arith, m.0)
matches_span (range d false low high) xs b m = omega (arith, m.0)
matches_span (other run) xs b m = omega (arith, m.0)
matches_span (gap m (Some n)) xs b h = h.1
matches_span (gap m None) xs b h = absurd (true≢false b)

-- and nothing shorter than its least length
pub matches_least : (i : Item) (xs : List ℕ) → Matches i xs → least i ≤ length xs
matches_least (literal c) xs m = omega (arith, ap length m)
matches_least any xs m = omega arith
matches_least (group runs) xs m = among_shortest xs runs m
matches_least (range d true low high) xs m = omega (arith, m.0)
matches_least (range d false low high) xs m = omega (arith, m.0)
matches_least (other run) xs m = omega (arith, m.0)
matches_least (gap m n) xs h = h.0

-- so what the items cut is no longer than the sum of their spans
cut_span : (items : List Item) (xs : List ℕ) → All Bounded items → Cut items xs → length xs ≤ sum_span items
cut_span [] xs b e = omega (arith, ap length e)
cut_span (i ∷ is) xs (b, bs) (front, rest, e, m, c) =
    omega (arith, ap length e ∙ length-append front rest, matches_span i front b m, cut_span is rest bs c)

-- and no shorter than the sum of their least lengths
cut_least : (items : List Item) (xs : List ℕ) → Cut items xs → sum_least items ≤ length xs
cut_least [] xs e = omega arith
cut_least (i ∷ is) xs (front, rest, e, m, c) =
    omega (arith, ap length e ∙ length-append front rest, matches_least i front m, cut_least is rest c)

-- items without an endless gap span no more than the sum of their spans
pub spans_at_most : (items : List Item) (xs : List ℕ) (s e : ℕ) → All Bounded items → Spans items xs s e → e - s ≤ sum_span items
spans_at_most items xs s e b h = omega (arith, length_stretch xs s e h.inside, cut_span items (stretch xs s e) b h.cut)

-- items span no less than the sum of their least lengths
pub spans_at_least : (items : List Item) (xs : List ℕ) (s e : ℕ) → Spans items xs s e → sum_least items ≤ e - s
spans_at_least items xs s e h = omega (arith, length_stretch xs s e h.inside, cut_least items (stretch xs s e) h.cut)

-- The items of a fragment.

-- a thing is no gap
pub thing_bounded : (i : Item) → is_gap i ≡ false → Bounded i
thing_bounded (literal c) n = refl
thing_bounded any n = refl
thing_bounded (group runs) n = refl
thing_bounded (range d inside low high) n = refl
thing_bounded (other run) n = refl
thing_bounded (gap m n) e = absurd (true≢false e)

-- a spacing without an endless gap has none
spacing_bounded : (spacing : List Placed) → some endless spacing ≡ false → All Bounded (bodies spacing)
spacing_bounded [] n = tt
spacing_bounded (q ∷ qs) n = let (here, later) = or_parts (endless q.item) (some endless qs) n in (here, spacing_bounded qs later)

-- no fragment has an endless gap, since the items are cut there
cut_bounded : (qs : List Placed) (break : ℕ) (body spacing : List Placed)
    → All Bounded (bodies body) → All (λ f. All Bounded (bodies f.body)) (cut_from break body spacing qs)
cut_bounded [] break body spacing b = (b, tt)
cut_bounded (q ∷ qs) break body spacing b =
    elim (cases_Bool (is_gap q.item)) [
      | inl y ↦ rw (cut_gap break body spacing q qs y) (cut_bounded qs break body (spacing ++ q ∷ []) b)
      | inr n ↦
          let thing = thing_bounded q.item n in
          elim (cases_Bool (some endless spacing)) [
            | inl y ↦ rw (cut_thing break body spacing q qs n y) (b, cut_bounded qs (sum least spacing) (q ∷ []) [] (thing, tt))
            | inr m ↦
                let joined : All Bounded (bodies (body ++ (spacing ++ q ∷ []))) =
                simp bodies_append (All-append Bounded (bodies body) (bodies spacing ++ (q.item ∷ [])) b
                (All-append Bounded (bodies spacing) (q.item ∷ []) (spacing_bounded spacing m) (thing, tt))) in
                rw (cut_held break body spacing q qs n m) (cut_bounded qs break (body ++ (spacing ++ q ∷ [])) [] joined)
          ]
    ]

-- the break of the first fragment does not change the bodies
pub any_break : (P : List Placed → Type 0) (qs : List Placed) (a b : ℕ) (body spacing : List Placed)
    → All (λ f. P f.body) (cut_from a body spacing qs) → All (λ f. P f.body) (cut_from b body spacing qs)
any_break P [] a b body spacing = λ h. h
any_break P (q ∷ qs) a b body spacing =
    elim (cases_Bool (is_gap q.item)) [
      | inl y ↦ rw (cut_gap a body spacing q qs y, cut_gap b body spacing q qs y) (any_break P qs a b body (spacing ++ q ∷ []))
      | inr n ↦
          elim (cases_Bool (some endless spacing)) [
            | inl y ↦ rw (cut_thing a body spacing q qs n y, cut_thing b body spacing q qs n y) (λ h. (h.0, h.1))
            | inr m ↦ rw (cut_held a body spacing q qs n m, cut_held b body spacing q qs n m) (any_break P qs a b (body ++ (spacing ++ q ∷ [])) [])
          ]
    ]

-- within the limits no fragment spans more than 1,024
limits_span : (fs : List Fragment) (number : ℕ) (o : Option ℕ) → fragment_place number o fs ≡ None → All (λ f. sum span f.body ≤ 1024) fs
limits_span [] number o e = tt
limits_span (f ∷ fs) number o e =
    let (was, ok) = kept_none _ o (first_place f.body) (fragments_none fs (suc number) _ e) in
    (ltb-false 1024 (sum span f.body) (or_parts (leb 8 number) (ltb 1024 (sum span f.body)) ok).1, limits_span fs (suc number) _ e)

-- the fragments of a pattern within the limits are small
pub fragments_small : (qs : List Placed) (lo : ℕ) → limit_place qs ≡ None → All (λ f. Small (bodies f.body)) (fragments lo qs)
fragments_small qs lo within =
    both (fragments lo qs) (cut_bounded qs lo [] [] tt)
    (any_break (λ l. sum span l ≤ 1024) qs 0 lo [] [] (limits_span (fragments 0 qs) 0 _ within))
  where
    both : (fs : List Fragment) → All (λ f. All Bounded (bodies f.body)) fs → All (λ f. sum span f.body ≤ 1024) fs
        → All (λ f. Small (bodies f.body)) fs
    both [] bs ss = tt
    both (f ∷ fs) (b, bs) (s, ss) = (record { bounded = b; short = omega (arith, sum_span_bodies f.body) }, both fs bs ss)

-- what holds of every item of two parts holds of each part's
all_parts : {X : Type 0} (P : X → Type 0) (xs ys : List X) → All P (xs ++ ys) → All P xs × All P ys
all_parts P [] ys h = (tt, h)
all_parts P (x ∷ xs) ys (p, h) = let (a, b) = all_parts P xs ys h in ((p, a), b)

-- what splits small items has small parts
pub small_parts : (items : List Item) (a : Anchor) → Splits items a → Small items → SmallParts a
small_parts items a e h =
    let literals = map literal a.codes in
    let (front, more) = all_parts Bounded a.front (literals ++ a.back) (subst (All Bounded) e h.bounded) in
    let (codes, back) = all_parts Bounded literals a.back more in
    let whole : sum_span items ≡ sum_span a.front + (sum_span literals + sum_span a.back) =
    ap sum_span e ∙ sum_span_append a.front (literals ++ a.back) ∙ ap (λ n. sum_span a.front + n) (sum_span_append literals a.back) in
    record { front_bounded = front; back_bounded = back; short = omega (arith, h.short, sum_span_literals a.codes) }

-- Where an anchor stands.

-- the first place from one on where codes stand, or none
abbrev pub FirstFit : List ℕ → List ℕ → ℕ → Option ℕ → Type 0
FirstFit codes xs from None = (q : ℕ) → from ≤ q → stands_at codes xs q ≡ true → ⊥
FirstFit codes xs from (Some p) = (from ≤ p) × (stands_at codes xs p ≡ true) × ((q : ℕ) → from ≤ q → stands_at codes xs q ≡ true → p ≤ q)

-- the places from p on are all tried
fit_from : (codes xs : List ℕ) (k p : ℕ) → length xs < p + k → FirstFit codes xs p (first_fit_from codes xs p k)
fit_from codes xs zero p all = λ q l y. omega (arith, ((stands_decides codes xs q).0 y).0)
fit_from codes xs (suc k) p all = go (stands_at codes xs p) refl (first_fit_from codes xs (suc p) k) (fit_from codes xs k (suc p) (omega arith))
  where
    past : stands_at codes xs p ≡ false → (q : ℕ) → p ≤ q → stands_at codes xs q ≡ true → suc p ≤ q
    past n q l y =
        ⊎_elim
        (λ less. less)
        (λ more. let same : q ≡ p = omega arith in absurd (both_ways _ n (subst (λ m. stands_at codes xs m ≡ true) same y)))
        (cases_lt p q)

    go : (b : Bool) → stands_at codes xs p ≡ b → (o : Option ℕ) → FirstFit codes xs (suc p) o
        → FirstFit codes xs p (elim b [ true ↦ Some p | false ↦ o ])
    go true y o more = (omega arith, y, λ q l _. l)
    go false n None more = λ q l y. more q (past n q l y) y
    go false n (Some f) (l, y, first) = (omega arith, y, λ q m z. first q (past n q m z) z)

-- the search for the first fit finds the first
pub first_fit_exactly : (codes xs : List ℕ) (from : ℕ) → FirstFit codes xs from (first_fit codes xs from)
first_fit_exactly codes xs from = fit_from codes xs (suc (length xs) - from) from (omega arith)

-- Least ends through anchors.

-- the best, if there is one, is an end through an anchor before p
abbrev pub Held : List Item → List ℕ → List Item → ℕ → Option ℕ → List ℕ → ℕ → Option ℕ → Type 0
Held front codes back from until xs p None = Unit {0}
Held front codes back from until xs p (Some b) = (q : ℕ) × (q < p) × Anchored front codes back from until xs q b

-- the least end through the anchors that stand before p, or none
pub record BestBefore (front : List Item) (codes : List ℕ) (back : List Item) (from : ℕ) (until : Option ℕ) (xs : List ℕ) (p : ℕ) (best : Option ℕ) : Type 0 where
  pub held : Held front codes back from until xs p best
  pub first : (q e : ℕ) → q < p → Anchored front codes back from until xs q e → NoLess best e

-- what is an end before a place is one before a later place
held_later : (front : List Item) (codes : List ℕ) (back : List Item) (from : ℕ) (until : Option ℕ) (xs : List ℕ) (p p' : ℕ) (best : Option ℕ)
    → p ≤ p' → Held front codes back from until xs p best → Held front codes back from until xs p' best
held_later front codes back from until xs p p' None l h = tt
held_later front codes back from until xs p p' (Some b) l (q, less, a) = (q, omega arith, a)

-- an end no less than the best is no less than a better one
no_less_than : (best : Option ℕ) (b e : ℕ) → AtMost best b → NoLess best e → b ≤ e
no_less_than None b e h n = absurd n
no_less_than (Some c) b e h n = omega arith

module _ (front : List Item) (codes : List ℕ) (back : List Item) (from : ℕ) (until : Option ℕ) (xs : List ℕ) where
  -- every end is an end through an anchor
  pub ends_anchored : (e : ℕ)
      → Ends (front ++ (map literal codes ++ back)) from until xs e ↔ ((p : ℕ) × Anchored front codes back from until xs p e)
  ends_anchored e = (there, again)
    where
      there : Ends (front ++ (map literal codes ++ back)) from until xs e → (p : ℕ) × Anchored front codes back from until xs p e
      there h =
          let (p, before, y, behind) = (spans_anchored front codes back xs h.begins e).0 h.spans in
          (p, record { before = record { begins = h.begins; late = h.late; early = h.early; spans = before }; stands = y; behind = behind })

      again : (p : ℕ) × Anchored front codes back from until xs p e → Ends (front ++ (map literal codes ++ back)) from until xs e
      again (p, a) =
          let start = a.before in
          record {
            begins = start.begins;
            late = start.late;
            early = start.early;
            spans = (spans_anchored front codes back xs start.begins e).1 (p, start.spans, a.stands, a.behind);
          }

  -- at the start: no anchor stands before the least length of what is before it
  pub best_none : (p : ℕ) → p ≤ from + sum_least front → BestBefore front codes back from until xs p None
  best_none p h =
      record {
        held = tt;
        first = λ q e l a.
            let start = a.before in
            omega (arith, start.late, start.spans.ordered, spans_at_least front xs start.begins q start.spans);
      }

  -- on to a later place, where no anchor stands between
  pub best_on : (p p' : ℕ) (best : Option ℕ) → p ≤ p' → ((q : ℕ) → p ≤ q → stands_at codes xs q ≡ true → p' ≤ q)
      → BestBefore front codes back from until xs p best → BestBefore front codes back from until xs p' best
  best_on p p' best l none h =
      record {
        held = held_later front codes back from until xs p p' best l h.held;
        first = λ q e less a.
            ⊎_elim (λ early. h.first q e early a) (λ late. absurd (omega (arith, none q late a.stands))) (cases_lt q p);
      }

  -- past an anchor that gives no less end
  pub best_kept : (p : ℕ) (best : Option ℕ) → ((e : ℕ) → Anchored front codes back from until xs p e → NoLess best e)
      → BestBefore front codes back from until xs p best → BestBefore front codes back from until xs (p + 1) best
  best_kept p best none h =
      record {
        held = held_later front codes back from until xs p (p + 1) best (omega arith) h.held;
        first = λ q e less a.
            ⊎_elim
            (λ early. h.first q e early a)
            (λ late. let same : q ≡ p = omega arith in none e (subst (λ n. Anchored front codes back from until xs n e) same a))
            (cases_lt q p);
      }

  -- past an anchor that gives an end no greater than the best
  pub best_more : (p : ℕ) (best : Option ℕ) (b : ℕ) → Anchored front codes back from until xs p b
      → ((e : ℕ) → Spans back xs (p + length codes) e → b ≤ e) → AtMost best b
      → BestBefore front codes back from until xs p best → BestBefore front codes back from until xs (p + 1) (Some b)
  best_more p best b a least_behind better h =
      record {
        held = (p, omega arith, a);
        first = λ q e less c.
            ⊎_elim
            (λ early. no_less_than best b e better (h.first q e early c))
            (λ late. let same : q ≡ p = omega arith in least_behind e (subst (λ n. Spans back xs (n + length codes) e) same c.behind))
            (cases_lt q p);
      }

  -- what is the best before p and no greater than any end from p on is the least end
  pub best_least : (p : ℕ) (best : Option ℕ) → BestBefore front codes back from until xs p best
      → ((q e : ℕ) → p ≤ q → Anchored front codes back from until xs q e → NoLess best e)
      → LeastEnd (front ++ (map literal codes ++ back)) from until xs best
  best_least p best h later = go best h.held every
    where
      every : (e : ℕ) → Ends (front ++ (map literal codes ++ back)) from until xs e → NoLess best e
      every e ends = let (q, a) = (ends_anchored e).0 ends in ⊎_elim (λ early. h.first q e early a) (λ late. later q e late a) (cases_lt q p)

      go : (best : Option ℕ) → Held front codes back from until xs p best
          → ((e : ℕ) → Ends (front ++ (map literal codes ++ back)) from until xs e → NoLess best e)
          → LeastEnd (front ++ (map literal codes ++ back)) from until xs best
      go None held all = all
      go (Some b) (q, less, a) all = ((ends_anchored b).1 (q, a), all)

  -- at the end: where no anchor stands from p on, the best is the least end
  pub best_all : (items : List Item) → items ≡ front ++ (map literal codes ++ back)
      → (p : ℕ) (best : Option ℕ) → ((q : ℕ) → p ≤ q → stands_at codes xs q ≡ true → ⊥)
      → BestBefore front codes back from until xs p best → best ≡ least_end items from until xs
  best_all items whole p best none h =
      rw whole (least_end_is _ from until xs best (best_least p best h (λ q e l a. absurd (none q l a.stands))))

  -- or sooner: no anchor from p on ends before the best
  pub best_enough : (items : List Item) → items ≡ front ++ (map literal codes ++ back)
      → (p b : ℕ) → b ≤ p + length codes
      → BestBefore front codes back from until xs p (Some b) → Some b ≡ least_end items from until xs
  best_enough items whole p b enough h =
      rw whole (least_end_is _ from until xs (Some b) (best_least p (Some b) h (λ q e l a. omega (arith, a.behind.ordered))))
