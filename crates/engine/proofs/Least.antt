-- The least end of a fragment's placement, from one place where its anchor stands to the next.
use Rattle.std.proofs.Common.{◌≡◌, ℕ, ◌+◌, ◌<◌, ◌≤◌, min, true, leb, ◌⊎◌, inl, inr, refl, List, length, Some, None, Option, sym, ap, ◌∙◌, subst, ⊎_elim, arith}
use Rattle.std.proofs.lemmas.Bool.{cases_lt, cond_both, leb-false}
use Rattle.patterns.specs.Fragments as spec
use Rattle.patterns.specs.Fragments.{Anchor, anchor, bodies}
use Rattle.patterns.specs.Patterns.{AtMost}
use Rattle.patterns.specs.Search.{first_fit, least_end, stands_at}
use Rattle.patterns.specs.Spans.{Anchored, NoLess, sum_span}
use Rattle.patterns.proofs.Anchors.{BestBefore, FirstFit, first_fit_exactly, anchor_splits, stands_decides, spans_at_most, best_none, best_on, best_kept, best_more, best_all, best_least}
use Rattle.patterns.proofs.Searches.{least_end_is}
use Rattle.engine.specs.Codes.{not_past, ShiftsOf}
use Rattle.engine.specs.Finding.{last_place_of, last_useful_of, Bounds, LeastThrough, Sides, part_of}
use Rattle.engine.specs.Openings.{Excluded, OpeningOf}
use Rattle.engine.specs.Reading.{held}
use Rattle.engine.specs.Said.{Searches}
use Rattle.engine.specs.declared.fragment.Fragment.{Fragment}
use Rattle.engine.specs.declared.opening.Opening.{Opening}
use Rattle.engine.specs.declared.oriented.Oriented.{Oriented}
use Rattle.engine.specs.declared.starts.Starts.{Starts}
use Rattle.engine.proofs.Smallest.{smaller_of}
use Rattle.engine.proofs.Anchored.{codes_long, front_is, sides_of}
use Rattle.engine.proofs.Openings.{through_excluded}

-- the least end through the places of an anchor before one, or none, where no place past the last one gives a smaller end
pub record Best (a : Anchor) (starts : Starts) (xs : List ℕ) (place last : ℕ) (best : Option ℕ) : Type 0 where
  pub before : BestBefore a.front a.codes a.back starts.from starts.until xs place best
  pub beyond : (q e : ℕ) → last < q → Anchored a.front a.codes a.back starts.from starts.until xs q e → NoLess best e

-- no place that is near enough behind a start is past the last place
last_far : (until : Option ℕ) (far start place : ℕ) → AtMost until start → place ≤ start + far → place ≤ 4294967295 → place ≤ last_place_of until far
last_far None far start place early near inside = inside
last_far (Some most) far start place early near inside = omega arith

-- past the last useful place, an anchor gives no smaller end
pub useful_far : (last : ℕ) (best : Option ℕ) (len place : ℕ) → last_useful_of last best len < place → (last < place) ⊎ NoLess best (place + len)
useful_far last None len place past = inl past
useful_far last (Some end) len place past = ⊎_elim (λ far. inl far) (λ near. inr (omega arith)) (cases_lt last place)

-- a place more
best_past : (a : Anchor) (starts : Starts) (xs : List ℕ) (p : ℕ) (best end : Option ℕ) → LeastThrough a starts xs p end
    → BestBefore a.front a.codes a.back starts.from starts.until xs p best → BestBefore a.front a.codes a.back starts.from starts.until xs (p + 1) (smaller_of best end)
best_past a starts xs p None None none h = best_kept a.front a.codes a.back starts.from starts.until xs p None (λ e x. absurd (none e x)) h
best_past a starts xs p (Some b) None none h = best_kept a.front a.codes a.back starts.from starts.until xs p (Some b) (λ e x. absurd (none e x)) h
best_past a starts xs p None (Some e) (x, least) h = best_more a.front a.codes a.back starts.from starts.until xs p None e x least tt h
best_past a starts xs p (Some b) (Some e) (x, least) h =
    ⊎_elim
    (λ less.
    let same : b ≡ min b e = omega arith in
    subst (λ n. BestBefore a.front a.codes a.back starts.from starts.until xs (p + 1) (Some n)) same
    (best_kept a.front a.codes a.back starts.from starts.until xs p (Some b) (λ e' y. omega (arith, least e' y.behind)) h))
    (λ more.
    let same : e ≡ min b e = omega arith in
    subst (λ n. BestBefore a.front a.codes a.back starts.from starts.until xs (p + 1) (Some n)) same
    (best_more a.front a.codes a.back starts.from starts.until xs p (Some b) e x least more h))
    (cases_lt b e)

-- beside none, what there is is the smaller
smaller_none : (best : Option ℕ) → best ≡ smaller_of best None
smaller_none None = refl
smaller_none (Some b) = refl

-- what is no less than the best is no less than a smaller one
no_less_smaller : (best end : Option ℕ) (e : ℕ) → NoLess best e → NoLess (smaller_of best end) e
no_less_smaller None end e h = absurd h
no_less_smaller (Some b) None e h = h
no_less_smaller (Some b) (Some c) e h = omega arith

-- and so is what is no less than that
no_less_more : (best : Option ℕ) (d e : ℕ) → d ≤ e → NoLess best d → NoLess best e
no_less_more None d e l h = absurd h
no_less_more (Some b) d e l h = omega arith

-- the first place from one on and not past the last where codes stand, or none
abbrev NextFit : List ℕ → List ℕ → ℕ → ℕ → Option ℕ → Type 0
NextFit codes xs place last None = (q : ℕ) → place ≤ q → q ≤ last → stands_at codes xs q ≡ true → ⊥
NextFit codes xs place last (Some p) = FirstFit codes xs place (Some p)

-- the first place, if it is not past the last, is it
next_within : (codes xs : List ℕ) (place last : ℕ) (o : Option ℕ) → FirstFit codes xs place o → NextFit codes xs place last (not_past last o)
next_within codes xs place last None none = λ q l k y. none q l y
next_within codes xs place last (Some p) first =
    cond_both (leb p last) (Some p) None (NextFit codes xs place last) (λ _. first)
    (λ past q l k y. omega (arith, leb-false p last past, first.2 q l y))

module _ (sequence : Oriented) (f : Fragment) (g : spec.Fragment) (s : Searches sequence f g) (starts : Starts) (xs : List ℕ) where
  -- the anchor of the fragment's items
  abbrev a : Anchor
  a = anchor sequence.reference (bodies g.body)

  -- what stands on its sides
  pub sides : Sides (held sequence.pattern) (held sequence.mirror) f a
  sides = sides_of sequence.reference (held sequence.pattern) (held sequence.mirror) f g s

  -- the fragment's bounds are in order
  pub bounds_of : (count : ℕ) → length (held sequence.pattern) ≡ count → Bounds count f
  bounds_of count e = record { before = s.holds.ordered.0; behind = s.holds.ordered.1; inside = omega (arith, s.holds.ordered.2) }

  -- what stands before the anchor is short
  front_short : sum_span a.front < 1024
  front_short = omega (arith, sides.small.short, s.coded)

  module _ (o : Opening) (opening : OpeningOf (part_of (held sequence.pattern) f.first f.anchor) o) where
    -- the opening is that of what stands before the anchor
    opens_front : OpeningOf a.front o
    opens_front = subst (λ is. OpeningOf is o) (sym (front_is sequence.reference (held sequence.pattern) (held sequence.mirror) f g s)) opening

    -- where the literal that the fragment begins with does not stand near enough before a place, nothing ends through an anchor there
    pub none_through : (p : ℕ) → Excluded o xs p → LeastThrough a starts xs p None
    none_through p = through_excluded a starts xs p o opens_front sides.small.front_bounded front_short

    -- an anchor stands no further behind its start than the opening is far
    before_near : (q e : ℕ) → Anchored a.front a.codes a.back starts.from starts.until xs q e → (start : ℕ) × AtMost starts.until start × (q ≤ start + o.far) × (q ≤ length xs)
    before_near q e x =
        let start = x.before in
        let near = spans_at_most a.front xs start.begins q sides.small.front_bounded start.spans in
        let inside = ((stands_decides a.codes xs q).0 x.stands).0 in
        (start.begins, start.early, omega (arith, front_short, opens_front.far, start.spans.ordered), omega arith)

    -- no place before the first one, and none past the last
    pub best_begins : (place last : ℕ) → place ≡ starts.from + f.lead → last ≡ last_place_of starts.until o.far → length xs ≤ 4294967295 → Best a starts xs place last None
    best_begins place last e is few =
        record {
          before = best_none a.front a.codes a.back starts.from starts.until xs place (omega (arith, s.holds.leads));
          beyond = λ q end past x.
              let (start, early, near, inside) = before_near q end x in
              omega (arith, last_far starts.until o.far start q early near (omega arith));
        }

  -- where there is no first place, there is no placement
  pub none_begins : length xs ≤ 4294967295 → 4294967295 < starts.from + f.lead → None ≡ least_end (bodies g.body) starts.from starts.until xs
  none_begins few far =
      best_all a.front a.codes a.back starts.from starts.until xs (bodies g.body) (anchor_splits sequence.reference (bodies g.body)) (starts.from + f.lead) None
      (λ q l y. omega (arith, ((stands_decides a.codes xs q).0 y).0)) (best_none a.front a.codes a.back starts.from starts.until xs (starts.from + f.lead) (omega (arith, s.holds.leads)))

  module _ (codes : List ℕ) (stored : codes ≡ f.codes.items) (place last : ℕ) (fit : Option ℕ) (found : ShiftsOf f.shifts codes → fit ≡ not_past last (first_fit codes xs place)) where
    -- the next place of the anchor
    next_place : NextFit a.codes xs place last fit
    next_place =
        let same : codes ≡ a.codes = stored ∙ s.holds.codes in
        let table : ShiftsOf f.shifts codes = subst (ShiftsOf f.shifts) (sym same) s.holds.shifts in
        subst (NextFit a.codes xs place last) (sym (found table ∙ ap (λ cs. not_past last (first_fit cs xs place)) same))
        (next_within a.codes xs place last (first_fit a.codes xs place) (first_fit_exactly a.codes xs place))

    -- where there is none, the best so far is the least end
    pub best_ends : (best : Option ℕ) → fit ≡ None → Best a starts xs place last best → best ≡ least_end (bodies g.body) starts.from starts.until xs
    best_ends best e h =
        let none : NextFit a.codes xs place last None = subst (NextFit a.codes xs place last) e next_place in
        rw (anchor_splits sequence.reference (bodies g.body))
        (least_end_is _ starts.from starts.until xs best
        (best_least a.front a.codes a.back starts.from starts.until xs place best h.before
        (λ q end l x. ⊎_elim (λ past. h.beyond q end past x) (λ within. absurd (none q l within x.stands)) (cases_lt last q))))

    module _ (p : ℕ) (is : fit ≡ Some p) where
      -- it is the first one
      first : FirstFit a.codes xs place (Some p)
      first = subst (NextFit a.codes xs place last) is next_place

      -- there is a place behind it
      pub next_before : length xs ≤ 4294967295 → p < 4294967295
      next_before few = omega (arith, ((stands_decides a.codes xs p).0 first.1).0, s.coded)

      -- with the least end through it, the best so far is that before the place behind it
      pub best_next : (best end new : Option ℕ) (next last' : ℕ) → (stands_at a.codes xs p ≡ true → LeastThrough a starts xs p end)
          → new ≡ smaller_of best end → next ≡ p + 1 → ((q : ℕ) → last' < q → (last < q) ⊎ NoLess new (q + length f.codes.items))
          → Best a starts xs place last best → Best a starts xs next last' new
      best_next best end new next last' least is_new is_next narrow h =
          let on = best_on a.front a.codes a.back starts.from starts.until xs place p best first.0 first.2 h.before in
          record {
            before = rw (is_new, is_next) (best_past a starts xs p best end (least first.1) on);
            beyond = λ q e past x.
                ⊎_elim
                (λ far. rw is_new (no_less_smaller best end e (h.beyond q e far x)))
                (λ no_less. no_less_more new (q + length f.codes.items) e (omega (arith, x.behind.ordered, codes_long sequence.reference (held sequence.pattern) (held sequence.mirror) f g s)) no_less)
                (narrow q past);
          }

      -- where nothing ends through it, the best so far is that before the place behind it
      pub best_stays : (best : Option ℕ) (next : ℕ) → LeastThrough a starts xs p None → next ≡ p + 1 → Best a starts xs place last best → Best a starts xs next last best
      best_stays best next none is_next h = best_next best None best next last (λ _. none) (smaller_none best) is_next (λ q past. inl past) h
