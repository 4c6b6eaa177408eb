-- How rows of offsets follow from rows: one step of an item.
use Rattle.std.proofs.Common.{◌≡◌, ℕ, zero, suc, ◌+◌, ◌-◌, ◌<◌, ◌≤◌, ◌⊎◌, inl, inr, Bool, true, false, not, ◌&&◌, ◌||◌, eqb, ltb, leb, List, [], ◌∷◌, ◌++◌, length, take, drop, Some, None, Decides, MatchOption, Option, sym, refl, ap, ◌∙◌, subst, ⊎_elim, append_assoc, append-nil, arith}
use Rattle.std.specs.List.{slice_get}
use Rattle.std.specs.Option.{option_eq}
use Rattle.std.proofs.lemmas.Bool.Decides.{nat_tests, same_from_decides}
use Rattle.std.proofs.lemmas.Bool.{and_from, and_parts, and_right, both_ways, cases_eq, cases_lt, le-leb, leb-true, lt-ltb, ltb-true, eq-eqb, eqb-true, or_cases, or_left, or_right}
use Rattle.patterns.specs.declared.direction.Direction.TheVariants.{FirstOn}
use Rattle.patterns.specs.Patterns.{up_to, Item, literal, any, group, gap, range, other, matches, among, between, same, at_most}
use Rattle.patterns.specs.declared.direction.Direction.{Direction}
use Rattle.patterns.specs.Search.{stretch, reaches}
use Rattle.patterns.proofs.Anchors.{reaches_none, reaches_more}
use Rattle.patterns.proofs.Searches.{length_stretch}
use Rattle.rows.specs.Rows.{member, moved, some_distance, FirstFrom, NoneFrom}
use Rattle.rows.specs.declared.Row.{Row}
use Rattle.rows.proofs.Distances.{reached, from_reached, one_distance}
use Rattle.patterns.specs.Fragments.{bodies}
use Rattle.engine.specs.Finding.{Reached, part_of}
use Rattle.engine.specs.Reading.{held}
use Rattle.engine.specs.Stored.{item_of, items}
use Rattle.engine.specs.Reaching.{matches_at, Led, Stepped}
use Rattle.engine.specs.declared.pattern.PlacedPart.{PlacedPart}
use Rattle.engine.specs.declared.pattern.Pattern.{Pattern}
use Rattle.engine.specs.declared.pattern.Run.{Run}
use Rattle.engine.proofs.Assembling.{items_between}

-- a greatest length, where a gap without one goes to the last offset
abbrev pub Furthest : Option ℕ → ℕ → Type 0
Furthest most last = MatchOption most (last ≡ 1023) (λ m. last ≡ m)

-- a distance that is not too far
near : (most : Option ℕ) (last d : ℕ) → Furthest most last → d ≤ last → at_most most d ≡ true
near None last d e h = refl
near (Some most) last d e h = le-leb d most (omega arith)

-- and the other way
far : (most : Option ℕ) (last d : ℕ) → Furthest most last → d < 1024 → at_most most d ≡ true → d ≤ last
far None last d e s h = omega arith
far (Some most) last d e s h = omega (arith, leb-true d most h)

module _ (row wide on : Row) (xs : List ℕ) (least last len : ℕ)
    (spreads : (j : ℕ) → member wide j ≡ (ltb j 1024 && some_distance row least last j))
    (cut : (j : ℕ) → member on j ≡ (leb j len && member wide j))
    (size : length xs ≡ len) where
  -- an item that matches every list of some lengths leads as far as those lengths
  pub by_lengths : (item : Item)
      → ((ys : List ℕ) → least ≤ length ys → length ys ≤ last → matches item ys ≡ true)
      → ((ys : List ℕ) → length ys < 1024 → matches item ys ≡ true → (least ≤ length ys) × (length ys ≤ last))
      → Stepped item row xs on
  by_lengths item there back j = (
    λ e.
        let outer = and_parts (leb j len) (member wide j) (sym (cut j) ∙ e) in
        let inner = and_parts (ltb j 1024) (some_distance row least last j) (sym (spreads j) ∙ outer.1) in
        let small = ltb-true j 1024 inner.0 in
        let inside = leb-true j len outer.0 in
        let led = reached row least last j inner.1 in
        let long : length (stretch xs (j - led.0) j) ≡ led.0 = length_stretch xs (j - led.0) j (omega arith) ∙ omega arith in
        record {
          origin = j - led.0;
          held = led.4;
          ordered = omega arith;
          small = small;
          inside = omega arith;
          matched = there (stretch xs (j - led.0) j) (omega arith) (omega arith);
        },
    λ h.
        let long = length_stretch xs h.origin j h.inside in
        let fits = back (stretch xs h.origin j) (omega arith) h.matched in
        let same : h.origin ≡ j - (j - h.origin) = omega arith in
        cut j
        ∙ and_from (leb j len) (member wide j) (le-leb j len (omega arith))
        (spreads j
        ∙ and_from (ltb j 1024) (some_distance row least last j) (lt-ltb j 1024 h.small)
        (from_reached row least last j (j - h.origin, omega arith, omega arith, omega arith, subst (λ k. member row k ≡ true) same h.held))),
  )

  -- the row behind a gap
  pub gap_step : (most : Option ℕ) → Furthest most last → Stepped (gap least most) row xs on
  gap_step most e =
      by_lengths (gap least most)
      (λ ys l h. and_from (leb least (length ys)) (at_most most (length ys)) (le-leb least (length ys) l) (near most last (length ys) e h))
      (λ ys s m. let parts = and_parts (leb least (length ys)) (at_most most (length ys)) m in (leb-true least (length ys) parts.0, far most last (length ys) e s parts.1))

-- the row behind any one element
pub any_step : (row wide on : Row) (xs : List ℕ) (len : ℕ) → ((j : ℕ) → member wide j ≡ (ltb j 1024 && moved row 1 j))
    → ((j : ℕ) → member on j ≡ (leb j len && member wide j)) → length xs ≡ len → Stepped any row xs on
any_step row wide on xs len moves cut size =
    by_lengths row wide on xs 1 1 len
    (λ j. moves j ∙ ap (λ t. ltb j 1024 && t) (one_distance row 1 j))
    cut size any
    (λ ys l h. eq-eqb (length ys) 1 (omega arith))
    (λ ys s m. let one = eqb-true (length ys) 1 m in (omega arith, omega arith))

-- Asking about the members of a row.

-- a range matches lists as long as its first run
pub range_length : (d : Direction) (inside : Bool) (low high ys : List ℕ) → matches (range d inside low high) ys ≡ true → length ys ≡ length low
range_length d true low high ys e = eqb-true (length ys) (length low) (and_parts (eqb (length ys) (length low)) (between d low high ys) e).0
range_length d false low high ys e = eqb-true (length ys) (length low) (and_parts (eqb (length ys) (length low)) (not (between d low high ys)) e).0

-- a literal matches lists of one code
pub literal_length : (c : ℕ) (ys : List ℕ) → matches (literal c) ys ≡ true → length ys ≡ 1
literal_length c [] e = absurd (both_ways false refl e)
literal_length c (y ∷ []) e = refl
literal_length c (y ∷ z ∷ ys) e = absurd (both_ways (eqb y c && false) (and_right (eqb y c) false refl) e)

-- a literal matches at an offset if its code stands there
pub literal_at : (xs : List ℕ) (k c : ℕ) → option_eq eqb (slice_get xs k) (Some c) ≡ matches_at (literal c) 1 xs k
literal_at xs k c = let one : k + 1 - k ≡ 1 = omega arith in rw one (go xs k)
  where
    go : (xs : List ℕ) (k : ℕ) → option_eq eqb (slice_get xs k) (Some c) ≡ (leb (k + 1) (length xs) && same (take 1 (drop k xs)) (c ∷ []))
    go [] k = grind (arith, nat_tests)
    go (x ∷ xs) zero = grind (arith, nat_tests)
    go (x ∷ xs) (suc k) = let rest = go xs k in grind (arith, nat_tests)

-- The members that an item of one length matches at, moved on by that length, are those behind the item.
pub kept_step : (item : Item) (n : ℕ) (row asked on : Row) (xs : List ℕ) → ((ys : List ℕ) → matches item ys ≡ true → length ys ≡ n)
    → ((j : ℕ) → member asked j ≡ (member row j && matches_at item n xs j))
    → ((j : ℕ) → member on j ≡ (ltb j 1024 && moved asked n j)) → Stepped item row xs on
unfolding moved
kept_step item n row asked on xs fixed keeps moves j = (
  λ e.
      let outer = and_parts (ltb j 1024) (leb n j && member asked (j - n)) (sym (moves j) ∙ e) in
      let inner = and_parts (leb n j) (member asked (j - n)) outer.1 in
      let far = leb-true n j inner.0 in
      let back : j - n + n ≡ j = omega arith in
      let held = and_parts (member row (j - n)) (matches_at item n xs (j - n)) (sym (keeps (j - n)) ∙ inner.1) in
      let fits = and_parts (leb (j - n + n) (length xs)) (matches item (stretch xs (j - n) (j - n + n))) held.1 in
      let inside = leb-true (j - n + n) (length xs) fits.0 in
      record {
        origin = j - n;
        held = held.0;
        ordered = omega arith;
        small = ltb-true j 1024 outer.0;
        inside = omega arith;
        matched = subst (λ k. matches item (stretch xs (j - n) k) ≡ true) back fits.1;
      },
  λ led.
      let long = length_stretch xs led.origin j led.inside in
      let size = fixed (stretch xs led.origin j) led.matched in
      let ordered = led.ordered in
      let inside = led.inside in
      let at : led.origin ≡ j - n = omega arith in
      let end : j ≡ j - n + n = omega arith in
      let match : matches item (stretch xs (j - n) (j - n + n)) ≡ true =
      subst (λ k. matches item (stretch xs (j - n) k) ≡ true) end (subst (λ k. matches item (stretch xs k j) ≡ true) at led.matched) in
      moves j
      ∙ and_from (ltb j 1024) (leb n j && member asked (j - n)) (lt-ltb j 1024 led.small)
      (and_from (leb n j) (member asked (j - n)) (le-leb n j (omega arith))
      (keeps (j - n)
      ∙ and_from (member row (j - n)) (matches_at item n xs (j - n)) (subst (λ k. member row k ≡ true) at led.held)
      (and_from (leb (j - n + n) (length xs)) (matches item (stretch xs (j - n) (j - n + n))) (le-leb (j - n + n) (length xs) (omega arith)) match))),
)

-- Going through the members of a row.

-- the members of a row are the places that an item leads to from those members of another that stand before `start`
abbrev pub Before : Item → Row → List ℕ → Row → ℕ → Type 0
Before item row xs on start = (j : ℕ) → Decides (member on j) ((led : Led item row xs j) × (led.origin < start))

-- at the start there are none
pub before_none : (item : Item) (row : Row) (xs : List ℕ) (on : Row) → ((j : ℕ) → member on j ≡ false) → Before item row xs on 0
before_none item row xs on none j = (λ e. absurd (both_ways (member on j) (none j) e), λ h. absurd (omega (arith, h.1)))

-- where no member is left, all have been gone through
pub before_all : (item : Item) (row : Row) (xs : List ℕ) (on : Row) (start : ℕ) → NoneFrom row start → Before item row xs on start → Stepped item row xs on
unfolding NoneFrom
before_all item row xs on start none b j = (
  λ e. ((b j).0 e).0,
  λ led. ⊎_elim (λ l. (b j).1 (led, l)) (λ l. absurd (both_ways (member row led.origin) (none led.origin l) led.held)) (cases_lt led.origin start),
)

-- the next member of a row, and an item that matches only lists of n codes
module _ (item : Item) (row : Row) (xs : List ℕ) (on : Row) (n start k : ℕ) (fixed : (ys : List ℕ) → matches item ys ≡ true → length ys ≡ n)
    (first : FirstFrom row start k) (b : Before item row xs on start) where
  -- where an item leads from a member up to the next one
  origins : (j : ℕ) (led : Led item row xs j) → led.origin < k + 1 → (led.origin < start) ⊎ (led.origin ≡ k)
  origins j led l =
      ⊎_elim inl
      (λ past. ⊎_elim inr (λ apart. absurd (both_ways (member row led.origin) (first.before led.origin past (omega arith)) led.held)) (cases_eq led.origin k))
      (cases_lt led.origin start)

  -- from the next member it leads on by n
  on_by : (j : ℕ) (led : Led item row xs j) → led.origin ≡ k → j ≡ k + n
  on_by j led e =
      let long = length_stretch xs led.origin j led.inside in
      let size = fixed (stretch xs led.origin j) led.matched in
      let ordered = led.ordered in
      omega arith

  -- the item matches at the next member: one place more
  pub before_with : (more : Row) → (leb (k + n) (length xs) && matches item (stretch xs k (k + n))) ≡ true
      → ((j : ℕ) → member more j ≡ (member on j || (ltb (k + n) 1024 && eqb j (k + n)))) → Before item row xs more (k + 1)
  before_with more fits is j = (
    λ e.
        ⊎_elim
        (λ old. let p = (b j).0 old in let reached = first.reached in let l = p.1 in (p.0, omega arith))
        (λ new.
        let parts = and_parts (ltb (k + n) 1024) (eqb j (k + n)) new in
        let small = ltb-true (k + n) 1024 parts.0 in
        let here = eqb-true j (k + n) parts.1 in
        let match = and_parts (leb (k + n) (length xs)) (matches item (stretch xs k (k + n))) fits in
        let inside = leb-true (k + n) (length xs) match.0 in (
          record {
            origin = k;
            held = first.held;
            ordered = omega arith;
            small = omega arith;
            inside = omega arith;
            matched = subst (λ m. matches item (stretch xs k m) ≡ true) (sym here) match.1;
          },
          omega arith,
        ))
        (or_cases (member on j) (ltb (k + n) 1024 && eqb j (k + n)) (sym (is j) ∙ e)),
    λ h.
        is j
        ∙ ⊎_elim
        (λ l. or_left (member on j) (ltb (k + n) 1024 && eqb j (k + n)) ((b j).1 (h.0, l)))
        (λ e. let here = on_by j h.0 e in let small = h.0.small in or_right (member on j) (ltb (k + n) 1024 && eqb j (k + n)) (and_from (ltb (k + n) 1024) (eqb j (k + n)) (lt-ltb (k + n) 1024 (omega arith)) (eq-eqb j (k + n) here)))
        (origins j h.0 h.1),
  )

  -- it does not: no place more
  pub before_without : (leb (k + n) (length xs) && matches item (stretch xs k (k + n))) ≡ false → Before item row xs on (k + 1)
  before_without misfit j = (
    λ e. let p = (b j).0 e in let reached = first.reached in let l = p.1 in (p.0, omega arith),
    λ h.
        ⊎_elim
        (λ l. (b j).1 (h.0, l))
        (λ e.
        let here = on_by j h.0 e in
        let inside = h.0.inside in
        absurd
        (both_ways (leb (k + n) (length xs) && matches item (stretch xs k (k + n))) misfit
        (and_from (leb (k + n) (length xs)) (matches item (stretch xs k (k + n))) (le-leb (k + n) (length xs) (omega arith))
        (subst (λ m. matches item (stretch xs k m) ≡ true) here (subst (λ o. matches item (stretch xs o j) ≡ true) e h.0.matched)))))
        (origins j h.0 h.1),
  )

-- items that match the same lists lead to the same places
pub alike : (i k : Item) (row : Row) (xs : List ℕ) (on : Row) → ((ys : List ℕ) → matches i ys ≡ matches k ys) → Stepped i row xs on → Stepped k row xs on
alike i k row xs on e h j = (
  λ t.
      let led = (h j).0 t in
      record { origin = led.origin; held = led.held; ordered = led.ordered; small = led.small; inside = led.inside; matched = sym (e (stretch xs led.origin j)) ∙ led.matched },
  λ led.
      (h j).1
      (record { origin = led.origin; held = led.held; ordered = led.ordered; small = led.small; inside = led.inside; matched = e (stretch xs led.origin j) ∙ led.matched }),
)

-- of lists of one length, only the same one is at most and at least another
both_up_to : (xs ys : List ℕ) → (eqb (length xs) (length ys) && (up_to ys xs && up_to xs ys)) ≡ same xs ys
both_up_to [] [] = refl
both_up_to [] (y ∷ ys) = and_right _ false refl
both_up_to (x ∷ xs) [] = and_right _ false refl
both_up_to (x ∷ xs) (y ∷ ys) = let rest = both_up_to xs ys in grind (arith, nat_tests)

-- a range from a run to itself is the run
pub alone : (run ys : List ℕ) → matches (range FirstOn true run run) ys ≡ same ys run
alone run ys = both_up_to ys run

-- and leaves out all others of its length
pub others : (run ys : List ℕ) → matches (range FirstOn false run run) ys ≡ matches (other run) ys
others run ys = let e = both_up_to ys run in grind (arith, nat_tests)

-- one run more
among_more : (runs : List (List ℕ)) (run ys : List ℕ) → among ys (runs ++ run ∷ []) ≡ (among ys runs || same ys run)
among_more [] run ys = grind (arith, nat_tests)
among_more (r ∷ runs) run ys = let e = among_more runs run ys in grind (arith, nat_tests)

-- a group with one run more leads where it did and where the run does
pub group_more : (runs : List (List ℕ)) (run : List ℕ) (row : Row) (xs : List ℕ) (on by all : Row) → Stepped (group runs) row xs on
    → Stepped (range FirstOn true run run) row xs by → ((j : ℕ) → member all j ≡ (member on j || member by j))
    → Stepped (group (runs ++ run ∷ [])) row xs all
group_more runs run row xs on by all old new is j = (
  λ e.
      ⊎_elim
      (λ t.
      let led = (old j).0 t in
      record { origin = led.origin; held = led.held; ordered = led.ordered; small = led.small; inside = led.inside; matched = among_more runs run (stretch xs led.origin j) ∙ or_left (among (stretch xs led.origin j) runs) (same (stretch xs led.origin j) run) led.matched })
      (λ t.
      let led = (new j).0 t in
      record { origin = led.origin; held = led.held; ordered = led.ordered; small = led.small; inside = led.inside; matched = among_more runs run (stretch xs led.origin j) ∙ or_right (among (stretch xs led.origin j) runs) (same (stretch xs led.origin j) run) (sym (alone run (stretch xs led.origin j)) ∙ led.matched) })
      (or_cases (member on j) (member by j) (sym (is j) ∙ e)),
  λ led.
      is j
      ∙ ⊎_elim
      (λ t. or_left (member on j) (member by j) ((old j).1 (record { origin = led.origin; held = led.held; ordered = led.ordered; small = led.small; inside = led.inside; matched = t })))
      (λ t. or_right (member on j) (member by j) ((new j).1 (record { origin = led.origin; held = led.held; ordered = led.ordered; small = led.small; inside = led.inside; matched = alone run (stretch xs led.origin j) ∙ t })))
      (or_cases (among (stretch xs led.origin j) runs) (same (stretch xs led.origin j) run) (sym (among_more runs run (stretch xs led.origin j)) ∙ led.matched)),
)

-- Going through the items.

-- no items reach the start alone
pub row_none : (xs : List ℕ) (none row : Row) → ((j : ℕ) → member none j ≡ false)
    → ((j : ℕ) → member row j ≡ (member none j || (ltb 0 1024 && eqb j 0))) → Reached [] xs row
row_none xs none row empty is j =
    same_from_decides (member row j) (ltb j 1024 && reaches [] xs j)
    (λ e. ⊎_elim (λ t. absurd (both_ways (member none j) (empty j) t)) (λ t. eqb-true j 0 t) (or_cases (member none j) (eqb j 0) (sym (is j) ∙ e)), λ e. is j ∙ or_right (member none j) (eqb j 0) (eq-eqb j 0 e))
    (λ e. (reaches_none xs j).0 (and_parts (ltb j 1024) (reaches [] xs j) e).1, λ e. and_from (ltb j 1024) (reaches [] xs j) (lt-ltb j 1024 (omega arith)) ((reaches_none xs j).1 e))

-- one item more
pub row_more : (is : List Item) (i : Item) (xs : List ℕ) (row on : Row) → Reached is xs row → Stepped i row xs on → Reached (is ++ i ∷ []) xs on
row_more is i xs row on old step j =
    same_from_decides (member on j) (ltb j 1024 && reaches (is ++ i ∷ []) xs j) (step j) (
      λ e.
          let parts = and_parts (ltb j 1024) (reaches (is ++ i ∷ []) xs j) e in
          let small = ltb-true j 1024 parts.0 in
          let by = (reaches_more is i xs j).0 parts.1 in
          record {
            origin = by.0;
            held = old by.0 ∙ and_from (ltb by.0 1024) (reaches is xs by.0) (lt-ltb by.0 1024 (omega (arith, by.1))) by.2;
            ordered = by.1;
            small = small;
            inside = by.3;
            matched = by.4;
          },
      λ led.
          and_from (ltb j 1024) (reaches (is ++ i ∷ []) xs j) (lt-ltb j 1024 led.small)
          ((reaches_more is i xs j).1 (led.origin, led.ordered, (and_parts (ltb led.origin 1024) (reaches is xs led.origin) (sym (old led.origin) ∙ led.held)).1, led.inside, led.matched)),
    )

-- from an empty row nothing more is reached
pub row_stops : (is js : List Item) (xs : List ℕ) (row : Row) → Reached is xs row → ((j : ℕ) → member row j ≡ false) → Reached (is ++ js) xs row
row_stops is [] xs row old none = subst (λ l. Reached l xs row) (sym (append-nil is)) old
row_stops is (i ∷ js) xs row old none =
    let stays : Stepped i row xs row = λ j. (λ e. absurd (both_ways (member row j) (none j) e), λ led. absurd (both_ways (member row led.origin) (none led.origin) led.held)) in
    subst (λ l. Reached l xs row) (append_assoc is (i ∷ []) js) (row_stops (is ++ i ∷ []) js xs row (row_more is i xs row row old stays) none)

-- the items of parts that follow each other
pub bodies_append : (codes : List ℕ) (runs : List Run) (ps qs : List PlacedPart)
    → bodies (items codes runs (ps ++ qs)) ≡ bodies (items codes runs ps) ++ bodies (items codes runs qs)
bodies_append codes runs [] qs = refl
bodies_append codes runs (p ∷ ps) qs = ap (λ is. item_of codes runs p.part ∷ is) (bodies_append codes runs ps qs)

-- what parts of a pattern from one place to another reach, as its items
pub reached_held : (p : Pattern) (from to : ℕ) (slice : List PlacedPart) → slice ≡ p.parts.items → (xs : List ℕ) (row : Row)
    → Reached (bodies (items p.codes.items p.runs.items (take (to - from) (drop from slice)))) xs row → Reached (part_of (held p) from to) xs row
reached_held p from to slice same xs row =
    subst (λ is. Reached is xs row)
    (ap (λ l. bodies (items p.codes.items p.runs.items (take (to - from) (drop from l)))) same
    ∙ ap bodies (items_between p.codes.items p.runs.items p.parts.items from (to - from)))
