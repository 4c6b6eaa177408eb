-- The least end through one place of an anchor, from the rows of what is reached on both sides of it.
use Rattle.std.proofs.Common.{◌≡◌, ℕ, ◌+◌, ◌-◌, ◌<◌, ◌≤◌, Bool, true, false, MatchOption, ◌&&◌, ltb, leb, List, reverse, length, take, drop, Some, None, Decides, Option, sym, ap, ◌∙◌, subst, ap₂, ⊎_elim, arith}
use Rattle.std.specs.List.{AllByRecursion as All}
use Rattle.std.proofs.lemmas.Bool.{both_ways, leb-true, le-leb, lt-ltb, and_parts, cases_lt}
use Rattle.patterns.specs.Fragments.{Anchor}
use Rattle.patterns.specs.Grammar.{Placed}
use Rattle.patterns.specs.Patterns.{Item, AtMost, mirrored}
use Rattle.patterns.specs.Search.{stands_at}
use Rattle.patterns.specs.Spans.{Bounded, Spans, Ends, sum_span}
use Rattle.patterns.proofs.Anchors.{spans_at_most, stands_decides, reach_left, reach_right, reach_on, ends_left}
use Rattle.rows.specs.Rows.{member, NoneFrom, FirstFrom}
use Rattle.rows.specs.declared.Row.{Row}
use Rattle.engine.specs.Finding.{Reached, part_of, Start, Sides, LeastThrough}
use Rattle.engine.specs.Reading.{held}
use Rattle.engine.specs.declared.fragment.Fragment.{Fragment}
use Rattle.engine.specs.declared.starts.Starts.{Starts}

-- what is said of a value, weaker
pub on_some : {X : Type 0} (A : Type 0) (Q R : X → Type 0) (o : Option X) → ((x : X) → Q x → R x) → MatchOption o A Q → MatchOption o A R
on_some A Q R None f h = h
on_some A Q R (Some x) f h = f x h

-- Starts.

-- the least distance from a place back to a start that is not past the bound
abbrev pub least_distance : ℕ → Option ℕ → ℕ
least_distance place (Some until) = place - until
least_distance place None = 0

-- so is what a bound gives it
pub least_is : (place n : ℕ) (until : Option ℕ) → MatchOption until (n ≡ 0) (λ u. n ≡ place - u) → n ≡ least_distance place until
least_is place n None h = h
least_is place n (Some u) h = h

-- a start is not past the bound exactly from the least distance on
not_past_bound : (place d : ℕ) (until : Option ℕ) → d ≤ place
    → (AtMost until (place - d) → least_distance place until ≤ d) × (least_distance place until ≤ d → AtMost until (place - d))
not_past_bound place d (Some until) inside = (λ h. omega arith, λ h. omega arith)
not_past_bound place d None inside = (λ h. omega arith, λ h. tt)

-- a row without a member from the least distance on has no start
no_start : (row : Row) (place : ℕ) (s : Starts) → NoneFrom row (least_distance place s.until) → Start row place s → ⊥
unfolding NoneFrom
no_start row place s none h =
    both_ways _ (none h.distance ((not_past_bound place h.distance s.until h.inside).0 h.early)) h.held

-- a row with a first member from the least distance on has a start exactly when that one is near enough
first_start : (row : Row) (place : ℕ) (s : Starts) (d : ℕ) → s.from ≤ place → FirstFrom row (least_distance place s.until) d
    → Decides (leb d (place - s.from)) (Start row place s)
first_start row place s d ordered first = (
  λ y.
      let near = leb-true d (place - s.from) y in
      let inside : d ≤ place = omega arith in
      record {
        distance = d;
        held = first.held;
        inside = inside;
        late = omega arith;
        early = (not_past_bound place d s.until inside).1 first.reached;
      },
  λ h.
      let later = (not_past_bound place h.distance s.until h.inside).0 h.early in
      let fits : d ≤ h.distance =
      ⊎_elim (λ less. absurd (both_ways _ (first.before h.distance later less) h.held)) (λ more. more) (cases_lt h.distance d) in
      le-leb d (place - s.from) (omega (arith, h.late, h.inside)),
)

-- whether it is near enough tells whether the row has a start
pub start_decides : (row : Row) (place least : ℕ) (s : Starts) (first : Option ℕ) (near : Bool) → s.from ≤ place → least ≡ least_distance place s.until
    → MatchOption first (NoneFrom row least) (FirstFrom row least) → MatchOption first (near ≡ false) (λ d. near ≡ leb d (place - s.from)) → Decides near (Start row place s)
start_decides row place least s None near ordered is none answer =
    (λ y. absurd (both_ways _ answer y), λ h. absurd (no_start row place s (subst (NoneFrom row) is none) h))
start_decides row place least s (Some d) near ordered is first answer =
    subst (λ b. Decides b (Start row place s)) (sym answer) (first_start row place s d ordered (subst (λ n. FirstFrom row n d) is first))

-- What is reached before the anchor.

module _ (front : List Item) (xs : List ℕ) (p : ℕ) (starts : Starts) (row : Row) (within : p ≤ length xs) (reached : Reached (mirrored front) (reverse (take p xs)) row) where
  -- a start is one of what stands before the anchor
  start_ends : Start row p starts → Ends front starts.from starts.until xs p
  start_ends s =
      let (small, y) = and_parts (ltb s.distance 1024) _ (sym (reached s.distance) ∙ s.held) in
      (ends_left front starts.from starts.until xs p within).1 (s.distance, s.inside, s.late, s.early, y)

  -- and what stands there has a start, where the items are short
  ends_start : All Bounded front → sum_span front < 1024 → Ends front starts.from starts.until xs p → Start row p starts
  ends_start bounded short h =
      let ordered = h.spans.ordered in
      let same : h.begins ≡ p - (p - h.begins) = omega arith in
      let y = (reach_left front xs h.begins p ordered within).1 h.spans in
      let far = spans_at_most front xs h.begins p bounded h.spans in
      let below : ltb (p - h.begins) 1024 ≡ true = lt-ltb _ _ (omega arith) in
      record {
        distance = p - h.begins;
        held = reached (p - h.begins) ∙ ap₂ ◌&&◌ below y;
        inside = omega arith;
        late = omega (arith, h.late);
        early = subst (AtMost starts.until) same h.early;
      }

-- What is reached behind the anchor.

module _ (back : List Item) (xs : List ℕ) (b : ℕ) (row : Row) (within : b ≤ length xs) (reached : Reached back (drop b xs) row) where
  -- a member is how far the items span
  member_spans : (k : ℕ) → member row k ≡ true → Spans back xs b (b + k)
  member_spans k held =
      let (small, y) = and_parts (ltb k 1024) _ (sym (reached k) ∙ held) in
      (reach_on back xs b k within).0 y

  -- how far short items span is a member
  spans_member : All Bounded back → sum_span back < 1024 → (e : ℕ) → Spans back xs b e → member row (e - b) ≡ true
  spans_member bounded short e h =
      let y = (reach_right back xs b e within h.ordered).1 h in
      let far = spans_at_most back xs b e bounded h in
      let below : ltb (e - b) 1024 ≡ true = lt-ltb _ _ (omega arith) in
      reached (e - b) ∙ ap₂ ◌&&◌ below y

  -- so the first member is the least distance
  first_least : All Bounded back → sum_span back < 1024 → (k : ℕ) → FirstFrom row 0 k → (e : ℕ) → Spans back xs b e → b + k ≤ e
  first_least bounded short k first e h =
      ⊎_elim
      (λ less. absurd (both_ways _ (first.before (e - b) (omega arith) (omega (arith, h.ordered))) (spans_member bounded short e h)))
      (λ more. more)
      (cases_lt e (b + k))

  -- and where there is none, they span nothing
  none_spans : All Bounded back → sum_span back < 1024 → NoneFrom row 0 → (e : ℕ) → Spans back xs b e → ⊥
  unfolding NoneFrom
  none_spans bounded short none e h = both_ways _ (none (e - b) (omega arith)) (spans_member bounded short e h)

-- Both.

module _ (qs mirror : List Placed) (f : Fragment) (a : Anchor) (sides : Sides qs mirror f a) (xs : List ℕ) (p : ℕ)
    (stands : stands_at a.codes xs p ≡ true) (starts : Starts) where
  -- the anchor lies in the list
  pub anchor_inside : p + length f.codes.items ≤ length xs
  anchor_inside = omega (arith, ((stands_decides a.codes xs p).0 stands).0, sides.len)

  -- so does its place
  place_inside : p ≤ length xs
  place_inside = omega (arith, anchor_inside)

  -- and so its end
  end_inside : p + length a.codes ≤ length xs
  end_inside = ((stands_decides a.codes xs p).0 stands).0

  -- a row of the mirrored items is one of what stands before the anchor
  before : (row : Row) (m n : ℕ) → m ≡ length mirror - f.anchor → n ≡ length mirror - f.first
      → Reached (part_of mirror m n) (reverse (take p xs)) row → Reached (mirrored a.front) (reverse (take p xs)) row
  before row m n d e = subst (λ is. Reached is (reverse (take p xs)) row) (ap₂ (part_of mirror) d e ∙ sides.before)

  -- a row of the items from behind the anchor on is one of what stands there
  behind : (row : Row) (b : ℕ) → b ≡ p + length f.codes.items
      → Reached (part_of qs (f.anchor + length f.codes.items) f.end) (drop b xs) row → Reached a.back (drop (p + length a.codes) xs) row
  behind row b d h =
      let there : b ≡ p + length a.codes = d ∙ ap (λ n. p + n) sides.len in
      subst (λ is. Reached is (drop (p + length a.codes) xs) row) sides.behind
      (subst (λ n. Reached (part_of qs (f.anchor + length f.codes.items) f.end) (drop n xs) row) there h)

  -- what stands before the anchor is short
  front_short : sum_span a.front < 1024
  front_short = omega (arith, sides.small.short, sides.len, sides.some)

  -- and what stands behind it
  back_short : sum_span a.back < 1024
  back_short = omega (arith, sides.small.short, sides.len, sides.some)

  -- where there is no start, nothing ends through the anchor
  pub through_no_start : (row : Row) (m n : ℕ) → m ≡ length mirror - f.anchor → n ≡ length mirror - f.first
      → Reached (part_of mirror m n) (reverse (take p xs)) row → (Start row p starts → ⊥) → LeastThrough a starts xs p None
  through_no_start row m n d e reached none =
      λ end h. none (ends_start a.front xs p starts row place_inside (before row m n d e reached) sides.small.front_bounded front_short h.before)

  -- where there is one, the first member of the row behind the anchor gives the least end
  pub through_first : (left right : Row) (m n b : ℕ) → m ≡ length mirror - f.anchor → n ≡ length mirror - f.first → b ≡ p + length f.codes.items
      → Reached (part_of mirror m n) (reverse (take p xs)) left → Start left p starts
      → Reached (part_of qs (f.anchor + length f.codes.items) f.end) (drop b xs) right
      → (first end : Option ℕ) → MatchOption first (NoneFrom right 0) (FirstFrom right 0) → MatchOption first (end ≡ None) (λ k. end ≡ Some (b + k)) → LeastThrough a starts xs p end
  through_first left right m n b d e d' reached start reached' None end none is =
      subst (LeastThrough a starts xs p) (sym is)
      (λ end h. none_spans a.back xs (p + length a.codes) right end_inside (behind right b d' reached') sides.small.back_bounded back_short none end h.behind)
  through_first left right m n b d e d' reached start reached' (Some k) end first is =
      let right_of = behind right b d' reached' in
      let ends = start_ends a.front xs p starts left place_inside (before left m n d e reached) start in
      let spans = member_spans a.back xs (p + length a.codes) right end_inside right_of k first.held in
      let least = first_least a.back xs (p + length a.codes) right end_inside right_of sides.small.back_bounded back_short k first in
      let same : p + length a.codes + k ≡ b + k = omega (arith, sides.len) in
      subst (LeastThrough a starts xs p) (ap Some same ∙ sym is) (record { before = ends; stands = stands; behind = spans }, least)
