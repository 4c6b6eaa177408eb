-- The search from the back: the fragments of the mirrored items are the mirrored fragments, from the last to the first.
use Rattle.std.proofs.Common.{◌≡◌, ℕ, suc, ◌+◌, ◌≤◌, min, max, Bool, true, false, not, ◌&&◌, ◌||◌, eqb, ltb, leb, ◌⊎◌, List, [], ◌∷◌, ◌++◌, map, reverse, length, Some, None, Option, sym, refl, ap, ◌∙◌, subst, inl, inr, arith}
use Rattle.std.specs.List.{AllByRecursion as All}
use Rattle.std.proofs.ByRecursion.{All-push, All-weaker, All-map}
use Rattle.std.proofs.lemmas.List.{append-nil, append_assoc, reverse-reverse, length-append, length-map, length-reverse}
use Rattle.std.proofs.lemmas.Bool.{false≢true, both_ways, leb-false, lt-leb, le-ltb, cases_Bool, or_parts, or_from}
use Rattle.std.proofs.lemmas.Bool.Decides.{same_from_decides, Decides-like}
use Rattle.patterns.specs.Fragments.{Fragment, fragments, cut_from, mirrored_placed, bodies, sum, least, span, shortest, longest, some, is_gap, endless, wrong, wrong_place, fragment_place, limit_place, first_place, is_literal}
use Rattle.patterns.specs.Grammar.{Placed, Position, start, gap_allowed, may_end, allowed, behind, Ordered}
use Rattle.patterns.specs.Patterns.{Item, literal, any, group, range, other, gap, same, up_to, reversed_runs, mirrored_item, mirrored, hits}
use Rattle.patterns.specs.Search.{FoundFromBack}
use Rattle.patterns.specs.declared.reference.Reference.TheVariants.{Front, Back}
use Rattle.patterns.specs.Spans.{Small}
use Rattle.patterns.proofs.Anchors.{thing_bounded, fragments_small, sum_span_bodies}
use Rattle.patterns.proofs.Decisions.{same_decides}
use Rattle.patterns.proofs.Mirrors.{mirrored_item_twice, compared_turned, mirrored_alike}
use Rattle.patterns.proofs.Searches.{bodies_append, cut_gap, cut_thing, cut_held, Right, kept_none, fragments_none, limits_right, found_exactly}

-- Mirrored items.

-- the shortest of reversed runs is as long
shortest_reversed : (runs : List (List ℕ)) → shortest (reversed_runs runs) ≡ shortest runs
shortest_reversed [] = refl
shortest_reversed (run ∷ []) = length-reverse run
shortest_reversed (run ∷ next ∷ runs) = λ k. min (length-reverse run k) (shortest_reversed (next ∷ runs) k)

-- and the longest
longest_reversed : (runs : List (List ℕ)) → longest (reversed_runs runs) ≡ longest runs
longest_reversed [] = refl
longest_reversed (run ∷ runs) = λ k. max (length-reverse run k) (longest_reversed runs k)

-- a mirrored item takes as many elements at least
pub least_mirrored : (i : Item) → least (mirrored_item i) ≡ least i
least_mirrored (literal c) = refl
least_mirrored any = refl
least_mirrored (group runs) = shortest_reversed runs
least_mirrored (range d inside low high) = length-reverse low
least_mirrored (other run) = length-reverse run
least_mirrored (gap m n) = refl

-- and spans as many
pub span_mirrored : (i : Item) → span (mirrored_item i) ≡ span i
span_mirrored (literal c) = refl
span_mirrored any = refl
span_mirrored (group runs) = longest_reversed runs
span_mirrored (range d inside low high) = length-reverse low
span_mirrored (other run) = length-reverse run
span_mirrored (gap m (Some n)) = refl
span_mirrored (gap m None) = refl

-- a mirrored gap is a gap
pub is_gap_mirrored : (i : Item) → is_gap (mirrored_item i) ≡ is_gap i
is_gap_mirrored (literal c) = refl
is_gap_mirrored any = refl
is_gap_mirrored (group runs) = refl
is_gap_mirrored (range d inside low high) = refl
is_gap_mirrored (other run) = refl
is_gap_mirrored (gap m n) = refl

-- and has an upper end where the gap has one
pub endless_mirrored : (i : Item) → endless (mirrored_item i) ≡ endless i
endless_mirrored (literal c) = refl
endless_mirrored any = refl
endless_mirrored (group runs) = refl
endless_mirrored (range d inside low high) = refl
endless_mirrored (other run) = refl
endless_mirrored (gap m (Some n)) = refl
endless_mirrored (gap m None) = refl

-- reversed lists are the same exactly when the lists are
pub same_reversed : (xs ys : List ℕ) → same (reverse xs) (reverse ys) ≡ same xs ys
same_reversed xs ys =
    same_from_decides
    (same (reverse xs) (reverse ys))
    (same xs ys)
    (Decides-like _ (λ e. sym (reverse-reverse xs) ∙ ap reverse e ∙ reverse-reverse ys) (λ e. ap reverse e) (same_decides (reverse xs) (reverse ys)))
    (same_decides xs ys)

-- a mirrored item is wrong exactly when the item is
pub wrong_mirrored : (i : Item) → wrong (mirrored_item i) ≡ wrong i
wrong_mirrored (literal c) = refl
wrong_mirrored any = refl
wrong_mirrored (group runs) = refl
wrong_mirrored (range d inside low high) =
    λ k. not ((eqb (length-reverse low k) (length-reverse high k) && up_to (compared_turned d low k) (compared_turned d high k)) && not (same_reversed low high k))
wrong_mirrored (other run) = refl
wrong_mirrored (gap m (Some n)) = refl
wrong_mirrored (gap m None) = refl

-- Mirrored lists of placed items.

-- a placed item, mirrored
abbrev mirror : Placed → Placed
mirror q = record { place = q.place; item = mirrored_item q.item }

-- two parts change places
pub mirrored_placed_append : (ps qs : List Placed) → mirrored_placed (ps ++ qs) ≡ mirrored_placed qs ++ mirrored_placed ps
mirrored_placed_append [] qs = sym (append-nil (mirrored_placed qs))
mirrored_placed_append (p ∷ ps) qs =
    ap (λ l. l ++ (mirror p ∷ [])) (mirrored_placed_append ps qs) ∙ append_assoc (mirrored_placed qs) (mirrored_placed ps) (mirror p ∷ [])

-- what is mirrored twice is as it was
pub mirrored_placed_twice : (qs : List Placed) → mirrored_placed (mirrored_placed qs) ≡ qs
mirrored_placed_twice [] = refl
mirrored_placed_twice (q ∷ qs) =
    mirrored_placed_append (mirrored_placed qs) (mirror q ∷ [])
    ∙ (λ k. record { place = q.place; item = mirrored_item_twice q.item k } ∷ mirrored_placed_twice qs k)

-- the items are mirrored without their places
pub bodies_mirrored : (qs : List Placed) → bodies (mirrored_placed qs) ≡ mirrored (bodies qs)
bodies_mirrored [] = refl
bodies_mirrored (q ∷ qs) = bodies_append (mirrored_placed qs) (mirror q ∷ []) ∙ ap (λ l. l ++ (mirrored_item q.item ∷ [])) (bodies_mirrored qs)

-- what holds of every mirrored item holds of every item of the mirrored list
all_mirrored : (P : Placed → Type 0) (qs : List Placed) → All (λ q. P (mirror q)) qs → All P (mirrored_placed qs)
all_mirrored P [] h = tt
all_mirrored P (q ∷ qs) (p, h) = All-push P (mirrored_placed qs) (mirror q) (all_mirrored P qs h) p

-- a sum over one more item
pub sum_push : (f : Item → ℕ) (qs : List Placed) (q : Placed) → sum f (qs ++ q ∷ []) ≡ sum f qs + f q.item
sum_push f [] q = omega arith
sum_push f (p ∷ ps) q = omega (arith, sum_push f ps q)

-- a sum over mirrored items
sum_mirrored : (f : Item → ℕ) → ((i : Item) → f (mirrored_item i) ≡ f i) → (qs : List Placed) → sum f (mirrored_placed qs) ≡ sum f qs
sum_mirrored f alike [] = refl
sum_mirrored f alike (q ∷ qs) = omega (arith, sum_push f (mirrored_placed qs) (mirror q), alike q.item, sum_mirrored f alike qs)

-- a test of one more item
some_push : (p : Item → Bool) (qs : List Placed) (q : Placed) → some p (qs ++ q ∷ []) ≡ (p q.item || some p qs)
some_push p [] q = refl
some_push p (r ∷ rs) q = ap (λ b. p r.item || b) (some_push p rs q) ∙ swapped (p r.item) (p q.item) (some p rs)
  where
    swapped : (a b c : Bool) → (a || (b || c)) ≡ (b || (a || c))
    swapped true true c = refl
    swapped true false c = refl
    swapped false b c = refl

-- a test of mirrored items
some_mirrored : (p : Item → Bool) → ((i : Item) → p (mirrored_item i) ≡ p i) → (qs : List Placed) → some p (mirrored_placed qs) ≡ some p qs
some_mirrored p alike [] = refl
some_mirrored p alike (q ∷ qs) =
    some_push p (mirrored_placed qs) (mirror q) ∙ (λ k. alike q.item k || some_mirrored p alike qs k)

-- From a thing to a thing.

-- an item that is no gap
abbrev Thing : Placed → Type 0
Thing q = is_gap q.item ≡ false

-- one thing, or items between two things
abbrev Framed : (List Placed → Type 0) → List Placed → Type 0
Framed P qs =
    ((t : Placed) × Thing t × (qs ≡ t ∷ []))
    ⊎ ((f : Placed) × (mid : List Placed) × (t : Placed) × Thing f × P mid × Thing t × (qs ≡ f ∷ (mid ++ t ∷ [])))

-- a mirrored thing is a thing
thing_mirrored : (q : Placed) → Thing q → Thing (mirror q)
thing_mirrored q n = is_gap_mirrored q.item ∙ n

-- the mirrored items are from a thing to a thing too
framed_mirrored : (P : List Placed → Type 0) → ((mid : List Placed) → P mid → P (mirrored_placed mid))
    → (qs : List Placed) → Framed P qs → Framed P (mirrored_placed qs)
framed_mirrored P keeps qs (inl (t, n, e)) = inl (mirror t, thing_mirrored t n, ap mirrored_placed e)
framed_mirrored P keeps qs (inr (f, mid, t, m, p, n, e)) =
    inr (
      mirror t,
      mirrored_placed mid,
      mirror f,
      thing_mirrored t n,
      keeps mid p,
      thing_mirrored f m,
      ap mirrored_placed e ∙ ap (λ l. l ++ (mirror f ∷ [])) (mirrored_placed_append mid (t ∷ [])),
    )

-- what may stand first is a thing
first_thing : (i : Item) → allowed start i ≡ true → is_gap i ≡ false
first_thing (literal c) y = refl
first_thing any y = refl
first_thing (group runs) y = refl
first_thing (range d inside low high) y = refl
first_thing (other run) y = refl
first_thing (gap m n) y = absurd (false≢true y)

-- what may stand last is a thing
last_thing : (i : Item) → may_end (behind i) ≡ true → is_gap i ≡ false
last_thing (literal c) y = refl
last_thing any y = refl
last_thing (group runs) y = refl
last_thing (range d inside low high) y = refl
last_thing (other run) y = refl
last_thing (gap m n) y = absurd (false≢true y)

-- a thing may stand anywhere
thing_allowed : (p : Position) (i : Item) → is_gap i ≡ false → (allowed p i ≡ true) × (may_end (behind i) ≡ true)
thing_allowed p (literal c) n = (refl, refl)
thing_allowed p any n = (refl, refl)
thing_allowed p (group runs) n = (refl, refl)
thing_allowed p (range d inside low high) n = (refl, refl)
thing_allowed p (other run) n = (refl, refl)
thing_allowed p (gap l m) n = absurd (both_ways _ n refl)

-- behind an item a gap may stand
gap_behind : (i : Item) → gap_allowed (behind i) ≡ true
gap_behind (literal c) = refl
gap_behind any = refl
gap_behind (group runs) = refl
gap_behind (range d inside low high) = refl
gap_behind (other run) = refl
gap_behind (gap m n) = refl

-- where a gap may stand, any item may
all_allowed : (p : Position) (i : Item) → gap_allowed p ≡ true → allowed p i ≡ true
all_allowed p (literal c) y = refl
all_allowed p any y = refl
all_allowed p (group runs) y = refl
all_allowed p (range d inside low high) y = refl
all_allowed p (other run) y = refl
all_allowed p (gap m n) y = y

-- there, items before a thing are in order
ordered_to : (p : Position) (qs : List Placed) (t : Placed) → gap_allowed p ≡ true → Thing t → Ordered p (qs ++ t ∷ [])
ordered_to p [] t y n = thing_allowed p t.item n
ordered_to p (q ∷ qs) t y n = (all_allowed p q.item y, ordered_to (behind q.item) qs t (gap_behind q.item) n)

-- items in order end in a thing
ordered_last : (p : Position) (q : Placed) (qs : List Placed)
    → Ordered p (q ∷ qs) → (mid : List Placed) × (t : Placed) × Thing t × (q ∷ qs ≡ mid ++ t ∷ [])
ordered_last p q [] (a, y) = ([], q, last_thing q.item y, refl)
ordered_last p q (r ∷ rs) (a, order) =
    let (mid, t, n, e) = ordered_last (behind q.item) r rs order in
    (q ∷ mid, t, n, ap (λ l. q ∷ l) e)

-- a pattern's items are from a thing to a thing
ordered_framed : (qs : List Placed) → Ordered start qs → Framed (λ _. Unit {0}) qs
ordered_framed [] y = absurd (false≢true y)
ordered_framed (q ∷ []) (a, y) = inl (q, first_thing q.item a, refl)
ordered_framed (q ∷ r ∷ rs) (a, order) =
    let (mid, t, n, e) = ordered_last (behind q.item) r rs order in
    inr (q, mid, t, first_thing q.item a, tt, n, ap (λ l. q ∷ l) e)

-- and items from a thing to a thing are a pattern's
framed_ordered : (qs : List Placed) → Framed (λ _. Unit {0}) qs → Ordered start qs
framed_ordered qs (inl (t, n, e)) = subst (Ordered start) (sym e) (thing_allowed start t.item n)
framed_ordered qs (inr (f, mid, t, m, u, n, e)) =
    subst (Ordered start) (sym e) ((thing_allowed start f.item m).0, ordered_to (behind f.item) mid t (gap_behind f.item) n)

-- so the mirrored items are in order
pub ordered_mirrored : (qs : List Placed) → Ordered start qs → Ordered start (mirrored_placed qs)
ordered_mirrored qs order = framed_ordered (mirrored_placed qs) (framed_mirrored (λ _. Unit {0}) (λ _ u. u) qs (ordered_framed qs order))

-- What the fragments of some items are.

-- an item that is a gap
abbrev Gap : Placed → Type 0
Gap q = is_gap q.item ≡ true

-- the items of a fragment: from a thing to a thing, with no endless gap
abbrev Tight : List Placed → Type 0
Tight qs = Framed (λ mid. some endless mid ≡ false) qs

-- what stands behind a fragment's items: a spacing of which one is endless, the items of the next, and so on
abbrev Behind : List Placed → List (List Placed) → Type 0
Behind more [] = more ≡ []
Behind more (b ∷ bs) =
    (spacing : List Placed) × (rest : List Placed) × (more ≡ spacing ++ (b ++ rest)) × All Gap spacing × (some endless spacing ≡ true) × Tight b × Behind rest bs

-- the items are those of some fragments, with such spacings between them
abbrev Parts : List Placed → List (List Placed) → Type 0
Parts qs [] = ⊥
Parts qs (b ∷ bs) = (more : List Placed) × (qs ≡ b ++ more) × Tight b × Behind more bs

-- the items of each fragment
abbrev pub pieces : List Fragment → List (List Placed)
pieces fs = map (λ (f : Fragment). f.body) fs

-- a test of two parts
some_append : (p : Item → Bool) (ps qs : List Placed) → some p ps ≡ false → some p qs ≡ false → some p (ps ++ qs) ≡ false
some_append p [] qs m n = n
some_append p (q ∷ ps) qs m n =
    let (a, b) = or_parts (p q.item) (some p ps) m in
    or_from (p q.item) (some p (ps ++ qs)) a (some_append p ps qs b n)

-- a fragment grows by a spacing without an endless gap and a thing
tight_push : (b spacing : List Placed) (q : Placed) → Tight b → some endless spacing ≡ false → Thing q → Tight (b ++ (spacing ++ q ∷ []))
tight_push b spacing q (inl (t, n, e)) m k = inr (t, spacing, q, n, m, k, ap (λ l. l ++ (spacing ++ q ∷ [])) e)
tight_push b spacing q (inr (f, mid, t, n, p, o, e)) m k =
    inr (
      f,
      mid ++ t ∷ spacing,
      q,
      n,
      some_append endless mid (t ∷ spacing) p (or_from (endless t.item) (some endless spacing) (thing_bounded t.item o) m),
      k,
      ap (λ l. l ++ (spacing ++ q ∷ [])) e ∙ ap (λ l. f ∷ l) (simp append_assoc),
    )

-- a fragment before others
parts_front : (b spacing rest : List Placed) (bs : List (List Placed))
    → Tight b → All Gap spacing → some endless spacing ≡ true → Parts rest bs → Parts (b ++ (spacing ++ rest)) (b ∷ bs)
parts_front b spacing rest [] h gaps y p = absurd p
parts_front b spacing rest (c ∷ cs) h gaps y (more, e, k, p) = (spacing ++ rest, refl, h, (spacing, more, ap (λ l. spacing ++ l) e, gaps, y, k, p))

-- the fragments that the cut makes are such parts
cut_parts : (qs : List Placed) (p : Position) (break : ℕ) (body spacing : List Placed)
    → Ordered p qs → (may_end p ≡ true → spacing ≡ []) → Tight body → All Gap spacing
    → Parts (body ++ (spacing ++ qs)) (pieces (cut_from break body spacing qs))
cut_parts [] p break body spacing may none h gaps = ([], ap (λ r. body ++ (r ++ [])) (none may), h, refl)
cut_parts (q ∷ qs) p break body spacing (fits, order) none h gaps =
    elim (cases_Bool (is_gap q.item)) [
      | inl y ↦
          subst
          (λ l. Parts (body ++ l) (pieces (cut_from break body spacing (q ∷ qs))))
          (append_assoc spacing (q ∷ []) qs)
          (rw (cut_gap break body spacing q qs y) (cut_parts qs (behind q.item) break body (spacing ++ q ∷ []) order
          (λ e. absurd (both_ways _ (last_thing q.item e) y)) h (All-push Gap spacing q gaps y)))
      | inr n ↦
          elim (cases_Bool (some endless spacing)) [
            | inl y ↦
                rw
                (cut_thing break body spacing q qs n y)
                (parts_front body spacing (q ∷ qs) (pieces (cut_from (sum least spacing) (q ∷ []) [] qs)) h gaps y
                (cut_parts qs (behind q.item) (sum least spacing) (q ∷ []) [] order (λ _. refl) (inl (q, n, refl)) tt))
            | inr m ↦
                let whole : (body ++ (spacing ++ q ∷ [])) ++ qs ≡ body ++ (spacing ++ q ∷ qs) = simp append_assoc in
                subst
                (λ l. Parts l (pieces (cut_from break body spacing (q ∷ qs))))
                whole
                (rw (cut_held break body spacing q qs n m) (cut_parts qs (behind q.item) break (body ++ (spacing ++ q ∷ [])) [] order
                (λ _. refl) (tight_push body spacing q h m n) tt))
          ]
    ]

-- so are the fragments of a pattern
fragments_parts : (qs : List Placed) (lo : ℕ) → Ordered start qs → Parts qs (pieces (fragments lo qs))
fragments_parts [] lo y = absurd (false≢true y)
fragments_parts (q ∷ qs) lo (a, order) =
    let n = first_thing q.item a in
    rw (cut_held lo [] [] q qs n refl) (cut_parts qs (behind q.item) lo (q ∷ []) [] order (λ _. refl) (inl (q, n, refl)) tt)

-- No other parts are.

-- items without an endless gap, up to a thing, join the fragment
cut_joins : (mid : List Placed) (t : Placed) (more : List Placed) (break : ℕ) (body spacing : List Placed)
    → some endless mid ≡ false → some endless spacing ≡ false → Thing t
    → cut_from break body spacing (mid ++ t ∷ more) ≡ cut_from break (body ++ (spacing ++ (mid ++ t ∷ []))) [] more
cut_joins [] t more break body spacing m r n = cut_held break body spacing t more n r
cut_joins (q ∷ mid) t more break body spacing m r n =
    let (here, later) = or_parts (endless q.item) (some endless mid) m in
    elim (cases_Bool (is_gap q.item)) [
      | inl y ↦
          cut_gap break body spacing q (mid ++ t ∷ more) y
          ∙ cut_joins mid t more break body (spacing ++ q ∷ []) later (some_append endless spacing (q ∷ []) r (or_from (endless q.item) false here refl)) n
          ∙ ap (λ l. cut_from break (body ++ l) [] more) (append_assoc spacing (q ∷ []) (mid ++ t ∷ []))
      | inr k ↦
          let whole : (body ++ (spacing ++ q ∷ [])) ++ (mid ++ t ∷ []) ≡ body ++ (spacing ++ (q ∷ (mid ++ t ∷ []))) = simp append_assoc in
          cut_held break body spacing q (mid ++ t ∷ more) k r
          ∙ cut_joins mid t more break (body ++ (spacing ++ q ∷ [])) [] later refl n
          ∙ ap (λ l. cut_from break l [] more) whole
    ]

-- gaps join the spacing
cut_row : (gaps more : List Placed) (break : ℕ) (body spacing : List Placed)
    → All Gap gaps → cut_from break body spacing (gaps ++ more) ≡ cut_from break body (spacing ++ gaps) more
cut_row [] more break body spacing h = ap (λ l. cut_from break body l more) (sym (append-nil spacing))
cut_row (q ∷ gaps) more break body spacing (y, h) =
    cut_gap break body spacing q (gaps ++ more) y
    ∙ cut_row gaps more break body (spacing ++ q ∷ []) h
    ∙ ap (λ l. cut_from break body l more) (append_assoc spacing (q ∷ []) gaps)

-- a fragment's first item, and the rest, which joins it
tight_joins : (b : List Placed) → Tight b
    → (q : Placed) × (rest : List Placed) × Thing q × (b ≡ q ∷ rest)
    × ((break : ℕ) (more : List Placed) → cut_from break (q ∷ []) [] (rest ++ more) ≡ cut_from break (q ∷ rest) [] more)
tight_joins b (inl (t, n, e)) = (t, [], n, e, λ break more. refl)
tight_joins b (inr (f, mid, t, n, m, k, e)) = (
  f,
  mid ++ t ∷ [],
  n,
  e,
  λ break more.
      ap (λ l. cut_from break (f ∷ []) [] l) (append_assoc mid (t ∷ []) more) ∙ cut_joins mid t more break (f ∷ []) [] m refl k,
)

-- the first fragment
cut_first : (b more : List Placed) (break : ℕ) → Tight b → cut_from break [] [] (b ++ more) ≡ cut_from break b [] more
cut_first b more break h =
    let (q, rest, n, e, joins) = tight_joins b h in
    subst
    (λ l. cut_from break [] [] (l ++ more) ≡ cut_from break l [] more)
    (sym e)
    (cut_held break [] [] q (rest ++ more) n refl ∙ joins break more)

-- a later one
cut_next : (b more : List Placed) (break : ℕ) (body spacing : List Placed) → Tight b → some endless spacing ≡ true
    → cut_from break body spacing (b ++ more) ≡ record { break = break; body = body } ∷ cut_from (sum least spacing) b [] more
cut_next b more break body spacing h y =
    let (q, rest, n, e, joins) = tight_joins b h in
    subst
    (λ l. cut_from break body spacing (l ++ more) ≡ record { break = break; body = body } ∷ cut_from (sum least spacing) l [] more)
    (sym e)
    (cut_thing break body spacing q (rest ++ more) n y ∙ ap (λ fs. record { break = break; body = body } ∷ fs) (joins (sum least spacing) more))

-- what stands behind a fragment is cut into its parts
cut_pieces : (bs : List (List Placed)) (b more : List Placed) (break : ℕ) → Behind more bs → pieces (cut_from break b [] more) ≡ b ∷ bs
cut_pieces [] b more break e = ap (λ l. pieces (cut_from break b [] l)) e
cut_pieces (c ∷ cs) b more break (spacing, rest, e, gaps, y, h, p) =
    ap (λ l. pieces (cut_from break b [] l)) e
    ∙ ap pieces (cut_row spacing (c ++ rest) break b [] gaps ∙ cut_next c rest break b spacing h y)
    ∙ ap (λ l. b ∷ l) (cut_pieces cs c rest (sum least spacing) p)

-- the parts of some items are the items of their fragments
parts_fragments : (qs : List Placed) (bs : List (List Placed)) (lo : ℕ) → Parts qs bs → pieces (fragments lo qs) ≡ bs
parts_fragments qs [] lo p = absurd p
parts_fragments qs (b ∷ bs) lo (more, e, h, p) =
    ap (λ l. pieces (fragments lo l)) e ∙ ap pieces (cut_first b more lo h) ∙ cut_pieces bs b more lo p

-- The fragments of the mirrored items.

-- parts, mirrored, from the last to the first
abbrev pub mirrored_pieces : List (List Placed) → List (List Placed)
mirrored_pieces [] = []
mirrored_pieces (b ∷ bs) = mirrored_pieces bs ++ (mirrored_placed b ∷ [])

-- one more fragment behind others
parts_push : (qs : List Placed) (bs : List (List Placed)) (spacing c : List Placed)
    → Parts qs bs → All Gap spacing → some endless spacing ≡ true → Tight c → Parts (qs ++ (spacing ++ c)) (bs ++ c ∷ [])
parts_push qs [] spacing c p gaps y h = absurd p
parts_push qs (b ∷ bs) spacing c (more, e, k, p) gaps y h =
    (more ++ (spacing ++ c), ap (λ l. l ++ (spacing ++ c)) e ∙ append_assoc b more (spacing ++ c), k, further bs more p)
  where
    further : (bs : List (List Placed)) (more : List Placed) → Behind more bs → Behind (more ++ (spacing ++ c)) (bs ++ c ∷ [])
    further [] more e = (spacing, [], ap (λ l. l ++ (spacing ++ c)) e ∙ ap (λ l. spacing ++ l) (sym (append-nil c)), gaps, y, h, refl)
    further (d ∷ ds) more (between, rest, e, g, z, k, p) =
        let whole : (between ++ (d ++ rest)) ++ (spacing ++ c) ≡ between ++ (d ++ (rest ++ (spacing ++ c))) = simp append_assoc in
        (between, rest ++ (spacing ++ c), ap (λ l. l ++ (spacing ++ c)) e ∙ whole, g, z, k, further ds rest p)

-- a fragment's items, mirrored, are a fragment's
tight_mirrored : (b : List Placed) → Tight b → Tight (mirrored_placed b)
tight_mirrored b h = framed_mirrored (λ mid. some endless mid ≡ false) (λ mid n. some_mirrored endless endless_mirrored mid ∙ n) b h

-- a spacing, mirrored, is one
gaps_mirrored : (spacing : List Placed) → All Gap spacing → All Gap (mirrored_placed spacing)
gaps_mirrored spacing gaps = all_mirrored Gap spacing (All-weaker Gap (λ q. Gap (mirror q)) (λ q y. is_gap_mirrored q.item ∙ y) spacing gaps)

-- the parts of the mirrored items are the mirrored parts
parts_mirrored : (bs : List (List Placed)) (qs : List Placed) → Parts qs bs → Parts (mirrored_placed qs) (mirrored_pieces bs)
parts_mirrored [] qs p = absurd p
parts_mirrored (b ∷ []) qs (more, e, h, p) =
    let same : qs ≡ b = e ∙ ap (λ l. b ++ l) p ∙ append-nil b in
    ([], ap mirrored_placed same ∙ sym (append-nil (mirrored_placed b)), tight_mirrored b h, refl)
parts_mirrored (b ∷ c ∷ cs) qs (more, e, h, (spacing, rest, d, gaps, y, k, p)) =
    let whole : qs ≡ b ++ (spacing ++ (c ++ rest)) = e ∙ ap (λ l. b ++ l) d in
    let turned_round : mirrored_placed (b ++ (spacing ++ (c ++ rest))) ≡ mirrored_placed (c ++ rest) ++ (mirrored_placed spacing ++ mirrored_placed b) =
    mirrored_placed_append b (spacing ++ (c ++ rest))
    ∙ ap (λ l. l ++ mirrored_placed b) (mirrored_placed_append spacing (c ++ rest))
    ∙ append_assoc (mirrored_placed (c ++ rest)) (mirrored_placed spacing) (mirrored_placed b) in
    subst
    (λ l. Parts l (mirrored_pieces (b ∷ c ∷ cs)))
    (sym (ap mirrored_placed whole ∙ turned_round))
    (parts_push (mirrored_placed (c ++ rest)) (mirrored_pieces (c ∷ cs)) (mirrored_placed spacing) (mirrored_placed b)
    (parts_mirrored (c ∷ cs) (c ++ rest) (rest, refl, k, p))
    (gaps_mirrored spacing gaps) (some_mirrored endless endless_mirrored spacing ∙ y) (tight_mirrored b h))

-- so the fragments of the mirrored items are the mirrored fragments, from the last to the first
pub fragments_mirrored : (qs : List Placed) (lo lo' : ℕ) → Ordered start qs
    → pieces (fragments lo (mirrored_placed qs)) ≡ mirrored_pieces (pieces (fragments lo' qs))
fragments_mirrored qs lo lo' order =
    let parts = parts_mirrored (pieces (fragments lo' qs)) qs (fragments_parts qs lo' order) in
    parts_fragments (mirrored_placed qs) (mirrored_pieces (pieces (fragments lo' qs))) lo parts

-- The limits.

-- within the limits there are at most eight fragments
limits_count : (fs : List Fragment) (number : ℕ) (o : Option ℕ) → number ≤ 8 → fragment_place number o fs ≡ None → number + length fs ≤ 8
limits_count [] number o h e = omega arith
limits_count (f ∷ fs) number o h e =
    let (was, ok) = kept_none _ o (first_place f.body) (fragments_none fs (suc number) _ e) in
    let below = leb-false 8 number (or_parts (leb 8 number) (ltb 1024 (sum span f.body)) ok).0 in
    omega (arith, limits_count fs (suc number) _ (omega arith) e)

-- at most eight fragments that span at most 1,024 are within the limits
count_limits : (fs : List Fragment) (number : ℕ) → number + length fs ≤ 8 → All (λ b. sum span b ≤ 1024) (pieces fs) → fragment_place number None fs ≡ None
count_limits [] number h spans = refl
count_limits (f ∷ fs) number h (s, spans) =
    let ok : (leb 8 number || ltb 1024 (sum span f.body)) ≡ false = or_from _ _ (lt-leb 8 number (omega arith)) (le-ltb 1024 (sum span f.body) s) in
    rw ok (count_limits fs (suc number) (omega arith) spans)

-- right items have no wrong place
right_none : (qs : List Placed) → All Right qs → wrong_place None qs ≡ None
right_none [] h = refl
right_none (q ∷ qs) (ok, h) = rw ok (right_none qs h)

-- as many mirrored parts as parts
length_mirrored_pieces : (bs : List (List Placed)) → length (mirrored_pieces bs) ≡ length bs
length_mirrored_pieces [] = refl
length_mirrored_pieces (b ∷ bs) = omega (arith, length-append (mirrored_pieces bs) (mirrored_placed b ∷ []), length_mirrored_pieces bs)

-- what holds of every mirrored part
all_mirrored_pieces : (P : List Placed → Type 0) (bs : List (List Placed)) → All (λ b. P (mirrored_placed b)) bs → All P (mirrored_pieces bs)
all_mirrored_pieces P [] h = tt
all_mirrored_pieces P (b ∷ bs) (p, h) = All-push P (mirrored_pieces bs) (mirrored_placed b) (all_mirrored_pieces P bs h) p

-- within the limits the mirrored items are right
pub right_mirrored : (qs : List Placed) → limit_place qs ≡ None → All Right (mirrored_placed qs)
right_mirrored qs within =
    all_mirrored Right qs (All-weaker Right (λ q. Right (mirror q)) (λ q ok. wrong_mirrored q.item ∙ ok) qs (limits_right qs within))

-- within the limits each mirrored part spans at most 1,024
spans_mirrored : (qs : List Placed) → limit_place qs ≡ None → All (λ b. sum span b ≤ 1024) (mirrored_pieces (pieces (fragments 0 qs)))
spans_mirrored qs within =
    all_mirrored_pieces (λ b. sum span b ≤ 1024) (pieces fs)
    (All-map (λ b. sum span (mirrored_placed b) ≤ 1024) (λ (f : Fragment). f.body) fs
    (All-weaker (λ f. Small (bodies f.body)) (λ f. sum span (mirrored_placed f.body) ≤ 1024) short fs (fragments_small qs 0 within)))
  where
    fs : List Fragment
    fs = fragments 0 qs

    short : (f : Fragment) → Small (bodies f.body) → sum span (mirrored_placed f.body) ≤ 1024
    short f h = omega (arith, h.short, sum_span_bodies f.body, sum_mirrored span span_mirrored f.body)

-- the mirrored items are within the limits where the items are
pub limits_mirrored : (qs : List Placed) → Ordered start qs → limit_place qs ≡ None → limit_place (mirrored_placed qs) ≡ None
limits_mirrored qs order within =
    let fs = fragments 0 qs in
    let gs = fragments 0 (mirrored_placed qs) in
    let mirrors : pieces gs ≡ mirrored_pieces (pieces fs) = fragments_mirrored qs 0 0 order in
    let count : length gs ≡ length fs =
    sym (length-map gs (λ (f : Fragment). f.body)) ∙ ap length mirrors ∙ length_mirrored_pieces (pieces fs) ∙ length-map fs (λ (f : Fragment). f.body) in
    let few : 0 + length gs ≤ 8 = omega (arith, count, limits_count fs 0 (wrong_place None qs) (omega arith) within) in
    ap (λ o. fragment_place 0 o gs) (right_none (mirrored_placed qs) (right_mirrored qs within))
    ∙ count_limits gs 0 few (subst (All (λ b. sum span b ≤ 1024)) (sym mirrors) (spans_mirrored qs within))

-- Literals.

-- a mirrored literal is a literal
is_literal_mirrored : (i : Item) → is_literal (mirrored_item i) ≡ is_literal i
is_literal_mirrored (literal c) = refl
is_literal_mirrored any = refl
is_literal_mirrored (group runs) = refl
is_literal_mirrored (range d inside low high) = refl
is_literal_mirrored (other run) = refl
is_literal_mirrored (gap m n) = refl

-- some item of a list is a literal
abbrev LiteralIn : List Placed → Type 0
LiteralIn qs = some is_literal qs ≡ true

-- what holds of every part holds of every fragment
all_pieces : (P : List Placed → Type 0) (fs : List Fragment) → All P (pieces fs) → All (λ f. P f.body) fs
all_pieces P [] h = tt
all_pieces P (f ∷ fs) (p, h) = (p, all_pieces P fs h)

-- the fragments of the mirrored items have literals where those of the items have
pub literals_mirrored : (qs : List Placed) (lo : ℕ) → Ordered start qs
    → All (λ f. LiteralIn f.body) (fragments 0 qs) → All (λ f. LiteralIn f.body) (fragments lo (mirrored_placed qs))
literals_mirrored qs lo order h =
    let fs = fragments 0 qs in
    let bodies_of : All (λ b. LiteralIn (mirrored_placed b)) (pieces fs) =
    All-map (λ b. LiteralIn (mirrored_placed b)) (λ (f : Fragment). f.body) fs
    (All-weaker (λ f. LiteralIn f.body) (λ f. LiteralIn (mirrored_placed f.body)) (λ f y. some_mirrored is_literal is_literal_mirrored f.body ∙ y) fs h) in
    all_pieces LiteralIn (fragments lo (mirrored_placed qs))
    (subst (All LiteralIn) (sym (fragments_mirrored qs lo 0 order)) (all_mirrored_pieces LiteralIn (pieces fs) bodies_of))

-- The theorem.

-- searching the mirrored fragments in the reversed reading decides as the rule does from the back
pub found_from_back : FoundFromBack
found_from_back qs lo hi xs order within =
    (found_exactly (mirrored_placed qs) lo hi (reverse xs) (ordered_mirrored qs order) (limits_mirrored qs order within)).0
    ∙ ap (λ l. hits (Front lo hi) l (reverse xs)) (bodies_mirrored qs)
    ∙ mirrored_alike (Back lo hi) (bodies qs) xs
