-- What the reader reads is as the grammar says.
use Rattle.std.proofs.Common.{◌≡◌, ℕ, suc, ◌+◌, ◌-◌, ◌*◌, ◌<◌, ◌≤◌, Bool, true, false, ltb, ◌⊎◌, List, [], ◌∷◌, ◌++◌, length, Some, None, Ok, codes, sym, refl, ap, ◌∙◌, subst, inl, inr, append_assoc, append-nil, arith, length-append}
use Rattle.std.proofs.lemmas.Bool.{ltb-true, true≢false}
use Rattle.kinds.specs.Alphabet.{Alphabet, within}
use Rattle.patterns.specs.Grammar.{Placed, Position, start, gap_allowed, may_end, allowed, behind, Ordered, Text, Digits, followed_by, Number, Literals, Run, Alternatives, Bounds, Says, SaysAll}
use Rattle.patterns.specs.Patterns.{Item, literal, any, group, range, other, gap}
use Rattle.patterns.specs.Reader.{State, between, asked, half, alternatives, bracket, low, high, digits, endless, Numeral, least, most, begun, closed, follow, items_of}
use Rattle.patterns.specs.declared.direction.Direction.TheVariants.{FirstOn}
use Rattle.patterns.proofs.Steps
use Rattle.patterns.proofs.Steps.{Takes, Goes, Done, takes_pair}
use Rattle.patterns.proofs.Follows.{Reads, ends, more, found, Found}

-- The characters t complete the item i, by the state that they are read in. What a state holds already stands before
-- what t says.

-- the digits of a gap's number, with k digits of value v before them, and its end
abbrev NumberRest : ℕ → ℕ → List ℕ → (ℕ → List ℕ → Type 0) → Type 0
NumberRest k v t End =
    (ds : List ℕ) × (rest : List ℕ) × (t ≡ ds ++ rest) × Digits ds × (length ds ≤ 4 - k) × (1 ≤ k + length ds) × End (followed_by v ds) rest

-- what ends a gap behind its first number
abbrev LeastEnd : Item → ℕ → List ℕ → Type 0
LeastEnd i m t =
    ((t ≡ codes "}") × (i ≡ gap m (Some m)))
    ⊎ (((t ≡ codes "-*}") × (i ≡ gap m None))
    ⊎ ((most : ℕ) × (n : List ℕ) × (t ≡ codes "-" ++ (n ++ codes "}")) × Number most n × (i ≡ gap m (Some most))))

-- the rest of a gap, for either number
abbrev DigitsRest : Numeral → ℕ → ℕ → List ℕ → Item → Type 0
DigitsRest least k v t i = NumberRest k v t (LeastEnd i)
DigitsRest (most m) k v t i =
    NumberRest k v t (λ n rest. (rest ≡ codes "}") × (i ≡ gap m (Some n)))
    ⊎ ((k ≡ 0) × (t ≡ codes "*}") × (i ≡ gap m None))

-- one digit more of a number
number_digit : (k v c : ℕ) (t : List ℕ) (End : ℕ → List ℕ → Type 0) → within 48 57 c ≡ true → ltb k 4 ≡ true
    → NumberRest (suc k) (10 * v + (c - 48)) t End → NumberRest k v (c ∷ t) End
number_digit k v c t End w l (ds, rest, cut, are, short, long, end) =
    let fits : k < 4 = ltb-true k 4 l in
    (c ∷ ds, rest, ap (λ l. c ∷ l) cut, (w, are), omega arith, omega arith, end)

-- the same in a gap, for either number
digit_rest : (n : Numeral) (k v c : ℕ) (t : List ℕ) (i : Item) → within 48 57 c ≡ true → ltb k 4 ≡ true
    → DigitsRest n (suc k) (10 * v + (c - 48)) t i → DigitsRest n k v (c ∷ t) i
digit_rest least k v c t i w l h = number_digit k v c t (LeastEnd i) w l h
digit_rest (most m) k v c t i w l (inl h) = inl (number_digit k v c t (λ n rest. (rest ≡ codes "}") × (i ≡ gap m (Some n))) w l h)
digit_rest (most m) k v c t i w l (inr h) = absurd (omega arith)

-- the dash between the numbers of a gap
dash_rest : (k v : ℕ) (t : List ℕ) (i : Item) → ltb 0 k ≡ true → DigitsRest (most v) 0 0 t i → DigitsRest least k v (45 ∷ t) i
dash_rest k v t i l (inl (ds, rest, cut, are, short, long, (end, same))) = (
  [],
  45 ∷ t,
  refl,
  tt,
  omega arith,
  omega (arith, ltb-true 0 k l),
  inr (inr (followed_by 0 ds, ds, ap (λ l. 45 ∷ l) (cut ∙ ap (λ l. ds ++ l) end), (omega arith, omega arith, are, refl), same)),
)
dash_rest k v t i l (inr (none, e, same)) =
    ([], 45 ∷ t, refl, tt, omega arith, omega (arith, ltb-true 0 k l), inr (inl (ap (λ l. 45 ∷ l) e, same)))

module _ {E : Type 0} (a : Alphabet E) where
  -- the rest of a run, and its end
  abbrev RunRest : List ℕ → List ℕ → (List ℕ → List ℕ → Type 0) → Type 0
  RunRest run t End =
      (added : List ℕ) × (said : List ℕ) × (rest : List ℕ) × (t ≡ said ++ rest) × Literals a added said × (0 < length (run ++ added)) × End (run ++ added) rest

  -- the runs behind a run of a group, and the group's end
  abbrev Others : List (List ℕ) → List ℕ → Type 0
  Others [] t = t ≡ codes ")"
  Others (run ∷ runs) t = (inner : List ℕ) × (t ≡ codes "|" ++ (inner ++ codes ")")) × Alternatives a (run ∷ runs) inner

  -- what ends a group behind a run, a range behind its second run, and a range behind its first
  abbrev GroupEnd : List (List ℕ) → Item → List ℕ → List ℕ → Type 0
  GroupEnd runs i run t = (others : List (List ℕ)) × Others others t × (2 ≤ length (runs ++ run ∷ others)) × (i ≡ group (runs ++ run ∷ others))

  abbrev HighEnd : Bool → List ℕ → Item → List ℕ → List ℕ → Type 0
  HighEnd inside lower i run t = (t ≡ codes "]") × (i ≡ range FirstOn inside lower run)

  abbrev LowEnd : Bool → Item → List ℕ → List ℕ → Type 0
  LowEnd inside i run t =
      ((inside ≡ false) × (t ≡ codes "]") × (i ≡ other run))
      ⊎ ((upper : List ℕ) × (said : List ℕ) × (t ≡ codes ":" ++ (said ++ codes "]")) × Run a upper said × (i ≡ range FirstOn inside run upper))

  -- behind a pair
  abbrev BehindPair : State → ℕ → List ℕ → Item → Type 0
  BehindPair (between p) c t i = (t ≡ []) × (i ≡ literal c)
  BehindPair asked c t i = ⊥
  BehindPair (half s f) c t i = ⊥
  BehindPair (alternatives runs run) c t i = RunRest (run ++ c ∷ []) t (GroupEnd runs i)
  BehindPair bracket c t i = RunRest (c ∷ []) t (LowEnd true i)
  BehindPair (low inside run) c t i = RunRest (run ++ c ∷ []) t (LowEnd inside i)
  BehindPair (high inside lower run) c t i = RunRest (run ++ c ∷ []) t (HighEnd inside lower i)
  BehindPair (digits n k v) c t i = ⊥
  BehindPair (endless m) c t i = ⊥

  -- in any state
  abbrev Rest : State → List ℕ → Item → Type 0
  Rest (between p) t i = (allowed p i ≡ true) × Says a i t
  Rest asked t i = (t ≡ codes "?") × (i ≡ any)
  Rest (half s f) t i = (c : ℕ) × (x : E) × (rest : List ℕ) × (t ≡ c ∷ rest) × (a.named f c ≡ Some x) × BehindPair s (a.code x) rest i
  Rest (alternatives runs run) t i = RunRest run t (GroupEnd runs i)
  Rest bracket t i = RunRest [] t (LowEnd true i) ⊎ ((rest : List ℕ) × (t ≡ codes "!" ++ rest) × RunRest [] rest (LowEnd false i))
  Rest (low inside run) t i = RunRest run t (LowEnd inside i)
  Rest (high inside lower run) t i = RunRest run t (HighEnd inside lower i)
  Rest (digits n k v) t i = DigitsRest n k v t i
  Rest (endless m) t i = (t ≡ codes "}") × (i ≡ gap m None)

  -- a run with nothing more
  run_over : (run t : List ℕ) (End : List ℕ → List ℕ → Type 0) → begun run ≡ true → End run t → RunRest run t End
  run_over run t End b e =
      let same : run ++ [] ≡ run = append-nil run in
      let long : 0 < length run = ltb-true 0 (length run) b in
      ([], [], t, refl, refl, (rw same long), (rw same e))

  -- a run with one literal more
  run_pair : (run t : List ℕ) (f c : ℕ) (x : E) (End : List ℕ → List ℕ → Type 0) → a.named f c ≡ Some x
      → RunRest (run ++ a.code x ∷ []) t End → RunRest run (f ∷ c ∷ t) End
  run_pair run t f c x End e (added, said, rest, cut, says, long, end) =
      let same : (run ++ a.code x ∷ []) ++ added ≡ run ++ a.code x ∷ added = append_assoc run (a.code x ∷ []) added in (
        a.code x ∷ added,
        f ∷ c ∷ said,
        rest,
        ap (λ l. f ∷ c ∷ l) cut,
        (f ∷ c ∷ [], said, refl, (f, c, x, e, refl, refl), says),
        (rw same at long),
        (rw same at end),
      )

  -- the brace behind a number
  digits_end : (n : Numeral) (k v : ℕ) → ltb 0 k ≡ true → DigitsRest n k v (125 ∷ []) (closed a n v)
  digits_end least k v l = ([], 125 ∷ [], refl, tt, omega arith, omega (arith, ltb-true 0 k l), inl (refl, refl))
  digits_end (most m) k v l = inl ([], 125 ∷ [], refl, tt, omega arith, omega (arith, ltb-true 0 k l), (refl, refl))

  -- the last character of an item
  rest_ends : {s : State} {c : ℕ} {i : Item} → Done a s c i → Rest s (c ∷ []) i
  rest_ends (Steps.star p g) = (g, inl (refl, refl))
  rest_ends (Steps.pair p f c x e) = (c, x, [], refl, e, (refl, refl))
  rest_ends Steps.asked_twice = (refl, refl)
  rest_ends (Steps.close_group runs run b l) =
      let long : 2 ≤ length (runs ++ run ∷ []) = omega (arith, length-append runs (run ∷ []), ltb-true 0 (length runs) l) in
      run_over run (41 ∷ []) (GroupEnd runs (group (runs ++ run ∷ []))) b ([], refl, long, refl)
  rest_ends (Steps.close_low run b) = run_over run (93 ∷ []) (LowEnd false (other run)) b (inl (refl, refl, refl))
  rest_ends (Steps.close_high inside lower run b) = run_over run (93 ∷ []) (HighEnd inside lower (range FirstOn inside lower run)) b (refl, refl)
  rest_ends (Steps.close_gap n k v l) = digits_end n k v l
  rest_ends (Steps.close_endless m) = (refl, refl)

  -- an item said by its other name
  says_at : (p : Position) (i j : Item) (t : List ℕ) → i ≡ j → allowed p j ≡ true → Says a j t → (allowed p i ≡ true) × Says a i t
  says_at p i j t e h says = subst (λ k. (allowed p k ≡ true) × Says a k t) (sym e) (h, says)

  -- a run and those behind it are alternatives
  with_others : (run said rest : List ℕ) (others : List (List ℕ)) → Run a run said → Others others rest
      → (inner : List ℕ) × (said ++ rest ≡ inner ++ codes ")") × Alternatives a (run ∷ others) inner
  with_others run said rest [] h e = (said, ap (λ l. said ++ l) e, h)
  with_others run said rest (next ∷ others) h (inner, e, alts) =
      (said ++ (codes "|" ++ inner), ap (λ l. said ++ l) e ∙ sym (append_assoc said (codes "|" ++ inner) (codes ")")), (said, inner, refl, h, alts))

  -- a run, a colon and a run are bounds
  with_bounds : (lower said upper said' : List ℕ) → Run a lower said → Run a upper said'
      → (inner : List ℕ) × (said ++ (codes ":" ++ (said' ++ codes "]")) ≡ inner ++ codes "]") × Bounds a lower upper inner
  with_bounds lower said upper said' h h' = (said ++ (codes ":" ++ said'), sym (append_assoc said (codes ":" ++ said') (codes "]")), (said, said', refl, h, h'))

  -- a pair, and what stands behind it
  pair_rest : (s : State) (f : ℕ) (t : List ℕ) (i : Item) → takes_pair s ≡ true → Rest (half s f) t i → Rest s (f ∷ t) i
  pair_rest (between p) f t i y (c, x, rest, e, named, (e', same)) =
      says_at p i (literal (a.code x)) (f ∷ t) same refl (f, c, x, named, refl, ap (λ l. f ∷ l) (e ∙ ap (λ l. c ∷ l) e'))
  pair_rest asked f t i y h = absurd h.5
  pair_rest (half s g) f t i y h = absurd h.5
  pair_rest (alternatives runs run) f t i y (c, x, rest, e, named, h) =
      rw e (run_pair run rest f c x (GroupEnd runs i) named h)
  pair_rest bracket f t i y (c, x, rest, e, named, h) =
      inl (rw e (run_pair [] rest f c x (LowEnd true i) named h))
  pair_rest (low inside run) f t i y (c, x, rest, e, named, h) =
      rw e (run_pair run rest f c x (LowEnd inside i) named h)
  pair_rest (high inside lower run) f t i y (c, x, rest, e, named, h) =
      rw e (run_pair run rest f c x (HighEnd inside lower i) named h)
  pair_rest (digits n k v) f t i y h = absurd h.5
  pair_rest (endless m) f t i y h = absurd h.5

  -- behind a pair stands the rest in the state that the pair leads to
  takes_rest : {s : State} {c : ℕ} {s' : State} (t : List ℕ) (i : Item) → Takes s c s' → Rest s' t i → BehindPair s c t i
  takes_rest t i (Steps.in_group runs run c) h = h
  takes_rest t i (Steps.in_bracket c) h = h
  takes_rest t i (Steps.in_low inside run c) h = h
  takes_rest t i (Steps.in_high inside lower run c) h = h

  -- an open bracket says a range, or what one run leaves out
  bracket_rest : (p : Position) (t : List ℕ) (i : Item) → Rest bracket t i → Rest (between p) (91 ∷ t) i
  bracket_rest p t i (inl (added, said, rest, cut, says, long, inl h)) = absurd (true≢false h.0)
  bracket_rest p t i (inl (added, said, rest, cut, says, long, inr (upper, said', e, h, same))) =
      let (inner, e', bounds) = with_bounds added said upper said' (long, says) h in
      says_at p i (range FirstOn true added upper) (91 ∷ t) same refl (refl, (inner, ap (λ l. 91 ∷ l) (cut ∙ ap (λ l. said ++ l) e ∙ e'), bounds))
  bracket_rest p t i (inr (tail, e₀, (added, said, rest, cut, says, long, inl (out, e, same)))) =
      says_at p i (other added) (91 ∷ t) same refl (said, ap (λ l. 91 ∷ l) (e₀ ∙ ap (λ l. 33 ∷ l) (cut ∙ ap (λ l. said ++ l) e)), (long, says))
  bracket_rest p t i (inr (tail, e₀, (added, said, rest, cut, says, long, inr (upper, said', e, h, same)))) =
      let (inner, e', bounds) = with_bounds added said upper said' (long, says) h in
      says_at p i (range FirstOn false added upper) (91 ∷ t) same refl (refl, (inner, ap (λ l. 91 ∷ l) (e₀ ∙ ap (λ l. 33 ∷ l) (cut ∙ ap (λ l. said ++ l) e ∙ e')), bounds))

  -- an open brace says a gap
  brace_rest : (p : Position) (t : List ℕ) (i : Item) → gap_allowed p ≡ true → DigitsRest least 0 0 t i → Rest (between p) (123 ∷ t) i
  brace_rest p t i g (ds, rest, cut, are, short, long, end) = go end
    where
      number : Number (followed_by 0 ds) ds
      number = (omega arith, omega arith, are, refl)

      go : LeastEnd i (followed_by 0 ds) rest → Rest (between p) (123 ∷ t) i
      go (inl (e, same)) =
          says_at p i (gap (followed_by 0 ds) (Some (followed_by 0 ds))) (123 ∷ t) same g (inl (ds, ap (λ l. 123 ∷ l) (cut ∙ ap (λ l. ds ++ l) e), number, refl))
      go (inr (inl (e, same))) =
          says_at p i (gap (followed_by 0 ds) None) (123 ∷ t) same g (inr (ds, ap (λ l. 123 ∷ l) (cut ∙ ap (λ l. ds ++ l) e), number))
      go (inr (inr (top, n, e, number', same))) =
          says_at p i (gap (followed_by 0 ds) (Some top)) (123 ∷ t) same g (inr (ds, n, ap (λ l. 123 ∷ l) (cut ∙ ap (λ l. ds ++ l) e), number, number'))

  -- one more character of an item, before its rest
  rest_more : {s : State} {c : ℕ} {s' : State} (t : List ℕ) (i : Item) → Goes a s c s' → Rest s' t i → Rest s (c ∷ t) i
  rest_more t i (Steps.ask p) (e, same) = says_at p i any (63 ∷ t) same refl (ap (λ l. 63 ∷ l) e)
  rest_more t i (Steps.open_group p) (added, said, rest, cut, says, long, (others, end, two, same)) =
      let inside = with_others added said rest others (long, says) end in
      says_at p i (group (added ∷ others)) (40 ∷ t) same refl (inside.0, ap (λ l. 40 ∷ l) (cut ∙ inside.1), two, inside.2)
  rest_more t i (Steps.open_bracket p) h = bracket_rest p t i h
  rest_more t i (Steps.open_brace p g) h = brace_rest p t i g h
  rest_more t i (Steps.first s c y l) h = pair_rest s c t i y h
  rest_more t i (Steps.second r s' f c x e y) h = (c, x, t, refl, e, takes_rest t i y h)
  rest_more t i (Steps.bar runs run b) (added, said, rest, cut, says, long, (others, end, two, same)) =
      let inside = with_others added said rest others (long, says) end in
      let apart : (runs ++ run ∷ []) ++ added ∷ others ≡ runs ++ run ∷ added ∷ others = append_assoc runs (run ∷ []) (added ∷ others) in
      run_over run (124 ∷ t) (GroupEnd runs i) b
      (added ∷ others, (inside.0, ap (λ l. 124 ∷ l) (cut ∙ inside.1), inside.2), (rw apart at two), same ∙ ap group apart)
  rest_more t i Steps.exclude h = inr (t, refl, h)
  rest_more t i (Steps.colon inside run b) (added, said, rest, cut, says, long, (end, same)) =
      run_over run (58 ∷ t) (LowEnd inside i) b (inr (added, said, ap (λ l. 58 ∷ l) (cut ∙ ap (λ l. said ++ l) end), (long, says), same))
  rest_more t i (Steps.digit n k v c w l) h = digit_rest n k v c t i w l h
  rest_more t i (Steps.dash k v l) h = dash_rest k v t i l h
  rest_more t i (Steps.unbounded m v) (e, same) = inr (refl, ap (λ l. 42 ∷ l) e, same)

  -- what is read in a state completes the item that it is read as
  reads_rest : {s : State} {t : List ℕ} {i : Item} → Reads a s t i → Rest s t i
  reads_rest (ends d) = rest_ends d
  reads_rest (more {t = t} {i = i} g r) = rest_more t i g (reads_rest r)

  -- so what is read between items says its item
  pub reads_says : {p : Position} {t : List ℕ} {i : Item} → Reads a (between p) t i → Says a i t
  reads_says r = (reads_rest r).1

  -- which may stand there
  pub reads_allowed : {p : Position} {t : List ℕ} {i : Item} → Reads a (between p) t i → allowed p i ≡ true
  reads_allowed r = (reads_rest r).0

  -- the items that the reader reads are in order, and the text says them
  follow_sound : (qs : List Placed) (p : Position) (place : ℕ) (t : List ℕ) → follow a (between p) place place t ≡ Ok qs
      → Ordered p qs × SaysAll a place qs t
  follow_sound [] p place t e = go (found a t (between p) place place [] e)
    where
      go : ((t ≡ []) × (◌≡◌ {A = List Placed} [] []) × (may_end p ≡ true)) ⊎ Found a (between p) place place t [] → Ordered p [] × SaysAll a place [] t
      go (inl (none, same, last)) = (last, none)
      go (inr (front, rest, i, others, cut, items, reads, onwards)) = absurd (grind arith)
  follow_sound (q ∷ qs) p place t e = go (found a t (between p) place place (q ∷ qs) e) (follow_sound qs)
    where
      go : ((t ≡ []) × (q ∷ qs ≡ []) × (may_end p ≡ true)) ⊎ Found a (between p) place place t (q ∷ qs)
          → ((p : Position) (place : ℕ) (t : List ℕ) → follow a (between p) place place t ≡ Ok qs → Ordered p qs × SaysAll a place qs t)
          → Ordered p (q ∷ qs) × SaysAll a place (q ∷ qs) t
      go (inl h) ih = absurd (grind arith)
      go (inr (front, rest, i, others, cut, items, reads, onwards)) ih =
          let head : q ≡ record { place = place; item = i } = cc in
          let tail : others ≡ qs = cc in
          let item : q.item ≡ i = ap (λ x. x.item) head in
          let says = reads_rest reads in
          let later = ih (behind i) (place + length front) rest (onwards ∙ ap Ok tail) in
          ((rw item says.0, rw item later.0), (front, rest, cut, ap (λ x. x.place) head, rw item says.1, later.1))

  -- The reader reads only texts of the grammar.
  pub sound : (t : List ℕ) (qs : List Placed) → items_of a t ≡ Ok qs → Text a qs t
  sound t qs e = follow_sound qs start 0 t e
