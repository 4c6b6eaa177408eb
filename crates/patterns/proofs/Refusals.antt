-- The reader refuses a text at the longest prefix that begins some text.
use Rattle.std.proofs.Common.{◌≡◌, ℕ, zero, suc, ◌+◌, ◌-◌, ◌*◌, ◌<◌, ◌≤◌, Bool, true, false, cond, ltb, List, [], ◌∷◌, ◌++◌, length, take, Some, None, Ok, Err, codes, Result, refl, ap, ◌∙◌, append_assoc, arith, length-append}
use Rattle.std.proofs.lemmas.List.{take_at}
use Rattle.std.proofs.lemmas.Bool.{lt-ltb}
use Rattle.kinds.specs.Alphabet.{Alphabet, Lawful}
use Rattle.patterns.specs.Grammar.{Placed, Position, start, behind, Longest}
use Rattle.patterns.specs.Patterns.{Item, literal, any, group, range, gap}
use Rattle.patterns.specs.Reader.{State, between, asked, half, alternatives, bracket, low, high, digits, endless, Numeral, least, most, Next, stuck, goes_on, complete, closed, leads, next, finished, in_front, follow, items_of, RefusesAtLongest}
use Rattle.patterns.specs.declared.direction.Direction.TheVariants.{FirstOn}
use Rattle.patterns.proofs.Texts.{second_of, pair_leads}
use Rattle.patterns.proofs.Steps
use Rattle.patterns.proofs.Steps.{Takes, Goes, Outcome, outcome, takes_pair}
use Rattle.patterns.proofs.Follows.{Reads, ends, more, onward, follow_next, follow_reads}
use Rattle.patterns.proofs.Whole.{pair_read, reads_exactly}

-- a list with one element more has an element
pushed : {X : Type 0} (xs : List X) (x : X) → ltb 0 (length (xs ++ x ∷ [])) ≡ true
pushed xs x = lt-ltb 0 (length (xs ++ x ∷ [])) (omega (arith, length-append xs (x ∷ [])))

-- what is taken past a front begins with the front and the character behind it
take_past : (front rest : List ℕ) (k : ℕ) → length front < k → k ≤ length (front ++ rest)
    → (c : ℕ) × (tail : List ℕ) × (later : List ℕ) × (rest ≡ c ∷ tail) × (take k (front ++ rest) ≡ front ++ c ∷ later)
take_past front rest zero l h = absurd (omega arith)
take_past [] [] (suc k) l h = absurd (omega arith)
take_past [] (c ∷ tail) (suc k) l h = (c, tail, take k tail, refl, refl)
take_past (x ∷ front) rest (suc k) l h =
    let (c, tail, later, e, taken) = take_past front rest k (omega arith) (omega arith) in
    (c, tail, later, e, ap (λ t. x ∷ t) taken)

module _ {E : Type 0} (a : Alphabet E) (law : Lawful a) where
  -- some characters complete an item in a state
  abbrev Completes : State → Type 0
  Completes s = (t : List ℕ) × (i : Item) × Reads a s t i

  -- some text ends well in a state, wherever it is read
  abbrev Finishes : State → Type 0
  Finishes s = (t : List ℕ) × ((from place : ℕ) → (qs : List Placed) × (follow a s from place t ≡ Ok qs))

  -- some pair that names an element, and the element's code
  abbrev one : ℕ
  one = law.some_pair.0

  abbrev two : ℕ
  two = law.some_pair.1

  abbrev code : ℕ
  code = a.code law.some_pair.2

  -- that pair, read in a state
  some_pair_read : (s s' : State) → takes_pair s ≡ true → Takes s code s' → Completes s' → Completes s
  some_pair_read s s' y takes (t, i, r) = (one ∷ two ∷ t, i, pair_read a law s s' one two law.some_pair.2 t i y law.some_pair.3 takes r)

  -- one character more
  one_more : (s : State) (c : ℕ) (s' : State) → Goes a s c s' → Completes s' → Completes s
  one_more s c s' g (t, i, r) = (c ∷ t, i, more g r)

  -- in an open group: a pair, a bar, a pair and the end
  group_completes : (runs : List (List ℕ)) (run : List ℕ) → Completes (alternatives runs run)
  group_completes runs run =
      let run' = run ++ code ∷ [] in
      let runs' = runs ++ run' ∷ [] in
      some_pair_read (alternatives runs run) (alternatives runs run') refl (Steps.in_group runs run code)
      (one_more (alternatives runs run') 124 (alternatives runs' []) (Steps.bar runs run' (pushed run code))
      (some_pair_read (alternatives runs' []) (alternatives runs' (code ∷ [])) refl (Steps.in_group runs' [] code)
      (codes ")", group (runs' ++ (code ∷ []) ∷ []), ends (Steps.close_group runs' (code ∷ []) refl (pushed runs run')))))

  -- in a range: a pair and the end, behind a pair and a colon if there was none
  high_completes : (inside : Bool) (lower run : List ℕ) → Completes (high inside lower run)
  high_completes inside lower run =
      let run' = run ++ code ∷ [] in
      some_pair_read (high inside lower run) (high inside lower run') refl (Steps.in_high inside lower run code)
      (codes "]", range FirstOn inside lower run', ends (Steps.close_high inside lower run' (pushed run code)))

  low_completes : (inside : Bool) (run : List ℕ) → Completes (low inside run)
  low_completes inside run =
      let run' = run ++ code ∷ [] in
      some_pair_read (low inside run) (low inside run') refl (Steps.in_low inside run code)
      (one_more (low inside run') 58 (high inside run' []) (Steps.colon inside run' (pushed run code)) (high_completes inside run' []))

  -- in a number: the end, behind a digit if there was none
  digits_completes : (n : Numeral) (k v : ℕ) → Completes (digits n k v)
  digits_completes n zero v = one_more (digits n 0 v) 48 (digits n 1 (10 * v + 0)) (Steps.digit n 0 v 48 refl refl) (codes "}", closed a n (10 * v + 0), ends (Steps.close_gap n 1 (10 * v + 0) refl))
  digits_completes n (suc k) v = (codes "}", closed a n v, ends (Steps.close_gap n (suc k) v (lt-ltb 0 (suc k) (omega arith))))

  -- behind a pair
  takes_completes : {s : State} {c : ℕ} {s' : State} → Takes s c s' → Completes s'
  takes_completes (Steps.in_group runs run c) = group_completes runs (run ++ c ∷ [])
  takes_completes (Steps.in_bracket c) = low_completes true (c ∷ [])
  takes_completes (Steps.in_low inside run c) = low_completes inside (run ++ c ∷ [])
  takes_completes (Steps.in_high inside lower run c) = high_completes inside lower (run ++ c ∷ [])

  -- a first character that leads has a second, which leads on
  half_completes : (s : State) (f : ℕ) → takes_pair s ≡ true → leads a f ≡ true → Completes (half s f)
  half_completes s f y l = go s y (second_of a f l)
    where
      onwards : (s s' : State) → (h : (d : ℕ) × (x : E) × (a.named f d ≡ Some x)) → Takes s (a.code h.1) s' → Completes (half s f)
      onwards s s' (d, x, e) takes = one_more (half s f) d s' (Steps.second s s' f d x e takes) (takes_completes takes)

      go : (s : State) → takes_pair s ≡ true → (d : ℕ) × (x : E) × (a.named f d ≡ Some x) → Completes (half s f)
      go (between p) y (d, x, e) = (d ∷ [], literal (a.code x), ends (Steps.pair p f d x e))
      go asked y h = absurd (grind arith)
      go (half s g) y h = absurd (grind arith)
      go (alternatives runs run) y h = onwards (alternatives runs run) _ h (Steps.in_group runs run _)
      go bracket y h = onwards bracket _ h (Steps.in_bracket _)
      go (low inside run) y h = onwards (low inside run) _ h (Steps.in_low inside run _)
      go (high inside lower run) y h = onwards (high inside lower run) _ h (Steps.in_high inside lower run _)
      go (digits n k v) y h = absurd (grind arith)
      go (endless m) y h = absurd (grind arith)

  -- every step within an item leads to a state in which the item can be completed
  goes_completes : {s : State} {c : ℕ} {s' : State} → Goes a s c s' → Completes s'
  goes_completes (Steps.ask p) = (codes "?", any, ends Steps.asked_twice)
  goes_completes (Steps.open_group p) = group_completes [] []
  goes_completes (Steps.open_bracket p) = some_pair_read bracket _ refl (Steps.in_bracket _) (low_completes true _)
  goes_completes (Steps.open_brace p g) = digits_completes least 0 0
  goes_completes (Steps.first s c y l) = half_completes s c y l
  goes_completes (Steps.second r s' f c x e takes) = takes_completes takes
  goes_completes (Steps.bar runs run b) = group_completes (runs ++ run ∷ []) []
  goes_completes Steps.exclude = low_completes false []
  goes_completes (Steps.colon inside run b) = high_completes inside run []
  goes_completes (Steps.digit n k v c w l) = digits_completes n (suc k) (10 * v + (c - 48))
  goes_completes (Steps.dash k v l) = digits_completes (most v) 0 0
  goes_completes (Steps.unbounded m v) = (codes "}", gap m None, ends (Steps.close_endless m))

  -- between items, a pair ends a text
  between_finishes : (p : Position) → Finishes (between p)
  between_finishes p = (one ∷ two ∷ [], λ from place. (record { place = from; item = literal code } ∷ [], follow_reads a law reads from place []))
    where
      reads : Reads a (between p) (one ∷ two ∷ []) (literal code)
      reads = more (Steps.first (between p) one refl (pair_leads a law one two law.some_pair.2 law.some_pair.3)) (ends (Steps.pair p one two law.some_pair.2 law.some_pair.3))

  -- an item that can be completed can be followed by what ends a text
  completes_finishes : (s : State) → Completes s → Finishes s
  completes_finishes s (t, i, r) =
      let (u, finish) = between_finishes (behind i) in (
        t ++ u,
        λ from place.
            let (qs, e) = finish (place + length t) (place + length t) in
            (record { place = from; item = i } ∷ qs, follow_reads a law r from place u ∙ ap (in_front a (record { place = from; item = i })) e),
      )

  -- A text is refused at a place: what stands before it can go on to a text that is read, and with the character that
  -- stands there no text is.
  abbrev Refused : State → ℕ → ℕ → List ℕ → ℕ → Type 0
  Refused s from place t n =
      (front : List ℕ) × (rest : List ℕ) × (t ≡ front ++ rest) × (n ≡ place + length front)
      × ((u : List ℕ) × (qs : List Placed) × (follow a s from place (front ++ u) ≡ Ok qs))
      × ((c : ℕ) (tail u : List ℕ) → rest ≡ c ∷ tail → follow a s from place (front ++ c ∷ u) ≡ Err n)

  -- an item in front keeps a refusal
  in_front_err : (q : Placed) (r : Result (List Placed) ℕ) (n : ℕ) → in_front a q r ≡ Err n → r ≡ Err n
  in_front_err q (Ok others) n e = absurd (grind arith)
  in_front_err q (Err m) n e = e

  -- a refusal right here
  refused_here : (s : State) (from place : ℕ) (t : List ℕ) (n : ℕ) → Finishes s → place ≡ n
      → ((c : ℕ) (tail u : List ℕ) → t ≡ c ∷ tail → follow a s from place (c ∷ u) ≡ Err n) → Refused s from place t n
  refused_here s from place t n (u, finish) e never =
      let (qs, well) = finish from place in
      ([], t, refl, omega arith, (u, qs, well), never)

  -- a refusal within the rest
  refused_later : (s s' : State) (from from' place c : ℕ) (t : List ℕ) (n : ℕ) (wrap : Result (List Placed) ℕ → Result (List Placed) ℕ)
      → ((u : List ℕ) → follow a s from place (c ∷ u) ≡ wrap (follow a s' from' (place + 1) u))
      → ((qs : List Placed) → (qs' : List Placed) × (wrap (Ok qs) ≡ Ok qs')) → wrap (Err n) ≡ Err n
      → Refused s' from' (place + 1) t n → Refused s from place (c ∷ t) n
  refused_later s s' from from' place c t n wrap step well ill (front, rest, cut, at, (u, qs, e), never) =
      let (qs', e') = well qs in (
        c ∷ front,
        rest,
        ap (λ l. c ∷ l) cut,
        omega arith,
        (u, qs', step (front ++ u) ∙ ap wrap e ∙ e'),
        λ d tail v h. step (front ++ d ∷ v) ∙ ap wrap (never d tail v h) ∙ ill,
      )

  -- every refusal is such a one
  refused : (t : List ℕ) (s : State) (from place n : ℕ) → Finishes s → follow a s from place t ≡ Err n → Refused s from place t n
  refused [] s from place n f e = refused_here s from place [] n f (at_end (finished a s) e) (λ c tail u h. absurd (grind arith))
    where
      at_end : (b : Bool) → ◌≡◌ {A = Result (List Placed) ℕ} (cond b (Ok []) (Err place)) (Err n) → place ≡ n
      at_end true e = absurd (grind arith)
      at_end false e = cc
  refused (c ∷ t) s from place n f e = go (next a s c) refl (outcome a s c) e (refused t)
    where
      go : (m : Next) → next a s c ≡ m → Outcome a s c m → onward a m from place t ≡ Err n
          → ((s : State) (from place n : ℕ) → Finishes s → follow a s from place t ≡ Err n → Refused s from place t n)
          → Refused s from place (c ∷ t) n
      go stuck m o e ih =
          refused_here s from place (c ∷ t) n f (cc) (λ d tail u h.
          let same : d ≡ c = cc in
          follow_next a s from place d u stuck (ap (next a s) same ∙ m) ∙ e)
      go (goes_on s') m o e ih =
          refused_later s s' from from place c t n (λ r. r) (λ u. follow_next a s from place c u (goes_on s') m) (λ qs. (qs, refl)) refl
          (ih s' from (place + 1) n (completes_finishes s' (goes_completes o)) e)
      go (complete i) m o e ih =
          let q : Placed = record { place = from; item = i } in
          let rest = follow a (between (behind i)) (place + 1) (place + 1) t in
          refused_later s (between (behind i)) from (place + 1) place c t n (in_front a q) (λ u. follow_next a s from place c u (complete i) m) (λ qs. (q ∷ qs, refl)) refl
          (ih (between (behind i)) (place + 1) (place + 1) n (between_finishes (behind i)) (in_front_err q rest n e))

  -- The reader refuses every other text at the longest prefix that begins some text.
  pub refuses_at_longest : RefusesAtLongest a
  refuses_at_longest t n e = go (refused t (between start) 0 0 n (between_finishes start) e)
    where
      go : Refused (between start) 0 0 t n → Longest a t n
      go (front, rest, cut, at, (u, qs, well), never) = record {
        within_text = omega (arith, long);
        begins = (u, qs, (reads_exactly a law (take n t ++ u) qs).0 (ap (λ l. items_of a (l ++ u)) taken ∙ well));
        no_longer = λ k l h begun.
            let (c, tail, later, e, past) = take_past front rest k (omega arith) (omega (arith, long, length-append front rest)) in
            let (v, others, text) = begun in
            let read = (reads_exactly a law (take k t ++ v) others).1 text in
            let same : take k t ++ v ≡ front ++ c ∷ (later ++ v) = ap (λ s. take k s ++ v) cut ∙ ap (λ s. s ++ v) past ∙ append_assoc front (c ∷ later) v in
            let refusal = never c tail (later ++ v) e in
            let z : ◌≡◌ {A = ℕ} 0 1 = cc in
            omega arith;
      }
        where
          taken : take n t ≡ front
          taken = ap (take n) cut ∙ take_at front rest n (omega arith)

          long : length t ≡ length front + length rest
          long = ap length cut ∙ length-append front rest
