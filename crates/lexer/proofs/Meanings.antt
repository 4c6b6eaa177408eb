-- The items that a token says are those that the reader's definition reads.
use Rattle.std.proofs.Common.{◌≡◌, ℕ, zero, suc, ◌+◌, ◌-◌, ◌*◌, ◌<◌, ◌≤◌, Bool, true, false, cond, eqb, ltb, List, [], ◌∷◌, ◌++◌, map, length, take, drop, is_some, Some, None, Ok, Err, codes, Option, Result, sym, refl, ap, ◌∙◌, subst, append_assoc, add-zero, arith, length-append, length-drop, length-take-le}
use Rattle.std.proofs.lemmas.Bool.{ltb-true, ltb-false, cond-true, cond-false}
use Rattle.std.proofs.lemmas.List.{drop-drop, drop_all, length-map}
use Rattle.std.proofs.lemmas.List.Splits.{slice_split_at, slice_split_none}
use Rattle.std.specs.List.{All}
use Rattle.kinds.specs.Alphabet.{Alphabet, Lawful}
use Rattle.patterns.specs.Grammar.{Placed, Position, start, after_thing, after_gap, gap_allowed, may_end, behind, Literals, Alternatives, Says}
use Rattle.patterns.specs.Patterns as item
use Rattle.patterns.specs.Patterns.{Item}
use Rattle.patterns.specs.Reader.{State, between, Next, stuck, goes_on, complete, next, finished, in_front, follow}
use Rattle.patterns.proofs.Follows
use Rattle.patterns.proofs.Follows.{Reads, follow_reads, onward}
use Rattle.patterns.proofs.Sound.{reads_says, reads_allowed}
use Rattle.patterns.proofs.Steps
use Rattle.patterns.proofs.Steps.{Goes, Done, Outcome, outcome, goes_inside, goes_next, done_next}
use Rattle.patterns.proofs.Texts.{no_sign, pair_leads}
use Rattle.lexer.specs.Meanings.{items_at, literals_at, runs_in, run_count}
use Rattle.lexer.specs.Scanning.{Completes}
use Rattle.lexer.specs.Tokens.{Lexeme, literals, any, group, range, other, gap, slice, between_bars, behind_lexeme, codes_in, item_from, lexed, lexeme_at, lexeme_of, pairs, written}
use Rattle.lexer.proofs.Lexing.{codes_length}
use Rattle.lexer.proofs.Machine
use Rattle.lexer.proofs.Tokens.{drop_front, literals_length, pairs_fit, item_reads, says_written, inner_text, low_text, high_text}

-- items that were read already, before what the rest gives
abbrev pub prepended : List Placed → Result (List Placed) ℕ → Result (List Placed) ℕ
prepended qs (Ok rs) = Ok (qs ++ rs)
prepended qs (Err n) = Err n

-- one at least, once a thing or a gap was read
abbrev pub taken : Position → ℕ
taken start = 0
taken after_thing = 1
taken after_gap = 1

-- which is at most one
taken_few : (p : Position) → taken p ≤ 1
taken_few start = omega arith
taken_few after_thing = omega arith
taken_few after_gap = omega arith

-- and one behind a token
pub taken_some : (x : Lexeme) → taken (behind_lexeme x) ≡ 1
taken_some (literals run) = refl
taken_some any = refl
taken_some (group runs) = refl
taken_some (range inside low high) = refl
taken_some (other run) = refl
taken_some (gap spelling least most) = refl

-- a gap stands behind something
gap_behind : (p : Position) → gap_allowed p ≡ true → taken p ≡ 1
gap_behind start h = absurd (grind arith)
gap_behind after_thing h = refl
gap_behind after_gap h = refl

-- literals are as many items as codes
pub literals_many : (place : ℕ) (cs : List ℕ) → length (literals_at place cs) ≡ length cs
literals_many place [] = refl
literals_many place (c ∷ cs) = ap suc (literals_many (place + 2) cs)

-- one token is one
pub same_token : (x y : Lexeme) → ◌≡◌ {A = Result (Option Lexeme) ℕ} (Ok (Some x)) (Ok (Some y)) → x ≡ y
same_token x y e =
    let value : Result (Option Lexeme) ℕ → Lexeme = λ r. elim r [ Ok o ↦ elim o [ Some z ↦ z | None ↦ x ] | Err _ ↦ x ] in
    ap value e

-- what is refused is refused at one place
refused : (m n : ℕ) → ◌≡◌ {A = Result (Item × ℕ) ℕ} (Err m) (Err n) → m ≡ n
refused m n e = cc

-- what holds of the first element and of the others holds of all
all_cons : (P : ℕ → Type 0) (x : ℕ) (xs : List ℕ) → P x → All P xs → All P (x ∷ xs)
all_cons P x xs p ps zero d h = p
all_cons P x xs p ps (suc k) d h = ps k d (omega arith)

module _ {E : Type 0} (a : Alphabet E) where
  -- items before others
  pub prepended_more : (ps qs : List Placed) (r : Result (List Placed) ℕ) → prepended ps (prepended qs r) ≡ prepended (ps ++ qs) r
  prepended_more ps qs (Ok rs) = ap Ok (sym (append_assoc ps qs rs))
  prepended_more ps qs (Err n) = refl

  -- one item before others
  one_in_front : (q : Placed) (r : Result (List Placed) ℕ) → in_front a q r ≡ prepended (q ∷ []) r
  one_in_front q (Ok rs) = refl
  one_in_front q (Err n) = refl

  -- no item before others
  pub none_in_front : (r : Result (List Placed) ℕ) → r ≡ prepended [] r
  none_in_front (Ok rs) = refl
  none_in_front (Err n) = refl

  -- where a text completes no item, the reader's definition stops at the same place
  stops_follow : (u : List ℕ) (s : State) (from place n : ℕ) → item_from a s place u ≡ Err n → (u ≡ [] → finished a s ≡ false) → follow a s from place u ≡ Err n
  stops_follow [] s from place n e end = cond-false (finished a s) _ _ (end refl) ∙ ap Err (refused place n e)
  stops_follow (c ∷ u) s from place n e end = by_outcome (next a s c) (outcome a s c) e (stops_follow u)
    where
      by_outcome : (m : Next) → Outcome a s c m → Machine.onward a m place u ≡ Err n
          → ((s : State) (from place n : ℕ) → item_from a s place u ≡ Err n → (u ≡ [] → finished a s ≡ false) → follow a s from place u ≡ Err n)
          → onward a m from place u ≡ Err n
      by_outcome stuck o e ih = ap Err (refused place n e)
      by_outcome (goes_on s') o e ih = ih s' from (place + 1) n e (λ _. goes_inside a o)
      by_outcome (complete i) o e ih = absurd (grind arith)

  -- the codes that literals say are those of their pairs
  codes_said : (cs t : List ℕ) → Literals a cs t → codes_in a t ≡ cs
  codes_said [] t e = ap (codes_in a) e
  codes_said (c ∷ cs) t (front, rest, cut, (f, s, x, named, code, said), others) =
      let Codes : Option E → List ℕ = λ o. elim o [ None ↦ [] | Some y ↦ a.code y ∷ codes_in a rest ] in
      ap (codes_in a) (cut ∙ ap (λ l. l ++ rest) said)
      ∙ ap Codes named
      ∙ (λ i. sym code i ∷ codes_said cs rest others i)

  -- the first pairs of a text have all its codes
  codes_take : (u : List ℕ) → codes_in a (take (2 * pairs a u) u) ≡ codes_in a u
  codes_take [] = refl
  codes_take (f ∷ []) = refl
  codes_take (f ∷ s ∷ t) = go (a.named f s) refl (codes_take t)
    where
      go : (o : Option E) → a.named f s ≡ o → codes_in a (take (2 * pairs a t) t) ≡ codes_in a t
          → codes_in a (take (2 * cond (is_some o) (suc (pairs a t)) 0) (f ∷ s ∷ t)) ≡ (elim o [ None ↦ [] | Some x ↦ a.code x ∷ codes_in a t ])
      go None e ih = refl
      go (Some x) e ih =
          let Codes : List ℕ → Option E → List ℕ = λ l o. elim o [ None ↦ [] | Some y ↦ a.code y ∷ codes_in a l ] in
          let two : 2 * suc (pairs a t) ≡ suc (suc (2 * pairs a t)) = omega arith in
          ap (λ n. codes_in a (take n (f ∷ s ∷ t))) two
          ∙ ap (Codes (take (2 * pairs a t) t)) e
          ∙ ap (λ l. a.code x ∷ l) ih

  -- runs between bars have two characters each at least, beside the bars
  alternatives_length : (runs : List (List ℕ)) (t : List ℕ) → Alternatives a runs t → 3 * length runs ≤ length t + 1
  alternatives_length [] t h = absurd h
  alternatives_length (run ∷ []) t h = omega (arith, literals_length a run t h.1, h.0)
  alternatives_length (run ∷ more ∷ runs) t (front, rest, cut, h, others) =
      let ih = alternatives_length (more ∷ runs) rest others in
      omega (arith, ap length cut, length-append front (124 ∷ rest), literals_length a run front h.1, h.0, ih)

  module _ (law : Lawful a) where
    -- literals have no bar
    no_bars : (cs t : List ℕ) → Literals a cs t → All (λ c. eqb c 124 ≡ false) t
    no_bars [] t e = subst (All (λ c. eqb c 124 ≡ false)) (sym e) (λ k d h. absurd (omega arith))
    no_bars (c ∷ cs) t (front, rest, cut, (f, s, x, named, code, said), others) =
        let both = law.pair_alphanumeric f s x named in
        subst (All (λ c. eqb c 124 ≡ false)) (sym (cut ∙ ap (λ l. l ++ rest) said)) (all_cons (λ c. eqb c 124 ≡ false) f (s ∷ rest) (no_sign 124 f refl both.0) (all_cons (λ c. eqb c 124 ≡ false) s rest (no_sign 124 s refl both.1) (no_bars cs rest others)))

    -- the runs that alternatives say are those between the bars
    runs_said : (runs : List (List ℕ)) (t : List ℕ) → Alternatives a runs t → runs_in a t ≡ runs
    runs_said [] t h = absurd h
    runs_said (run ∷ []) t h = ap (map (codes_in a)) (slice_split_none (λ c. eqb c 124) t (no_bars run t h.1)) ∙ ap (λ r. r ∷ []) (codes_said run t h.1)
    runs_said (run ∷ more ∷ runs) t (front, rest, cut, h, others) =
        ap (runs_in a) cut
        ∙ ap (map (codes_in a)) (slice_split_at (λ c. eqb c 124) front 124 rest (no_bars run front h.1) refl)
        ∙ (λ i. codes_said run front h.1 i ∷ runs_said (more ∷ runs) rest others i)

    -- one literal, and what the reader's definition does with the rest
    literal_follow : (p : Position) (place f s : ℕ) (rest : List ℕ) (x : E) → a.named f s ≡ Some x → follow a (between p) place place (f ∷ s ∷ rest) ≡ in_front a (record { place = place; item = item.literal (a.code x) }) (follow a (between after_thing) (place + 2) (place + 2) rest)
    literal_follow p place f s rest x e =
        follow_reads a law (Follows.more (Steps.first (between p) f refl (pair_leads a law f s x e)) (Follows.ends (Steps.pair p f s x e))) place place rest

    -- where no literal stands, none comes before the rest
    no_literal : (u : List ℕ) (place : ℕ) → follow a (between after_thing) place place u ≡ prepended [] (follow a (between after_thing) (place + 0) (place + 0) u)
    no_literal u place = ap (λ n. follow a (between after_thing) n n u) (sym (add-zero place)) ∙ none_in_front (follow a (between after_thing) (place + 0) (place + 0) u)

    -- one literal before others
    one_more : (p : Position) (place f s : ℕ) (t : List ℕ) (x : E) → a.named f s ≡ Some x
        → follow a (between after_thing) (place + 2) (place + 2) t ≡ prepended (literals_at (place + 2) (codes_in a t)) (follow a (between after_thing) (place + 2 + 2 * pairs a t) (place + 2 + 2 * pairs a t) (drop (2 * pairs a t) t))
        → follow a (between p) place place (f ∷ s ∷ t) ≡ prepended (literals_at place (a.code x ∷ codes_in a t)) (follow a (between after_thing) (place + 2 * suc (pairs a t)) (place + 2 * suc (pairs a t)) (drop (2 * suc (pairs a t)) (f ∷ s ∷ t)))
    one_more p place f s t x e ih =
        let n = pairs a t in
        let q : Placed = record { place = place; item = item.literal (a.code x) } in
        let two : suc (suc (2 * n)) ≡ 2 * suc n = omega arith in
        let on : place + 2 + 2 * n ≡ place + 2 * suc n = omega arith in
        literal_follow p place f s t x e
        ∙ ap (in_front a q) ih
        ∙ one_in_front q _
        ∙ prepended_more (q ∷ []) (literals_at (place + 2) (codes_in a t)) _
        ∙ ap (λ k. prepended (literals_at place (a.code x ∷ codes_in a t)) (follow a (between after_thing) k k (drop (2 * n) t))) on
        ∙ ap (λ k. prepended (literals_at place (a.code x ∷ codes_in a t)) (follow a (between after_thing) (place + 2 * suc n) (place + 2 * suc n) (drop k (f ∷ s ∷ t)))) two

    -- neighbouring literals
    literals_follow : (u : List ℕ) (place : ℕ) → follow a (between after_thing) place place u ≡ prepended (literals_at place (codes_in a u)) (follow a (between after_thing) (place + 2 * pairs a u) (place + 2 * pairs a u) (drop (2 * pairs a u) u))
    literals_follow [] place = no_literal [] place
    literals_follow (f ∷ []) place = no_literal (f ∷ []) place
    literals_follow (f ∷ s ∷ t) place = go (a.named f s) refl (literals_follow t (place + 2))
      where
        go : (o : Option E) → a.named f s ≡ o
            → follow a (between after_thing) (place + 2) (place + 2) t ≡ prepended (literals_at (place + 2) (codes_in a t)) (follow a (between after_thing) (place + 2 + 2 * pairs a t) (place + 2 + 2 * pairs a t) (drop (2 * pairs a t) t))
            → follow a (between after_thing) place place (f ∷ s ∷ t)
            ≡ prepended (literals_at place (elim o [ None ↦ [] | Some x ↦ a.code x ∷ codes_in a t ])) (follow a (between after_thing) (place + 2 * cond (is_some o) (suc (pairs a t)) 0) (place + 2 * cond (is_some o) (suc (pairs a t)) 0) (drop (2 * cond (is_some o) (suc (pairs a t)) 0) (f ∷ s ∷ t)))
        go None e ih = no_literal (f ∷ s ∷ t) place
        go (Some x) e ih = one_more after_thing place f s t x e ih

    -- a literal before neighbouring literals
    literals_first : (u : List ℕ) (p : Position) (place : ℕ) → 0 < pairs a u → follow a (between p) place place u ≡ prepended (literals_at place (codes_in a u)) (follow a (between after_thing) (place + 2 * pairs a u) (place + 2 * pairs a u) (drop (2 * pairs a u) u))
    literals_first [] p place h = absurd (omega arith)
    literals_first (f ∷ []) p place h = absurd (omega arith)
    literals_first (f ∷ s ∷ t) p place h = go (a.named f s) refl h
      where
        go : (o : Option E) → a.named f s ≡ o → 0 < cond (is_some o) (suc (pairs a t)) 0
            → follow a (between p) place place (f ∷ s ∷ t)
            ≡ prepended (literals_at place (elim o [ None ↦ [] | Some x ↦ a.code x ∷ codes_in a t ])) (follow a (between after_thing) (place + 2 * cond (is_some o) (suc (pairs a t)) 0) (place + 2 * cond (is_some o) (suc (pairs a t)) 0) (drop (2 * cond (is_some o) (suc (pairs a t)) 0) (f ∷ s ∷ t)))
        go None e h = absurd (omega arith)
        go (Some x) e h = one_more p place f s t x e (literals_follow t (place + 2))

    module _ (t : List ℕ) (p : Position) (place : ℕ) where
      -- What a token means: its items before those of the rest, and their number.
      pub record Means (x : Lexeme) : Type 0 where
        pub follows : follow a (between p) place place (drop place t) ≡ prepended (items_at a place x) (follow a (between (behind_lexeme x)) (place + length (written x)) (place + length (written x)) (drop (place + length (written x)) t))
        pub runs : 3 * run_count x ≤ length (written x)
        pub items : length (items_at a place x) + taken (behind_lexeme x) ≤ length (written x) + taken p
        pub some : 0 < length (written x)

      -- neighbouring literals
      literals_mean : 0 < pairs a (drop place t) → Means (literals (slice t place (place + 2 * pairs a (drop place t))))
      literals_mean some =
          let u = drop place t in
          let n = 2 * pairs a u in
          let less : place + n - place ≡ n = omega arith in
          let text : take (place + n - place) u ≡ take n u = ap (λ k. take k u) less in
          let long : length (take (place + n - place) u) ≡ n = ap length text ∙ length-take-le n u (pairs_fit a u) in
          let codes_are : codes_in a (take (place + n - place) u) ≡ codes_in a u = ap (codes_in a) text ∙ codes_take u in
          record {
            follows = literals_first u p place some
                ∙ ap (λ cs. prepended (literals_at place cs) (follow a (between after_thing) (place + n) (place + n) (drop n u))) (sym codes_are)
                ∙ ap (λ l. prepended (literals_at place (codes_in a (take (place + n - place) u))) (follow a (between after_thing) (place + n) (place + n) l)) (drop-drop n place t)
                ∙ ap (λ k. prepended (literals_at place (codes_in a (take (place + n - place) u))) (follow a (between after_thing) (place + k) (place + k) (drop (place + k) t))) (sym long);
            runs = omega arith;
            items = omega (arith, literals_many place (codes_in a (take (place + n - place) u)), ap length codes_are, codes_length a u, long, some);
            some = omega (arith, long, some);
          }

      -- any other item, where the token has it
      module _ (i : Item) (front rest : List ℕ) (to : ℕ) (x : Lexeme) (reads : Reads a (between p) front i) (cut : drop place t ≡ front ++ rest) (end : to ≡ place + length front)
          (spelled : written x ≡ front) (has : items_at a place x ≡ record { place = place; item = i } ∷ []) (same : behind i ≡ behind_lexeme x) where
        -- its items come before those of the rest
        other_follows : follow a (between p) place place (drop place t) ≡ prepended (items_at a place x) (follow a (between (behind_lexeme x)) (place + length (written x)) (place + length (written x)) (drop (place + length (written x)) t))
        other_follows =
            let rest_is : rest ≡ drop (place + length front) t = sym (drop_front front rest) ∙ ap (drop (length front)) (sym cut) ∙ drop-drop (length front) place t in
            ap (follow a (between p) place place) cut
            ∙ follow_reads a law reads place place rest
            ∙ one_in_front (record { place = place; item = i }) (follow a (between (behind i)) (place + length front) (place + length front) rest)
            ∙ (λ k. prepended (sym has k) (follow a (between (same k)) (place + length front) (place + length front) (rest_is k)))
            ∙ ap (λ l. prepended (items_at a place x) (follow a (between (behind_lexeme x)) (place + length l) (place + length l) (drop (place + length l) t))) (sym spelled)

        -- so the token means the item
        other_means : 3 * run_count x ≤ length front → 2 ≤ length front + taken p → 0 < length front → Means x
        other_means runs two some = record {
          follows = other_follows;
          runs = omega (arith, ap length spelled, runs);
          items = omega (arith, ap length spelled, ap length has, taken_few (behind_lexeme x), two);
          some = omega (arith, ap length spelled, some);
        }

      -- what is read has characters
      reads_some : {s : State} {u : List ℕ} {i : Item} → Reads a s u i → 0 < length u
      reads_some (Follows.ends d) = omega arith
      reads_some (Follows.more g r) = omega arith

      -- the token of any other item
      module _ (front rest : List ℕ) (to : ℕ) (cut : drop place t ≡ front ++ rest) (end : to ≡ place + length front) where
        said_means : (i : Item) → ((c : ℕ) → i ≡ item.literal c → ⊥) → Reads a (between p) front i → Says a i front → Means (lexeme_of a t place to i)
        said_means (item.literal c) not reads says = absurd (not c refl)
        said_means item.any not reads says =
            other_means item.any front rest to any reads cut end (says_written a t place item.any front rest to not cut end says) refl refl
            (omega arith) (omega (arith, ap length says)) (reads_some reads)
        said_means (item.group runs) not reads (inner, e, two, h) =
            let x = lexeme_of a t place to (item.group runs) in
            let text = inner_text a t place (codes "(") front rest inner 41 to e cut end in
            let runs_are : runs_in a (slice t (place + 1) (to - 1)).text ≡ runs = ap (runs_in a) text ∙ runs_said runs inner h in
            let many : length (between_bars (slice t (place + 1) (to - 1)).text) ≡ length runs = sym (length-map (between_bars (slice t (place + 1) (to - 1)).text) (codes_in a)) ∙ ap length runs_are in
            let long : length front ≡ length inner + 2 = ap length e ∙ simp length-append (omega arith) in
            other_means (item.group runs) front rest to x reads cut end (says_written a t place (item.group runs) front rest to not cut end (inner, e, two, h))
            (λ k. record { place = place; item = item.group (runs_are k) } ∷ []) refl
            (omega (arith, many, alternatives_length runs inner h, long)) (omega (arith, long)) (reads_some reads)
        said_means (item.range d true low high) not reads (same, (inner, e, (lo, hi, f, first, second))) =
            let long = literals_length a low lo first.1 in
            let low_is = ap (codes_in a) (low_text a t place (codes "[") front rest inner lo hi (length low) to e f long cut end) ∙ codes_said low lo first.1 in
            let high_is = ap (codes_in a) (high_text a t place (codes "[") front rest inner lo hi (length low) to e f long cut end) ∙ codes_said high hi second.1 in
            let size : length front ≡ length inner + 2 = ap length e ∙ simp length-append (omega arith) in
            other_means (item.range d true low high) front rest to (lexeme_of a t place to (item.range d true low high)) reads cut end
            (says_written a t place (item.range d true low high) front rest to not cut end (same, (inner, e, (lo, hi, f, first, second))))
            (λ k. record { place = place; item = item.range (sym same k) true (low_is k) (high_is k) } ∷ []) refl
            (omega arith) (omega (arith, size)) (reads_some reads)
        said_means (item.range d false low high) not reads (same, (inner, e, (lo, hi, f, first, second))) =
            let long = literals_length a low lo first.1 in
            let low_is = ap (codes_in a) (low_text a t place (codes "[!") front rest inner lo hi (length low) to e f long cut end) ∙ codes_said low lo first.1 in
            let high_is = ap (codes_in a) (high_text a t place (codes "[!") front rest inner lo hi (length low) to e f long cut end) ∙ codes_said high hi second.1 in
            let size : length front ≡ length inner + 3 = ap length e ∙ simp length-append (omega arith) in
            other_means (item.range d false low high) front rest to (lexeme_of a t place to (item.range d false low high)) reads cut end
            (says_written a t place (item.range d false low high) front rest to not cut end (same, (inner, e, (lo, hi, f, first, second))))
            (λ k. record { place = place; item = item.range (sym same k) false (low_is k) (high_is k) } ∷ []) refl
            (omega arith) (omega (arith, size)) (reads_some reads)
        said_means (item.other run) not reads (inner, e, h) =
            let run_is = ap (codes_in a) (inner_text a t place (codes "[!") front rest inner 93 to e cut end) ∙ codes_said run inner h.1 in
            let size : length front ≡ length inner + 3 = ap length e ∙ simp length-append (omega arith) in
            other_means (item.other run) front rest to (lexeme_of a t place to (item.other run)) reads cut end
            (says_written a t place (item.other run) front rest to not cut end (inner, e, h))
            (λ k. record { place = place; item = item.other (run_is k) } ∷ []) refl
            (omega arith) (omega (arith, size)) (reads_some reads)
        said_means (item.gap least most) not reads says =
            let some = reads_some reads in
            other_means (item.gap least most) front rest to (lexeme_of a t place to (item.gap least most)) reads cut end
            (says_written a t place (item.gap least most) front rest to not cut end says) refl refl
            (omega arith) (omega (arith, gap_behind p (reads_allowed a reads), some)) some

      -- the token of an item that is no literal
      thing : (i : Item) (to : ℕ) → ((c : ℕ) → i ≡ item.literal c → ⊥) → Completes a t (between p) place i to → Means (lexeme_of a t place to i)
      thing i to not e =
          let h = item_reads a (drop place t) (between p) place i to e in
          said_means h.0 h.1 to h.2 h.3 i not h.4 (reads_says a h.4)

      -- a literal begins with a pair
      literal_pairs : (u : List ℕ) (c to : ℕ) → item_from a (between p) place u ≡ Ok (item.literal c, to) → 0 < pairs a u
      literal_pairs u c to e =
          let h = item_reads a u (between p) place (item.literal c) to e in
          let says = reads_says a h.4 in
          subst (λ l. 0 < pairs a l) (sym (h.2 ∙ ap (λ l. l ++ h.1) says.5)) (subst (λ b. 0 < cond b (suc (pairs a h.1)) 0) (sym (ap is_some says.3)) (omega arith))

      -- the token of what the text completes
      completes_means : (i : Item) (to : ℕ) → Completes a t (between p) place i to → Means (lexeme_of a t place to i)
      completes_means (item.literal c) to e = literals_mean (literal_pairs (drop place t) c to e)
      completes_means item.any to e = thing item.any to (λ c h. cc) e
      completes_means (item.group runs) to e = thing (item.group runs) to (λ c h. cc) e
      completes_means (item.range d inside low high) to e = thing (item.range d inside low high) to (λ c h. cc) e
      completes_means (item.other run) to e = thing (item.other run) to (λ c h. cc) e
      completes_means (item.gap least most) to e = thing (item.gap least most) to (λ c h. cc) e

      -- what the lexer's definition says of the reader's: a token
      pub token_means : (x : Lexeme) → lexed a t p place ≡ Ok (Some x) → Means x
      token_means x e = go (ltb place (length t)) e
        where
          by_item : (r : Result (Item × ℕ) ℕ) → item_from a (between p) place (drop place t) ≡ r → lexeme_at a t place r ≡ Ok (Some x) → Means x
          by_item (Ok r) is e = subst Means (same_token (lexeme_of a t place r.1 r.0) x e) (completes_means r.0 r.1 is)
          by_item (Err n) is e = absurd (grind arith)

          at_end : (b : Bool) → cond {A = Result (Option Lexeme) ℕ} b (Ok None) (Err place) ≡ Ok (Some x) → Means x
          at_end true e = absurd (grind arith)
          at_end false e = absurd (grind arith)

          go : (b : Bool) → cond b (lexeme_at a t place (item_from a (between p) place (drop place t))) (cond (may_end p) (Ok None) (Err place)) ≡ Ok (Some x) → Means x
          go true e = by_item (item_from a (between p) place (drop place t)) refl e
          go false e = at_end (may_end p) e

      -- the end
      pub end_follows : lexed a t p place ≡ Ok None → follow a (between p) place place (drop place t) ≡ Ok []
      end_follows e = go (ltb place (length t)) refl e
        where
          by_item : (r : Result (Item × ℕ) ℕ) → lexeme_at a t place r ≡ Ok None → ⊥
          by_item (Ok r) e = grind arith
          by_item (Err n) e = grind arith

          at_end : (b : Bool) → may_end p ≡ b → length t ≤ place → cond {A = Result (Option Lexeme) ℕ} b (Ok None) (Err place) ≡ Ok None → follow a (between p) place place (drop place t) ≡ Ok []
          at_end true is h e = ap (follow a (between p) place place) (drop_all place t h) ∙ cond-true (may_end p) _ _ is
          at_end false is h e = absurd (grind arith)

          go : (b : Bool) → ltb place (length t) ≡ b → cond b (lexeme_at a t place (item_from a (between p) place (drop place t))) (cond (may_end p) (Ok None) (Err place)) ≡ Ok None → follow a (between p) place place (drop place t) ≡ Ok []
          go true h e = absurd (by_item (item_from a (between p) place (drop place t)) e)
          go false h e = at_end (may_end p) refl (ltb-false place (length t) h) e

      -- the place where it stops
      pub stop_follows : (n : ℕ) → lexed a t p place ≡ Err n → follow a (between p) place place (drop place t) ≡ Err n
      stop_follows n e = go (ltb place (length t)) refl e
        where
          same_place : (m : ℕ) → ◌≡◌ {A = Result (Option Lexeme) ℕ} (Err m) (Err n) → m ≡ n
          same_place m e = cc

          some_left : place < length t → drop place t ≡ [] → finished a (between p) ≡ false
          some_left h none = absurd (omega (arith, ap length none, length-drop place t))

          by_item : place < length t → (r : Result (Item × ℕ) ℕ) → item_from a (between p) place (drop place t) ≡ r → lexeme_at a t place r ≡ Err n → follow a (between p) place place (drop place t) ≡ Err n
          by_item h (Ok r) is e = absurd (grind arith)
          by_item h (Err m) is e = stops_follow (drop place t) (between p) place place n (is ∙ ap Err (same_place m e)) (some_left h)

          at_end : (b : Bool) → may_end p ≡ b → length t ≤ place → cond {A = Result (Option Lexeme) ℕ} b (Ok None) (Err place) ≡ Err n → follow a (between p) place place (drop place t) ≡ Err n
          at_end true is h e = absurd (grind arith)
          at_end false is h e = ap (follow a (between p) place place) (drop_all place t h) ∙ cond-false (may_end p) _ _ is ∙ ap Err (same_place place e)

          go : (b : Bool) → ltb place (length t) ≡ b → cond b (lexeme_at a t place (item_from a (between p) place (drop place t))) (cond (may_end p) (Ok None) (Err place)) ≡ Err n → follow a (between p) place place (drop place t) ≡ Err n
          go true h e = by_item (ltb-true place (length t) h) (item_from a (between p) place (drop place t)) refl e
          go false h e = at_end (may_end p) refl (ltb-false place (length t) h) e
