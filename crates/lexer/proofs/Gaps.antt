-- What a text does with a gap in braces, by the numbers and characters that stand there.
use Rattle.std.proofs.Common.{◌≡◌, ℕ, ◌+◌, ◌<◌, ◌≤◌, true, false, eqb, ltb, List, length, get_or, drop, Some, None, Option, refl, ap, ◌∙◌, ⊎_elim, arith}
use Rattle.std.proofs.lemmas.Bool.{eqb-true, eq-eqb, ltb-true, lt-ltb, ne_eqb, and_parts, and_cases, and_left, and_right, and_from, both_ways}
use Rattle.kinds.specs.Alphabet.{Alphabet, within}
use Rattle.patterns.specs.Patterns.{Item, gap}
use Rattle.patterns.specs.Reader.{State, digits, endless, Numeral, stuck, goes_on, complete, closed, behind_digits, next}
use Rattle.patterns.specs.Reader.{least as lower, most as upper}
use Rattle.lexer.specs.Scanning.{standing, LongestNumber, Completes, Stops}
use Rattle.lexer.specs.Tokens.{item_from}
use Rattle.patterns.proofs.Steps.{only_true}
use Rattle.lexer.proofs.Machine.{only_false, next_behind_digits, next_closed, step_by, stops_here, number_run}

module _ (t : List ℕ) (place c : ℕ) where
  -- where it does, it is the text's there
  pub stands_true : standing t place c ≡ true → (place < length t) × (get_or t place 0 ≡ c)
  stands_true e =
      let parts = and_parts (ltb place (length t)) (eqb (get_or t place 0) c) e in
      (ltb-true place (length t) parts.0, eqb-true (get_or t place 0) c parts.1)

  -- where the text has it, it does
  pub stands : place < length t → get_or t place 0 ≡ c → standing t place c ≡ true
  stands h e = and_from (ltb place (length t)) (eqb (get_or t place 0) c) (lt-ltb place (length t) h) (eq-eqb (get_or t place 0) c e)

  -- where it does not, the text has another there, if it goes on
  pub stands_false : standing t place c ≡ false → place < length t → eqb (get_or t place 0) c ≡ false
  stands_false e h =
      ⊎_elim
      (λ out. absurd (both_ways (ltb place (length t)) out (lt-ltb place (length t) h)))
      (λ other. other)
      (and_cases (ltb place (length t)) (eqb (get_or t place 0) c) e)

module _ {E : Type 0} (a : Alphabet E) where
  -- one digit or more was read, and the character cannot stand behind it
  digits_stop : (n : Numeral) (k v c : ℕ) → (k < 4 → within 48 57 c ≡ false) → eqb c 125 ≡ false → behind_digits a n k v c ≡ stuck → next a (digits n k v) c ≡ stuck
  digits_stop n k v c room brace other = next_behind_digits a n k v c room brace ∙ other

  module _ (t : List ℕ) where
    -- a text completes an item in a state from a place on, behind which it goes on
    abbrev pub CompletesAt : State → ℕ → Item → ℕ → Type 0
    CompletesAt s place i later = (place < later) × (later ≤ length t) × Completes a t s place i later

  module _ (t : List ℕ) (place : ℕ) where
    -- a star in the place of the greatest length
    pub star_steps : (m : ℕ) → standing t place 42 ≡ true → item_from a (digits (upper m) 0 0) place (drop place t) ≡ item_from a (endless m) (place + 1) (drop (place + 1) t)
    star_steps m star =
        let here = stands_true t place 42 star in
        step_by a t (digits (upper m) 0 0) (goes_on (endless m)) place here.0 (ap (next a (digits (upper m) 0 0)) here.1)

    module _ (r : ℕ × ℕ) (found : LongestNumber t place r) where
      -- a number and a closing brace
      pub number_closed : (n : Numeral) → standing t r.1 125 ≡ true → Completes a t (digits n 0 0) place (closed a n r.0) (r.1 + 1)
      number_closed n brace =
          let here = stands_true t r.1 125 brace in
          number_run a t n place r found
          ∙ step_by a t (digits n found.0 r.0) (complete (closed a n r.0)) r.1 here.0 (next_closed a n found.0 r.0 (get_or t r.1 0) found.2 here.1)

      -- a number, and nothing that may stand behind it
      number_stops : (n : Numeral) → standing t r.1 125 ≡ false → (r.1 < length t → behind_digits a n found.0 r.0 (get_or t r.1 0) ≡ stuck) → Stops a t (digits n 0 0) place r.1
      number_stops n brace other =
          number_run a t n place r found
          ∙ stops_here a t (digits n found.0 r.0) r.1
          (λ h. digits_stop n found.0 r.0 (get_or t r.1 0) (λ room. found.7 room h) (stands_false t r.1 125 brace h) (other h))

      -- the same of the least length
      pub least_stops : standing t r.1 45 ≡ false → standing t r.1 125 ≡ false → Stops a t (digits lower 0 0) place r.1
      least_stops dash brace = number_stops lower brace (λ h. only_false _ _ (and_left _ (ltb 0 found.0) (stands_false t r.1 45 dash h)))

      -- and of the greatest
      pub most_stops : (m : ℕ) → standing t r.1 125 ≡ false → Stops a t (digits (upper m) 0 0) place r.1
      most_stops m brace = number_stops (upper m) brace (λ h. only_false _ _ (and_right (eqb (get_or t r.1 0) 42) _ (ne_eqb found.0 0 (λ e. omega (arith, found.2)))))

      -- a number and a dash
      pub dash_steps : standing t r.1 45 ≡ true → item_from a (digits lower 0 0) place (drop place t) ≡ item_from a (digits (upper r.0) 0 0) (r.1 + 1) (drop (r.1 + 1) t)
      dash_steps dash =
          let here = stands_true t r.1 45 dash in
          number_run a t lower place r found
          ∙ step_by a t (digits lower found.0 r.0) (goes_on (digits (upper r.0) 0 0)) r.1 here.0
          (ap (next a (digits lower found.0 r.0)) here.1 ∙ only_true _ _ (and_from (eqb 45 45) _ refl (lt-ltb 0 found.0 found.2)))

  module _ (t : List ℕ) (place : ℕ) where
    -- a gap without upper end: its closing brace
    pub endless_closed : (m : ℕ) → standing t place 125 ≡ true → Completes a t (endless m) place (gap m None) (place + 1)
    endless_closed m brace =
        let here = stands_true t place 125 brace in
        step_by a t (endless m) (complete (gap m None)) place here.0 (ap (next a (endless m)) here.1)

    -- no closing brace stands there
    pub endless_stops : (m : ℕ) → standing t place 125 ≡ false → Stops a t (endless m) place place
    endless_stops m brace = stops_here a t (endless m) place (λ h. only_false _ _ (stands_false t place 125 brace h))

  module _ (t : List ℕ) (m place : ℕ) where
    -- what a closing brace decides behind the upper end of a gap, which may be none
    pub record UpperEnd (x : Option ℕ × ℕ) : Type 0 where
      pub brace : standing t x.1 125 ≡ true → CompletesAt t (digits (upper m) 0 0) place (gap m x.0) (x.1 + 1)
      pub none : standing t x.1 125 ≡ false → Stops a t (digits (upper m) 0 0) place x.1

    -- a star
    pub star_end : standing t place 42 ≡ true → UpperEnd (None, place + 1)
    star_end star = record {
      brace = λ brace. (omega arith, omega (arith, (stands_true t (place + 1) 125 brace).0), star_steps t place m star ∙ endless_closed t (place + 1) m brace);
      none = λ brace. star_steps t place m star ∙ endless_stops t (place + 1) m brace;
    }

    -- a number
    pub number_end : (r : ℕ × ℕ) → LongestNumber t place r → UpperEnd (Some r.0, r.1)
    number_end r found = record {
      brace = λ brace. (omega (arith, found.1), omega (arith, (stands_true t r.1 125 brace).0), number_closed t place r found (upper m) brace);
      none = most_stops t place r found m;
    }

  module _ (t : List ℕ) (place : ℕ) (r : ℕ × ℕ) (found : LongestNumber t place r) where
    -- a gap with one number
    pub one_number : standing t r.1 125 ≡ true → CompletesAt t (digits lower 0 0) place (gap r.0 (Some r.0)) (r.1 + 1)
    one_number brace = (omega (arith, found.1), omega (arith, (stands_true t r.1 125 brace).0), number_closed t place r found lower brace)

    -- what follows a dash is read as a part of the same gap
    pub dash_completes : (i : Item) (later : ℕ) → standing t r.1 45 ≡ true → CompletesAt t (digits (upper r.0) 0 0) (r.1 + 1) i later → CompletesAt t (digits lower 0 0) place i later
    dash_completes i later dash h = (omega (arith, found.1, h.0), h.1, dash_steps t place r found dash ∙ h.2)

    -- and what cannot be read there cannot be read as a part of it
    pub dash_stops : (at : ℕ) → standing t r.1 45 ≡ true → Stops a t (digits (upper r.0) 0 0) (r.1 + 1) at → Stops a t (digits lower 0 0) place at
    dash_stops at dash h = dash_steps t place r found dash ∙ h
