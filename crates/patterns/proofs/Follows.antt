-- The reader follows a text item by item: what it reads of an item, and what it does with the rest.
use Rattle.std.proofs.Common.{◌≡◌, ℕ, suc, ◌+◌, Bool, true, false, cond, ◌⊎◌, List, [], ◌∷◌, ◌++◌, length, Ok, Err, Result, sym, refl, ap, ◌∙◌, inl, inr, arith}
use Rattle.std.proofs.lemmas.Bool.{both_ways}
use Rattle.kinds.specs.Alphabet.{Alphabet, Lawful}
use Rattle.patterns.specs.Grammar.{Placed, behind}
use Rattle.patterns.specs.Patterns.{Item}
use Rattle.patterns.specs.Reader.{State, between, Next, stuck, goes_on, complete, next, finished, in_front, follow}
use Rattle.patterns.proofs.Steps.{Goes, Done, Outcome, outcome, goes_inside, goes_next, done_next}

-- characters that lead from a state to the end of an item
pub data Reads {E : Type 0} (a : Alphabet E) : State → List ℕ → Item → Type 0 where
  ends : {s : State} {c : ℕ} {i : Item} → Done a s c i → Reads a s (c ∷ []) i
  more : {s : State} {c : ℕ} {s' : State} {t : List ℕ} {i : Item} → Goes a s c s' → Reads a s' t i → Reads a s (c ∷ t) i

module _ {E : Type 0} (a : Alphabet E) where
  -- what the reader does with the rest, by what it did with a character
  abbrev pub onward : Next → ℕ → ℕ → List ℕ → Result (List Placed) ℕ
  onward n from place t =
      elim n [
        | stuck ↦ Err place
        | goes_on s' ↦ follow a s' from (place + 1) t
        | complete i ↦ in_front a (record { place = from; item = i }) (follow a (between (behind i)) (place + 1) (place + 1) t)
      ]

  -- one character of a text
  pub follow_next : (s : State) (from place c : ℕ) (t : List ℕ) (n : Next) → next a s c ≡ n → follow a s from place (c ∷ t) ≡ onward n from place t
  follow_next s from place c t n e = ap (λ m. onward m from place t) e

  -- an item and the rest of a text
  abbrev pub Found : State → ℕ → ℕ → List ℕ → List Placed → Type 0
  Found s from place t qs =
      (front : List ℕ) × (rest : List ℕ) × (i : Item) × (others : List Placed)
      × (t ≡ front ++ rest) × (qs ≡ record { place = from; item = i } ∷ others)
      × Reads a s front i × (follow a (between (behind i)) (place + length front) (place + length front) rest ≡ Ok others)

  -- an item in front of what was read
  in_front_ok : (q : Placed) (r : Result (List Placed) ℕ) (qs : List Placed) → in_front a q r ≡ Ok qs → (others : List Placed) × (qs ≡ q ∷ others) × (r ≡ Ok others)
  in_front_ok q (Ok others) qs e = (others, cc, refl)
  in_front_ok q (Err n) qs e = absurd (grind arith)

  -- one character more before what is found within an item
  found_more : (s s' : State) (from place c : ℕ) (t : List ℕ) (qs : List Placed) → Goes a s c s'
      → ((t ≡ []) × (qs ≡ []) × (finished a s' ≡ true)) ⊎ Found s' from (place + 1) t qs → Found s from place (c ∷ t) qs
  found_more s s' from place c t qs g (inl h) = absurd (both_ways (finished a s') (goes_inside a g) h.2)
  found_more s s' from place c t qs g (inr (front, rest, i, others, cut, items, reads, onwards)) =
      let on : place + 1 + length front ≡ place + suc (length front) = omega arith in
      (c ∷ front, rest, i, others, ap (λ l. c ∷ l) cut, items, more g reads, ap (λ n. follow a (between (behind i)) n n rest) (sym on) ∙ onwards)

  -- a text that is read through is at its end, or begins with an item
  pub found : (t : List ℕ) (s : State) (from place : ℕ) (qs : List Placed) → follow a s from place t ≡ Ok qs → ((t ≡ []) × (qs ≡ []) × (finished a s ≡ true)) ⊎ Found s from place t qs
  found [] s from place qs e = at_end (finished a s) refl e
    where
      at_end : (b : Bool) → finished a s ≡ b → cond b (Ok []) (Err place) ≡ Ok qs → ((◌≡◌ {A = List ℕ} [] []) × (qs ≡ []) × (finished a s ≡ true)) ⊎ Found s from place [] qs
      at_end true f e = inl (refl, cc, f)
      at_end false f e = absurd (grind arith)
  found (c ∷ t) s from place qs e = inr (by_outcome (next a s c) (outcome a s c) e (found t))
    where
      by_outcome : (n : Next) → Outcome a s c n → onward n from place t ≡ Ok qs
          → ((s : State) (from place : ℕ) (qs : List Placed) → follow a s from place t ≡ Ok qs → ((t ≡ []) × (qs ≡ []) × (finished a s ≡ true)) ⊎ Found s from place t qs)
          → Found s from place (c ∷ t) qs
      by_outcome stuck o e ih = absurd (grind arith)
      by_outcome (goes_on s') o e ih = found_more s s' from place c t qs o (ih s' from (place + 1) qs e)
      by_outcome (complete i) o e ih =
          let rest = in_front_ok (record { place = from; item = i }) (follow a (between (behind i)) (place + 1) (place + 1) t) qs e in
          (c ∷ [], t, i, rest.0, refl, rest.1, ends o, rest.2)

  module _ (law : Lawful a) where
    -- the reader reads an item, then the rest
    pub follow_reads : {s : State} {t : List ℕ} {i : Item} → Reads a s t i → (from place : ℕ) (rest : List ℕ)
        → follow a s from place (t ++ rest) ≡ in_front a (record { place = from; item = i }) (follow a (between (behind i)) (place + length t) (place + length t) rest)
    follow_reads (ends {s} {c} {i} d) from place rest = follow_next s from place c rest (complete i) (done_next a law d)
    follow_reads (more {s} {c} {s'} {t} {i} g r) from place rest =
        let on : place + 1 + length t ≡ place + suc (length t) = omega arith in
        follow_next s from place c (t ++ rest) (goes_on s') (goes_next a law g)
        ∙ follow_reads r from (place + 1) rest
        ∙ ap (λ n. in_front a (record { place = from; item = i }) (follow a (between (behind i)) n n rest)) on
