-- What a text does from a place on: one character, a number, the end.
use Rattle.std.proofs.Common.{◌≡◌, ℕ, suc, Ok, Err, Result, ◌+◌, ◌-◌, ◌*◌, ◌<◌, ◌≤◌, Bool, true, false, eqb, List, [], ◌∷◌, ◌++◌, length, get_or, take, drop, sym, refl, ap, ◌∙◌, ⊎_elim, add-zero, arith, length-drop, take-append-drop, length-take-le}
use Rattle.std.proofs.lemmas.List.{drop_more, drop_all, drop-drop}
use Rattle.std.proofs.lemmas.Bool.{cases_lt, cond-true, cond-false, lt-ltb, le-ltb, ne_eqb, and_left}
use Rattle.kinds.specs.Alphabet.{Alphabet, within}
use Rattle.patterns.specs.Grammar.{Digits, followed_by}
use Rattle.patterns.specs.Patterns.{Item}
use Rattle.patterns.specs.Reader.{State, digits, Numeral, Next, stuck, goes_on, complete, only_if, closed, behind_digits, next}
use Rattle.patterns.specs.Reader.{least as lower, most as upper}
use Rattle.patterns.proofs.Steps.{only_true}
use Rattle.lexer.specs.Scanning.{LongestNumber, Stops}
use Rattle.lexer.specs.Tokens.{item_from}

-- a step under a test that fails
pub only_false : (b : Bool) (n : Next) → b ≡ false → only_if b n ≡ stuck
only_false b n e = ap (λ x. only_if x n) e

-- a character at which two tests disagree is not both
not_digit : (c d : ℕ) → within 48 57 d ≡ false → within 48 57 c ≡ true → eqb c d ≡ false
not_digit c d e h = ne_eqb c d (λ same. absurd (both (within 48 57 c) h (ap (within 48 57) same ∙ e)))
  where
    both : (b : Bool) → b ≡ true → b ≡ false → ⊥
    both b p q = grind arith

module _ {E : Type 0} (a : Alphabet E) where
  -- behind k digits a character that is neither a digit with room for it nor a closing brace
  pub next_behind_digits : (n : Numeral) (k v c : ℕ) → (k < 4 → within 48 57 c ≡ false) → eqb c 125 ≡ false → next a (digits n k v) c ≡ behind_digits a n k v c
  next_behind_digits n k v c room e = go (within 48 57 c) refl
    where
      no_step : (n : Numeral) → within 48 57 c ≡ true → behind_digits a n k v c ≡ stuck
      no_step lower h = only_false _ _ (and_left _ _ (not_digit c 45 refl h))
      no_step (upper m) h = only_false _ _ (and_left _ _ (not_digit c 42 refl h))

      full : within 48 57 c ≡ true → 4 ≤ k
      full h = ⊎_elim (λ l. absurd (clash (within 48 57 c) h (room l))) (λ g. g) (cases_lt k 4)
        where
          clash : (b : Bool) → b ≡ true → b ≡ false → ⊥
          clash b p q = grind arith

      go : (b : Bool) → within 48 57 c ≡ b → next a (digits n k v) c ≡ behind_digits a n k v c
      go true h = cond-true _ _ _ h ∙ only_false _ _ (le-ltb k 4 (full h)) ∙ sym (no_step n h)
      go false h = cond-false _ _ _ h ∙ cond-false _ _ _ e

  -- a closing brace behind a number
  pub next_closed : (n : Numeral) (k v c : ℕ) → 1 ≤ k → c ≡ 125 → next a (digits n k v) c ≡ complete (closed a n v)
  next_closed n k v c some e = ap (next a (digits n k v)) e ∙ only_true _ _ (lt-ltb 0 k (omega arith))

  -- one digit more
  next_digit : (n : Numeral) (k v c : ℕ) → k < 4 → within 48 57 c ≡ true → next a (digits n k v) c ≡ goes_on (digits n (suc k) (10 * v + (c - 48)))
  next_digit n k v c room h = cond-true _ _ _ h ∙ only_true _ _ (lt-ltb k 4 room)

  -- what a text does behind a character, by what the character does
  abbrev pub onward : Next → ℕ → List ℕ → Result (Item × ℕ) ℕ
  onward n place t =
      elim n [
        | stuck ↦ Err place
        | goes_on s ↦ item_from a s (place + 1) t
        | complete i ↦ Ok (i, place + 1)
      ]

  -- digits, one after the other
  digits_run : (n : Numeral) (ds : List ℕ) (k v place : ℕ) (rest : List ℕ) → Digits ds → k + length ds ≤ 4 → item_from a (digits n k v) place (ds ++ rest) ≡ item_from a (digits n (k + length ds) (followed_by v ds)) (place + length ds) rest
  digits_run n [] k v place rest all room =
      let p : place ≡ place + 0 = sym (add-zero place) in
      let q : k ≡ k + 0 = sym (add-zero k) in
      ap (λ i. item_from a (digits n i v) place rest) q ∙ ap (λ i. item_from a (digits n (k + 0) v) i rest) p
  digits_run n (d ∷ ds) k v place rest all room =
      let on : suc k + length ds ≡ k + suc (length ds) = omega arith in
      let later : place + 1 + length ds ≡ place + suc (length ds) = omega arith in
      ap (λ s. onward s place (ds ++ rest)) (next_digit n k v d (omega arith) all.0)
      ∙ digits_run n ds (suc k) (10 * v + (d - 48)) (place + 1) rest all.1 (omega arith)
      ∙ ap (λ i. item_from a (digits n i (followed_by (10 * v + (d - 48)) ds)) (place + 1 + length ds) rest) on
      ∙ ap (λ i. item_from a (digits n (k + suc (length ds)) (followed_by (10 * v + (d - 48)) ds)) i rest) later

  module _ (t : List ℕ) where
    -- one character
    pub step : (s : State) (place : ℕ) → place < length t → item_from a s place (drop place t) ≡ onward (next a s (get_or t place 0)) place (drop (place + 1) t)
    step s place h = ap (item_from a s place) (drop_more t place 0 h)

    -- the same, where what the character does is known
    pub step_by : (s : State) (n : Next) (place : ℕ) → place < length t → next a s (get_or t place 0) ≡ n → item_from a s place (drop place t) ≡ onward n place (drop (place + 1) t)
    step_by s n place h e = step s place h ∙ ap (λ x. onward x place (drop (place + 1) t)) e

    -- a text that ends, or goes on with a character that cannot stand, stops there
    pub stops_here : (s : State) (place : ℕ) → (place < length t → next a s (get_or t place 0) ≡ stuck) → Stops a t s place place
    stops_here s place none =
        ⊎_elim
        (λ h. step_by s stuck place h (none h))
        (λ h. ap (item_from a s place) (drop_all place t h))
        (cases_lt place (length t))

    -- a number
    pub number_run : (n : Numeral) (place : ℕ) (r : ℕ × ℕ) (found : LongestNumber t place r) → item_from a (digits n 0 0) place (drop place t) ≡ item_from a (digits n found.0 r.0) r.1 (drop r.1 t)
    number_run n place r found =
        let count = found.0 in
        let ds = take count (drop place t) in
        let long : length ds ≡ count = length-take-le count (drop place t) (simp length-drop (omega arith)) in
        let cut : drop place t ≡ ds ++ drop r.1 t = sym (take-append-drop count (drop place t)) ∙ ap (λ l. ds ++ l) (drop-drop count place t ∙ ap (λ k. drop k t) (sym found.1)) in
        let counted : 0 + length ds ≡ count = omega arith in
        let later : place + length ds ≡ r.1 = omega arith in
        ap (item_from a (digits n 0 0) place) cut
        ∙ digits_run n ds 0 0 place (drop r.1 t) found.5 (omega arith)
        ∙ ap (λ k. item_from a (digits n k (followed_by 0 ds)) (place + length ds) (drop r.1 t)) counted
        ∙ ap (λ k. item_from a (digits n count (followed_by 0 ds)) k (drop r.1 t)) later
        ∙ ap (λ v. item_from a (digits n count v) r.1 (drop r.1 t)) (sym found.6)
