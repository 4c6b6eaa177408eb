-- What one character does to the reader, as a relation: the steps within an item, and the steps that complete one.
use Rattle.std.proofs.Common.{◌≡◌, ℕ, suc, ◌+◌, ◌-◌, ◌*◌, Bool, true, false, cond, not, ◌&&◌, eqb, ltb, List, [], ◌∷◌, ◌++◌, length, Some, None, Option, sym, refl, ap, ◌∙◌, subst, subst₂, arith}
use Rattle.std.proofs.lemmas.Bool.{eqb-true, and_parts, and_from, cond_both, cond-true, cond-false}
use Rattle.kinds.specs.Alphabet.{Alphabet, Lawful, within, alphanumeric}
use Rattle.patterns.specs.Grammar.{Position, gap_allowed}
use Rattle.patterns.specs.Patterns.{Item, literal, any, group, range, other, gap}
use Rattle.patterns.specs.Reader.{State, between, asked, half, alternatives, bracket, low, high, digits, endless, Numeral, least, most, Next, stuck, goes_on, complete, begun, only_if, leads, with_code, with_element, pair_in, closed, behind_digits, next, finished}
use Rattle.patterns.specs.declared.direction.Direction.TheVariants.{FirstOn}
use Rattle.patterns.proofs.Texts.{no_sign, leads_alphanumeric}

-- an element's code leads from one state to another
pub data Takes : State → ℕ → State → Type 0 where
  in_group : (runs : List (List ℕ)) (run : List ℕ) (c : ℕ) → Takes (alternatives runs run) c (alternatives runs (run ++ c ∷ []))
  in_bracket : (c : ℕ) → Takes bracket c (low true (c ∷ []))
  in_low : (inside : Bool) (run : List ℕ) (c : ℕ) → Takes (low inside run) c (low inside (run ++ c ∷ []))
  in_high : (inside : Bool) (lower run : List ℕ) (c : ℕ) → Takes (high inside lower run) c (high inside lower (run ++ c ∷ []))

-- a pair may begin in a state
abbrev pub takes_pair : State → Bool
takes_pair (between p) = true
takes_pair asked = false
takes_pair (half s f) = false
takes_pair (alternatives runs run) = true
takes_pair bracket = true
takes_pair (low inside run) = true
takes_pair (high inside lower run) = true
takes_pair (digits n k v) = false
takes_pair (endless m) = false

-- a character leads from one state to another, within an item
pub data Goes {E : Type 0} (a : Alphabet E) : State → ℕ → State → Type 0 where
  ask : (p : Position) → Goes a (between p) 63 asked
  open_group : (p : Position) → Goes a (between p) 40 (alternatives [] [])
  open_bracket : (p : Position) → Goes a (between p) 91 bracket
  open_brace : (p : Position) → gap_allowed p ≡ true → Goes a (between p) 123 (digits least 0 0)
  first : (s : State) (c : ℕ) → takes_pair s ≡ true → leads a c ≡ true → Goes a s c (half s c)
  second : (s s' : State) (f c : ℕ) (x : E) → a.named f c ≡ Some x → Takes s (a.code x) s' → Goes a (half s f) c s'
  bar : (runs : List (List ℕ)) (run : List ℕ) → begun run ≡ true → Goes a (alternatives runs run) 124 (alternatives (runs ++ run ∷ []) [])
  exclude : Goes a bracket 33 (low false [])
  colon : (inside : Bool) (run : List ℕ) → begun run ≡ true → Goes a (low inside run) 58 (high inside run [])
  digit : (n : Numeral) (k v c : ℕ) → within 48 57 c ≡ true → ltb k 4 ≡ true → Goes a (digits n k v) c (digits n (suc k) (10 * v + (c - 48)))
  dash : (k v : ℕ) → ltb 0 k ≡ true → Goes a (digits least k v) 45 (digits (most v) 0 0)
  unbounded : (m v : ℕ) → Goes a (digits (most m) 0 v) 42 (endless m)

-- a character completes an item
pub data Done {E : Type 0} (a : Alphabet E) : State → ℕ → Item → Type 0 where
  star : (p : Position) → gap_allowed p ≡ true → Done a (between p) 42 (gap 0 None)
  pair : (p : Position) (f c : ℕ) (x : E) → a.named f c ≡ Some x → Done a (half (between p) f) c (literal (a.code x))
  asked_twice : Done a asked 63 any
  close_group : (runs : List (List ℕ)) (run : List ℕ) → begun run ≡ true → ltb 0 (length runs) ≡ true → Done a (alternatives runs run) 41 (group (runs ++ run ∷ []))
  close_low : (run : List ℕ) → begun run ≡ true → Done a (low false run) 93 (other run)
  close_high : (inside : Bool) (lower run : List ℕ) → begun run ≡ true → Done a (high inside lower run) 93 (range FirstOn inside lower run)
  close_gap : (n : Numeral) (k v : ℕ) → ltb 0 k ≡ true → Done a (digits n k v) 125 (closed a n v)
  close_endless : (m : ℕ) → Done a (endless m) 125 (gap m None)

-- the step that an outcome of the reader stands for
abbrev pub Outcome : {E : Type 0} → Alphabet E → State → ℕ → Next → Type 0
Outcome a s c stuck = Unit {0}
Outcome a s c (goes_on s') = Goes a s c s'
Outcome a s c (complete i) = Done a s c i

-- a step under a test that passes
pub only_true : (b : Bool) (n : Next) → b ≡ true → only_if b n ≡ n
only_true b n e = rw e

module _ {E : Type 0} (a : Alphabet E) where
  -- a step under a test
  only_outcome : (s : State) (c : ℕ) (b : Bool) (n : Next) → (b ≡ true → Outcome a s c n) → Outcome a s c (only_if b n)
  only_outcome s c true n step = step refl
  only_outcome s c false n step = tt

  -- a step at a sign, or another step
  sign_outcome : (s : State) (c sign : ℕ) (x y : Next) → Outcome a s sign x → Outcome a s c y → Outcome a s c (cond (eqb c sign) x y)
  sign_outcome s c sign x y here there =
      cond_both (eqb c sign) x y (Outcome a s c) (λ e. subst (λ k. Outcome a s k x) (sym (eqb-true c sign e)) here) (λ _. there)

  -- the first character of a pair
  pair_outcome : (s : State) (c : ℕ) → takes_pair s ≡ true → Outcome a s c (pair_in a s c)
  pair_outcome s c t = only_outcome s c (leads a c) (goes_on (half s c)) (λ l. first s c t l)

  -- the second character of a pair that names an element
  code_outcome : (s : State) (f c : ℕ) (x : E) → a.named f c ≡ Some x → Outcome a (half s f) c (with_code a s (a.code x))
  code_outcome (between p) f c x e = pair p f c x e
  code_outcome asked f c x e = tt
  code_outcome (half s g) f c x e = tt
  code_outcome (alternatives runs run) f c x e = second _ _ f c x e (in_group runs run (a.code x))
  code_outcome bracket f c x e = second _ _ f c x e (in_bracket (a.code x))
  code_outcome (low inside run) f c x e = second _ _ f c x e (in_low inside run (a.code x))
  code_outcome (high inside lower run) f c x e = second _ _ f c x e (in_high inside lower run (a.code x))
  code_outcome (digits n k v) f c x e = tt
  code_outcome (endless m) f c x e = tt

  -- the second character of a pair, whether the pair names an element or not
  half_outcome : (s : State) (f c : ℕ) (o : Option E) → a.named f c ≡ o → Outcome a (half s f) c (with_element a s o)
  half_outcome s f c None e = tt
  half_outcome s f c (Some x) e = code_outcome s f c x e

  -- behind the digits of a number
  digits_outcome : (n : Numeral) (k v c : ℕ) → Outcome a (digits n k v) c (behind_digits a n k v c)
  digits_outcome least k v c =
      only_outcome (digits least k v) c (eqb c 45 && ltb 0 k) (goes_on (digits (most v) 0 0)) (λ e.
      let both = and_parts (eqb c 45) (ltb 0 k) e in
      subst (λ d. Goes a (digits least k v) d (digits (most v) 0 0)) (sym (eqb-true c 45 both.0)) (dash k v both.1))
  digits_outcome (most m) k v c =
      only_outcome (digits (most m) k v) c (eqb c 42 && eqb k 0) (goes_on (endless m)) (λ e.
      let both = and_parts (eqb c 42) (eqb k 0) e in
      subst₂ (λ j d. Goes a (digits (most m) j v) d (endless m)) (sym (eqb-true k 0 both.1)) (sym (eqb-true c 42 both.0)) (unbounded m v))

  -- the end of a bracket that has one run
  low_outcome : (inside : Bool) (run : List ℕ) (c : ℕ) → begun run ≡ true → not inside ≡ true → Outcome a (low inside run) 93 (complete (other run))
  low_outcome true run c b e = absurd (grind arith)
  low_outcome false run c b e = close_low run b

  -- every outcome of the reader is such a step
  pub outcome : (s : State) (c : ℕ) → Outcome a s c (next a s c)
  outcome (between p) c =
      sign_outcome (between p) c 63 _ _ (ask p) (
      sign_outcome (between p) c 40 _ _ (open_group p) (
      sign_outcome (between p) c 91 _ _ (open_bracket p) (
      sign_outcome (between p) c 42 _ _ (only_outcome (between p) 42 (gap_allowed p) _ (star p)) (
      sign_outcome (between p) c 123 _ _ (only_outcome (between p) 123 (gap_allowed p) _ (open_brace p)) (
      pair_outcome (between p) c refl)))))
  outcome asked c = only_outcome asked c (eqb c 63) (complete any) (λ e. subst (λ k. Done a asked k any) (sym (eqb-true c 63 e)) asked_twice)
  outcome (half s f) c = half_outcome s f c (a.named f c) refl
  outcome (alternatives runs run) c =
      sign_outcome (alternatives runs run) c 124 _ _ (only_outcome (alternatives runs run) 124 (begun run) _ (bar runs run)) (
      sign_outcome (alternatives runs run) c 41 _ _
      (only_outcome (alternatives runs run) 41 (begun run && ltb 0 (length runs)) _ (λ e.
      let both = and_parts (begun run) (ltb 0 (length runs)) e in close_group runs run both.0 both.1)) (
      pair_outcome (alternatives runs run) c refl))
  outcome bracket c = sign_outcome bracket c 33 _ _ exclude (pair_outcome bracket c refl)
  outcome (low inside run) c =
      sign_outcome (low inside run) c 58 _ _ (only_outcome (low inside run) 58 (begun run) _ (colon inside run)) (
      sign_outcome (low inside run) c 93 _ _
      (only_outcome (low inside run) 93 (begun run && not inside) _ (λ e.
      let both = and_parts (begun run) (not inside) e in low_outcome inside run c both.0 both.1)) (
      pair_outcome (low inside run) c refl))
  outcome (high inside lower run) c =
      sign_outcome (high inside lower run) c 93 _ _ (only_outcome (high inside lower run) 93 (begun run) _ (close_high inside lower run)) (
      pair_outcome (high inside lower run) c refl)
  outcome (digits n k v) c =
      cond_both (within 48 57 c) _ _ (Outcome a (digits n k v) c)
      (λ w. only_outcome (digits n k v) c (ltb k 4) _ (digit n k v c w))
      (λ _. sign_outcome (digits n k v) c 125 _ _ (only_outcome (digits n k v) 125 (ltb 0 k) _ (close_gap n k v)) (digits_outcome n k v c))
  outcome (endless m) c =
      only_outcome (endless m) c (eqb c 125) (complete (gap m None)) (λ e. subst (λ k. Done a (endless m) k (gap m None)) (sym (eqb-true c 125 e)) (close_endless m))

  -- the reader takes an element's code so
  takes_code : {s s' : State} {c : ℕ} → Takes s c s' → with_code a s c ≡ goes_on s'
  takes_code (in_group runs run c) = refl
  takes_code (in_bracket c) = refl
  takes_code (in_low inside run c) = refl
  takes_code (in_high inside lower run c) = refl

  -- a code leads to no end of a text
  takes_inside : {s : State} {c : ℕ} {s' : State} → Takes s c s' → finished a s' ≡ false
  takes_inside (in_group runs run c) = refl
  takes_inside (in_bracket c) = refl
  takes_inside (in_low inside run c) = refl
  takes_inside (in_high inside lower run c) = refl

  -- a step within an item leads to no end of a text
  pub goes_inside : {s : State} {c : ℕ} {s' : State} → Goes a s c s' → finished a s' ≡ false
  goes_inside (ask p) = refl
  goes_inside (open_group p) = refl
  goes_inside (open_bracket p) = refl
  goes_inside (open_brace p g) = refl
  goes_inside (first s c t l) = refl
  goes_inside (second r s' f c x e t) = takes_inside t
  goes_inside (bar runs run b) = refl
  goes_inside exclude = refl
  goes_inside (colon inside run b) = refl
  goes_inside (digit n k v c w l) = refl
  goes_inside (dash k v l) = refl
  goes_inside (unbounded m v) = refl

  module _ (law : Lawful a) where
    -- a character that leads begins a pair wherever a pair may begin
    pair_begins : (s : State) (c : ℕ) → takes_pair s ≡ true → leads a c ≡ true → next a s c ≡ goes_on (half s c)
    pair_begins s c t l = go s t
      where
        alone : (sign : ℕ) (x y : Next) → alphanumeric sign ≡ false → cond (eqb c sign) x y ≡ y
        alone sign x y h = cond-false (eqb c sign) x y (no_sign sign c h (leads_alphanumeric a law c l))

        begins : (s : State) → pair_in a s c ≡ goes_on (half s c)
        begins s = only_true (leads a c) (goes_on (half s c)) l

        go : (s : State) → takes_pair s ≡ true → next a s c ≡ goes_on (half s c)
        go (between p) t = alone 63 _ _ refl ∙ alone 40 _ _ refl ∙ alone 91 _ _ refl ∙ alone 42 _ _ refl ∙ alone 123 _ _ refl ∙ begins (between p)
        go asked t = absurd (grind arith)
        go (half s f) t = absurd (grind arith)
        go (alternatives runs run) t = alone 124 _ _ refl ∙ alone 41 _ _ refl ∙ begins (alternatives runs run)
        go bracket t = alone 33 _ _ refl ∙ begins bracket
        go (low inside run) t = alone 58 _ _ refl ∙ alone 93 _ _ refl ∙ begins (low inside run)
        go (high inside lower run) t = alone 93 _ _ refl ∙ begins (high inside lower run)
        go (digits n k v) t = absurd (grind arith)
        go (endless m) t = absurd (grind arith)

    -- a step within an item is what the reader does
    pub goes_next : {s : State} {c : ℕ} {s' : State} → Goes a s c s' → next a s c ≡ goes_on s'
    goes_next (ask p) = refl
    goes_next (open_group p) = refl
    goes_next (open_bracket p) = refl
    goes_next (open_brace p g) = only_true (gap_allowed p) _ g
    goes_next (first s c t l) = pair_begins s c t l
    goes_next (second r s' f c x e t) = ap (with_element a r) e ∙ takes_code t
    goes_next (bar runs run b) = only_true (begun run) _ b
    goes_next exclude = refl
    goes_next (colon inside run b) = only_true (begun run) _ b
    goes_next (digit n k v c w l) = cond-true (within 48 57 c) _ _ w ∙ only_true (ltb k 4) _ l
    goes_next (dash k v l) = only_true (ltb 0 k) _ l
    goes_next (unbounded m v) = refl

    -- a step that completes an item is what the reader does
    pub done_next : {s : State} {c : ℕ} {i : Item} → Done a s c i → next a s c ≡ complete i
    done_next (star p g) = only_true (gap_allowed p) _ g
    done_next (pair p f c x e) = ap (with_element a (between p)) e
    done_next asked_twice = refl
    done_next (close_group runs run b l) = only_true (begun run && ltb 0 (length runs)) _ (and_from (begun run) (ltb 0 (length runs)) b l)
    done_next (close_low run b) = only_true (begun run && true) _ (and_from (begun run) true b refl)
    done_next (close_high inside lower run b) = only_true (begun run) _ b
    done_next (close_gap n k v l) = only_true (ltb 0 k) _ l
    done_next (close_endless m) = refl
