-- A token is the part of the text that it takes.
use Rattle.std.proofs.Common.{◌≡◌, ℕ, suc, ◌+◌, ◌-◌, ◌*◌, ◌≤◌, Bool, true, false, cond, List, [], ◌∷◌, ◌++◌, length, take, drop, is_some, Ok, Err, codes, Result, sym, refl, ap, ◌∙◌, subst, append_assoc, arith, length-append, take-append-drop, length-take-le}
use Rattle.std.proofs.lemmas.List.{drop-drop}
use Rattle.kinds.specs.Alphabet.{Alphabet}
use Rattle.patterns.specs.Grammar.{Position, Literals, Says}
use Rattle.patterns.specs.Patterns.{Item, literal, any, group, range, other, gap}
use Rattle.patterns.specs.Reader.{State, between, Next, stuck, goes_on, complete, next}
use Rattle.patterns.proofs.Follows.{Reads, ends, more}
use Rattle.patterns.proofs.Sound.{reads_says}
use Rattle.patterns.proofs.Steps.{Outcome, outcome}
use Rattle.lexer.specs.Scanning.{Completes, token_end}
use Rattle.lexer.specs.Tokens.{slice, written, pairs, item_from, lexeme_of}
use Rattle.lexer.proofs.Machine.{onward}

-- the front of a list that is taken apart
take_front : (xs ys : List ℕ) → take (length xs) (xs ++ ys) ≡ xs
take_front [] ys = refl
take_front (x ∷ xs) ys = ap (λ l. x ∷ l) (take_front xs ys)

-- the rest
pub drop_front : {X : Type 0} (xs ys : List X) → drop (length xs) (xs ++ ys) ≡ ys
drop_front [] ys = refl
drop_front (x ∷ xs) ys = drop_front xs ys

-- a part of a text, by what stands before and behind it
slice_is : (t : List ℕ) (place from to : ℕ) (before inner after : List ℕ) → drop place t ≡ before ++ (inner ++ after) → from ≡ place + length before → to ≡ from + length inner → take (to - from) (drop from t) ≡ inner
slice_is t place from to before inner after cut starts stops =
    let long : to - from ≡ length inner = omega arith in
    let rest : drop from t ≡ inner ++ after =
    ap (λ n. drop n t) starts ∙ sym (drop-drop (length before) place t) ∙ ap (drop (length before)) cut ∙ drop_front before (inner ++ after) in
    ap (λ n. take n (drop from t)) long ∙ ap (take (length inner)) rest ∙ take_front inner after

-- what is completed is one item at one place
completed : (i j : Item) (m n : ℕ) → ◌≡◌ {A = Result (Item × ℕ) ℕ} (Ok (i, m)) (Ok (j, n)) → (i ≡ j) × (m ≡ n)
completed i j m n e =
    let value : Result (Item × ℕ) ℕ → Item × ℕ = λ r. elim r [ Ok x ↦ x | Err _ ↦ (j, n) ] in
    (ap (λ r. (value r).0) e, ap (λ r. (value r).1) e)

module _ {E : Type 0} (a : Alphabet E) where
  -- pairs are two characters each, within the text
  pub pairs_fit : (u : List ℕ) → 2 * pairs a u ≤ length u
  pairs_fit [] = omega arith
  pairs_fit (f ∷ []) = omega arith
  pairs_fit (f ∷ s ∷ t) = go (is_some (a.named f s)) (pairs_fit t)
    where
      go : (b : Bool) → 2 * pairs a t ≤ length t → 2 * cond b (suc (pairs a t)) 0 ≤ length (f ∷ s ∷ t)
      go true h = omega arith
      go false h = omega arith

  -- literals take two characters each
  pub literals_length : (cs t : List ℕ) → Literals a cs t → length t ≡ 2 * length cs
  literals_length [] t e = ap length e
  literals_length (c ∷ cs) t (front, rest, cut, (f, s, x, named, code, said), others) =
      let ih = literals_length cs rest others in
      omega (arith, ap length cut, ap length said, length-append front rest)

  -- what a text completes in a state stands at its front, and is read as the item
  pub item_reads : (u : List ℕ) (s : State) (place : ℕ) (i : Item) (to : ℕ) → item_from a s place u ≡ Ok (i, to) → (front : List ℕ) × (rest : List ℕ) × (u ≡ front ++ rest) × (to ≡ place + length front) × Reads a s front i
  item_reads [] s place i to e = absurd (grind arith)
  item_reads (c ∷ u) s place i to e = by_outcome (next a s c) (outcome a s c) e (item_reads u)
    where
      by_outcome : (n : Next) → Outcome a s c n → onward a n place u ≡ Ok (i, to)
          → ((s : State) (place : ℕ) (i : Item) (to : ℕ) → item_from a s place u ≡ Ok (i, to) → (front : List ℕ) × (rest : List ℕ) × (u ≡ front ++ rest) × (to ≡ place + length front) × Reads a s front i)
          → (front : List ℕ) × (rest : List ℕ) × (c ∷ u ≡ front ++ rest) × (to ≡ place + length front) × Reads a s front i
      by_outcome stuck o e ih = absurd (grind arith)
      by_outcome (goes_on s') o e ih =
          let h = ih s' (place + 1) i to e in
          (c ∷ h.0, h.1, ap (λ l. c ∷ l) h.2, omega (arith, h.3), more o h.4)
      by_outcome (complete j) o e ih =
          let same = completed j i (place + 1) to e in
          (c ∷ [], u, refl, sym same.1, subst (Reads a s (c ∷ [])) same.0 (ends o))

  module _ (t : List ℕ) (place : ℕ) where
    -- the runs of a range, by what opens it
    module _ (opens front rest inner lo hi : List ℕ) (low to : ℕ) (e : front ≡ opens ++ (inner ++ codes "]")) (f : inner ≡ lo ++ (codes ":" ++ hi)) (long : length lo ≡ 2 * low) (cut : drop place t ≡ front ++ rest) (end : to ≡ place + length front) where
      -- all of it
      whole : front ≡ opens ++ (lo ++ (codes ":" ++ (hi ++ codes "]")))
      whole = e ∙ ap (λ l. opens ++ (l ++ codes "]")) f ∙ simp append_assoc

      -- its length
      range_length : length front ≡ length opens + length lo + length hi + 2
      range_length = ap length whole ∙ simp length-append (omega arith)

      -- its first run
      pub low_text : (slice t (place + length opens) (place + length opens + 2 * low)).text ≡ lo
      low_text =
          slice_is t place (place + length opens) (place + length opens + 2 * low) opens lo (codes ":" ++ (hi ++ (codes "]" ++ rest)))
          (cut ∙ ap (λ l. l ++ rest) whole ∙ simp append_assoc) refl (omega arith)

      -- its second run
      pub high_text : (slice t (place + length opens + 2 * low + 1) (to - 1)).text ≡ hi
      high_text =
          let before = opens ++ (lo ++ codes ":") in
          let starts : length before ≡ length opens + (length lo + 1) = simp length-append (omega arith) in
          let stops = range_length in
          slice_is t place (place + length opens + 2 * low + 1) (to - 1) before hi (codes "]" ++ rest)
          (cut ∙ ap (λ l. l ++ rest) whole ∙ simp append_assoc) (omega arith) (omega arith)

    -- what a group and what leaves one run out have between their ends
    module _ (opens front rest inner : List ℕ) (last to : ℕ) (e : front ≡ opens ++ (inner ++ last ∷ [])) (cut : drop place t ≡ front ++ rest) (end : to ≡ place + length front) where
      pub inner_text : (slice t (place + length opens) (to - 1)).text ≡ inner
      inner_text =
          let long : length front ≡ length opens + length inner + 1 = ap length e ∙ simp length-append (omega arith) in
          slice_is t place (place + length opens) (to - 1) opens inner (last ∷ rest) (cut ∙ ap (λ l. l ++ rest) e ∙ simp append_assoc) refl (omega arith)

    -- the token of an item that a part of the text says is that part
    pub says_written : (i : Item) (front rest : List ℕ) (to : ℕ) → ((c : ℕ) → i ≡ literal c → ⊥) → drop place t ≡ front ++ rest → to ≡ place + length front → Says a i front → written (lexeme_of a t place to i) ≡ front
    says_written (literal c) front rest to not cut end says = absurd (not c refl)
    says_written any front rest to not cut end says = sym says
    says_written (group runs) front rest to not cut end (inner, e, two, h) =
        ap (λ l. codes "(" ++ (l ++ codes ")")) (inner_text (codes "(") front rest inner 41 to e cut end) ∙ sym e
    says_written (range d true low high) front rest to not cut end (same, (inner, e, (lo, hi, f, first, second))) =
        let long = literals_length low lo first.1 in
        let first_text = low_text (codes "[") front rest inner lo hi (length low) to e f long cut end in
        let second_text = high_text (codes "[") front rest inner lo hi (length low) to e f long cut end in
        (λ i. codes "[" ++ (first_text i ++ (codes ":" ++ (second_text i ++ codes "]")))) ∙ sym (whole (codes "[") front rest inner lo hi (length low) to e f long cut end)
    says_written (range d false low high) front rest to not cut end (same, (inner, e, (lo, hi, f, first, second))) =
        let long = literals_length low lo first.1 in
        let first_text = low_text (codes "[!") front rest inner lo hi (length low) to e f long cut end in
        let second_text = high_text (codes "[!") front rest inner lo hi (length low) to e f long cut end in
        (λ i. codes "[!" ++ (first_text i ++ (codes ":" ++ (second_text i ++ codes "]")))) ∙ sym (whole (codes "[!") front rest inner lo hi (length low) to e f long cut end)
    says_written (other run) front rest to not cut end (inner, e, h) =
        ap (λ l. codes "[!" ++ (l ++ codes "]")) (inner_text (codes "[!") front rest inner 93 to e cut end) ∙ sym e
    says_written (gap least most) front rest to not cut end says = slice_is t place place to [] front rest cut (omega arith) end

    -- what a token takes of the text, and what lies ahead
    pub record Takes (token : List ℕ) (end : ℕ) : Type 0 where
      pub cut : drop place t ≡ token ++ drop end t
      pub ends : end ≡ place + length token

    -- a token that is a part of the text takes it
    takes_front : (token front rest : List ℕ) (to : ℕ) → token ≡ front → drop place t ≡ front ++ rest → to ≡ place + length front → Takes token to
    takes_front token front rest to same cut end = record {
      cut = cut
          ∙ ap (λ l. front ++ l) (sym (drop_front front rest) ∙ ap (drop (length front)) (sym cut) ∙ drop-drop (length front) place t ∙ ap (λ n. drop n t) (sym end))
          ∙ ap (λ l. l ++ drop to t) (sym same);
      ends = end ∙ ap (λ l. place + length l) (sym same);
    }

    -- neighbouring literals take their pairs
    literals_take : Takes (take (place + 2 * pairs a (drop place t) - place) (drop place t)) (place + 2 * pairs a (drop place t))
    literals_take =
        let n = 2 * pairs a (drop place t) in
        let fits = pairs_fit (drop place t) in
        let less : place + n - place ≡ n = omega arith in
        takes_front (take (place + n - place) (drop place t)) (take n (drop place t)) (drop n (drop place t)) (place + n)
        (ap (λ k. take k (drop place t)) less)
        (sym (take-append-drop n (drop place t)))
        (ap (λ k. place + k) (sym (length-take-le n (drop place t) fits)))

    -- any other token takes what its item says
    others_take : (p : Position) (i : Item) (to : ℕ) → ((c : ℕ) → i ≡ literal c → ⊥) → Completes a t (between p) place i to → Takes (written (lexeme_of a t place to i)) to
    others_take p i to not e =
        let h = item_reads (drop place t) (between p) place i to e in
        takes_front (written (lexeme_of a t place to i)) h.0 h.1 to (says_written i h.0 h.1 to not h.2 h.3 (reads_says a h.4)) h.2 h.3

    -- The token of what the text completes between items takes as much of it as is written.
    pub completes_takes : (p : Position) (i : Item) (to : ℕ) → Completes a t (between p) place i to → Takes (written (lexeme_of a t place to i)) (token_end a t place to i)
    completes_takes p (literal c) to e = literals_take
    completes_takes p any to e = others_take p any to (λ c h. cc) e
    completes_takes p (group runs) to e = others_take p (group runs) to (λ c h. cc) e
    completes_takes p (range d inside low high) to e = others_take p (range d inside low high) to (λ c h. cc) e
    completes_takes p (other run) to e = others_take p (other run) to (λ c h. cc) e
    completes_takes p (gap least most) to e = others_take p (gap least most) to (λ c h. cc) e
