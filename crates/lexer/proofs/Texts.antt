-- Over a whole text, the tokens are the text.
use Rattle.std.proofs.Common.{◌≡◌, ℕ, zero, suc, ◌+◌, ◌-◌, ◌<◌, ◌≤◌, Bool, true, false, cond, ltb, List, [], ◌∷◌, ◌++◌, length, drop, Some, None, Ok, Err, Option, Result, sym, refl, ap, ◌∙◌, subst, arith, length-append, length-drop}
use Rattle.std.proofs.lemmas.Bool.{ltb-false}
use Rattle.std.proofs.lemmas.List.{drop_all}
use Rattle.std.specs.List.{flat_map}
use Rattle.kinds.specs.Alphabet.{Alphabet, Lawful}
use Rattle.patterns.specs.Grammar.{Placed, Position, start, may_end}
use Rattle.patterns.specs.Patterns.{Item}
use Rattle.patterns.specs.Reader.{between, follow}
use Rattle.lexer.specs.Tokens.{Lexeme, written, behind_lexeme, item_from, lexeme_at, lexeme_of, lexed, token_before, tokens_from, TokensAreTheText}
use Rattle.lexer.proofs.Meanings.{prepended, same_token, token_means, stop_follows}
use Rattle.lexer.proofs.Tokens.{completes_takes}

module _ {E : Type 0} (a : Alphabet E) (t : List ℕ) (p : Position) (place : ℕ) where
  -- a token takes what it is written as
  token_cuts : (x : Lexeme) → lexed a t p place ≡ Ok (Some x) → drop place t ≡ written x ++ drop (place + length (written x)) t
  token_cuts x e = go (ltb place (length t)) e
    where
      by_item : (r : Result (Item × ℕ) ℕ) → item_from a (between p) place (drop place t) ≡ r → lexeme_at a t place r ≡ Ok (Some x) → drop place t ≡ written x ++ drop (place + length (written x)) t
      by_item (Ok r) is e =
          let takes = completes_takes a t place p r.0 r.1 is in
          subst (λ y. drop place t ≡ written y ++ drop (place + length (written y)) t) (same_token (lexeme_of a t place r.1 r.0) x e)
          (takes.cut ∙ ap (λ n. written (lexeme_of a t place r.1 r.0) ++ drop n t) takes.ends)
      by_item (Err n) is e = absurd (grind arith)

      at_end : (b : Bool) → cond {A = Result (Option Lexeme) ℕ} b (Ok None) (Err place) ≡ Ok (Some x) → ⊥
      at_end true e = grind arith
      at_end false e = grind arith

      go : (b : Bool) → cond b (lexeme_at a t place (item_from a (between p) place (drop place t))) (cond (may_end p) (Ok None) (Err place)) ≡ Ok (Some x) → drop place t ≡ written x ++ drop (place + length (written x)) t
      go true e = by_item (item_from a (between p) place (drop place t)) refl e
      go false e = absurd (at_end (may_end p) e)

  -- no token is left at the end alone
  end_cuts : lexed a t p place ≡ Ok None → drop place t ≡ []
  end_cuts e = go (ltb place (length t)) refl e
    where
      by_item : (r : Result (Item × ℕ) ℕ) → lexeme_at a t place r ≡ Ok None → ⊥
      by_item (Ok r) e = grind arith
      by_item (Err n) e = grind arith

      go : (b : Bool) → ltb place (length t) ≡ b → cond b (lexeme_at a t place (item_from a (between p) place (drop place t))) (cond (may_end p) (Ok None) (Err place)) ≡ Ok None → drop place t ≡ []
      go true h e = absurd (by_item (item_from a (between p) place (drop place t)) e)
      go false h e = drop_all place t (ltb-false place (length t) h)

-- what is read before other items is read
read_behind : (qs rs : List Placed) (r : Result (List Placed) ℕ) → prepended qs r ≡ Ok rs → (others : List Placed) × (r ≡ Ok others)
read_behind qs rs (Ok others) e = (others, refl)
read_behind qs rs (Err n) e = absurd (grind arith)

module _ {E : Type 0} (a : Alphabet E) (law : Lawful a) (t : List ℕ) where
  -- the tokens that an answer and what follows it give, which are the text from a place on
  abbrev Found : ℕ → ℕ → Result (Option Lexeme) ℕ → Type 0
  Found n place r =
      (xs : List Lexeme)
      × (◌≡◌ {A = Result (List Lexeme) ℕ} (elim r [ Err at ↦ Err at | Ok o ↦ elim o [ None ↦ Ok [] | Some x ↦ token_before a x (tokens_from a n t (behind_lexeme x) (place + length (written x))) ] ]) (Ok xs))
      × (flat_map written xs ≡ drop place t)

  -- the tokens from a place on, where there are enough
  tokens_cut : (n : ℕ) (p : Position) (place : ℕ) (qs : List Placed) → place ≤ length t → length t - place < n → follow a (between p) place place (drop place t) ≡ Ok qs
      → (xs : List Lexeme) × (tokens_from a n t p place ≡ Ok xs) × (flat_map written xs ≡ drop place t)
  tokens_cut zero p place qs inside enough e = absurd (omega arith)
  tokens_cut (suc n) p place qs inside enough e = by_token (lexed a t p place) refl (tokens_cut n)
    where
      by_token : (r : Result (Option Lexeme) ℕ) → lexed a t p place ≡ r
          → ((p : Position) (place : ℕ) (qs : List Placed) → place ≤ length t → length t - place < n → follow a (between p) place place (drop place t) ≡ Ok qs
          → (xs : List Lexeme) × (tokens_from a n t p place ≡ Ok xs) × (flat_map written xs ≡ drop place t))
          → Found n place r
      by_token (Err m) is ih = absurd (let stop = sym (stop_follows a law t p place m is) ∙ e in grind arith)
      by_token (Ok None) is ih = ([], refl, sym (end_cuts a t p place is))
      by_token (Ok (Some x)) is ih =
          let means = token_means a law t p place x is in
          let cut = token_cuts a t p place x is in
          let later = place + length (written x) in
          let rest = read_behind _ qs _ (sym means.follows ∙ e) in
          let long : length (drop place t) ≡ length (written x) + length (drop later t) = ap length cut ∙ length-append (written x) (drop later t) in
          let within : later ≤ length t = omega (arith, long, length-drop place t) in
          let others = ih (behind_lexeme x) later rest.0 within (omega (arith, within, means.some, enough)) rest.1 in
          (x ∷ others.0, ap (token_before a x) others.1, ap (λ l. written x ++ l) others.2 ∙ sym cut)

-- all of them
pub tokens_are_the_text : {E : Type 0} (a : Alphabet E) → Lawful a → TokensAreTheText a
tokens_are_the_text a law t qs e = tokens_cut a law t (suc (length t)) start 0 qs (omega arith) (omega arith) e
