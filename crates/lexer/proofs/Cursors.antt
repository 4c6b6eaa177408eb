-- What a cursor's methods say, by the text and the place where the cursor is known to be; and the tokens that they make.
use Rattle.std.proofs.Common.{◌≡◌, ℕ, ◌+◌, ◌-◌, ◌*◌, Bool, true, false, List, length, drop, sym, refl, ap, ◌∙◌, arith}
use Rattle.std.proofs.Math.Path.{subst₂}
use Rattle.kinds.specs.Alphabet.{Alphabet}
use Rattle.patterns.specs.Patterns as item
use Rattle.patterns.specs.declared.direction.Direction.TheVariants.{FirstOn}
use Rattle.lexer.specs.Scanning.{standing, opening, Passes, RunBehind}
use Rattle.lexer.specs.Tokens.{slice, range, other, pairs, pair_stop, lexeme_of, run_slice}
use Rattle.lexer.specs.declared.lexer.Cursor.{Cursor}
use Rattle.lexer.specs.declared.token.RunText.{RunText}
use Rattle.lexer.proofs.Lexing.{Ran, NoPairAt}

-- a cursor that is at a place of a text
pub record At (t : List ℕ) (n : ℕ) (c : Cursor) : Type 0 where
  pub text : c.text.now ≡ t
  pub place : c.place ≡ n

-- a character that was passed
pub passed_at : {t : List ℕ} {place : ℕ} {before : Cursor} (c : ℕ) (after : Cursor) → At t place before → Passes before c after → (standing t place c ≡ true) × At t (place + 1) after
passed_at c after at h = (
  subst₂ (λ l n. standing l n c ≡ true) at.text at.place h.0,
  record { text = h.1 ∙ at.text; place = h.2 ∙ ap (λ n. n + 1) at.place },
)

-- one that does not stand there
pub none_at : {t : List ℕ} {place : ℕ} {before : Cursor} (c : ℕ) → At t place before → standing before.text.now before.place c ≡ false → standing t place c ≡ false
none_at c at h = subst₂ (λ l n. standing l n c ≡ false) at.text at.place h

module _ {E : Type 0} (a : Alphabet E) where
  -- a run, and the part of the text that it holds
  pub record RunAt (t : List ℕ) (place : ℕ) (r : RunText × Cursor) : Type 0 where
    pub ran : Ran a t place r.1.place
    pub behind : At t r.1.place r.1
    pub holds : run_slice r.0 ≡ slice t place r.1.place

  -- what a run's contract says of it
  pub run_at : {t : List ℕ} {place : ℕ} {before : Cursor} (r : RunText × Cursor) → At t place before → RunBehind a before r → RunAt t place r
  run_at r at h = record {
    ran = subst₂ (λ l n. Ran a l n r.1.place) at.text at.place (record { some = h.some; end = h.end; none_more = h.none_more });
    behind = record { text = h.same ∙ at.text; place = refl };
    holds = subst₂ (λ l n. run_slice r.0 ≡ slice l n r.1.place) at.text at.place (λ i. record { place = h.place i; text = h.text i });
  }

  -- no pair where one has to stand
  pub no_pair_at : {t : List ℕ} {place : ℕ} {before : Cursor} (at : ℕ) → At t place before → (pairs a (drop before.place before.text.now) ≡ 0) × (at ≡ pair_stop a before.place (drop before.place before.text.now)) → NoPairAt a t place at
  no_pair_at at here h = subst₂ (λ l n. NoPairAt a l n at) here.text here.place h

  -- no end of a run where one has to stand
  pub no_end_at : {t : List ℕ} {place : ℕ} {before : Cursor} (c at : ℕ) → At t place before → (standing before.text.now before.place c ≡ false) × (at ≡ pair_stop a before.place (drop before.place before.text.now)) → (standing t place c ≡ false) × (at ≡ pair_stop a place (drop place t))
  no_end_at c at here h = subst₂ (λ l n. (standing l n c ≡ false) × (at ≡ pair_stop a n (drop n l))) here.text here.place h

  -- the token of a range, whose first run begins behind what opens it
  pub range_token : (t : List ℕ) (inside : Bool) (from place colon close : ℕ) (low high : List ℕ) → from + opening inside ≡ place → colon ≡ place + 2 * length low
      → range inside (slice t place colon) (slice t (colon + 1) close) ≡ lexeme_of a t from (close + 1) (item.range FirstOn inside low high)
  range_token t true from place colon close low high e k =
      let first : place ≡ from + 1 = sym e in
      let sign : colon ≡ from + 1 + 2 * length low = k ∙ ap (λ n. n + 2 * length low) first in
      let end : close ≡ close + 1 - 1 = omega arith in
      λ i. range true (slice t (first i) (sign i)) (slice t (sign i + 1) (end i))
  range_token t false from place colon close low high e k =
      let first : place ≡ from + 2 = sym e in
      let sign : colon ≡ from + 2 + 2 * length low = k ∙ ap (λ n. n + 2 * length low) first in
      let end : close ≡ close + 1 - 1 = omega arith in
      λ i. range false (slice t (first i) (sign i)) (slice t (sign i + 1) (end i))

  -- the token of what one run leaves out
  pub other_token : (t : List ℕ) (from place close : ℕ) (run : List ℕ) → from + 2 ≡ place → other (slice t place close) ≡ lexeme_of a t from (close + 1) (item.other run)
  other_token t from place close run e =
      let first : place ≡ from + 2 = sym e in
      let end : close ≡ close + 1 - 1 = omega arith in
      λ i. other (slice t (first i) (end i))
