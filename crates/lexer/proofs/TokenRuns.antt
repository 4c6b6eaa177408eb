-- The runs of a token: how long they are, and those of a group, the first and the others.
use Rattle.std.proofs.Common.{◌≡◌, ℕ, suc, ◌+◌, ◌≤◌, Bool, true, false, cond, not, eqb, ltb, List, [], ◌∷◌, length, Some, None, Option, sym, refl, ap, ◌∙◌, arith, length-append}
use Rattle.std.proofs.lemmas.Bool.{ltb-true, lt-ltb, both_ways, le-ltb, ltb-false}
use Rattle.std.proofs.lemmas.List.Splits.{slice_split_first}
use Rattle.std.specs.List.{onto_first, position_or_len}
use Rattle.std.specs.Option.{option_map}
use Rattle.lexer.specs.Tokens.{Slice, range, other, written, between_bars, first_to, first_run, run_slice, runs_slice}
use Rattle.lexer.specs.declared.token.RunText.{RunText}
use Rattle.lexer.specs.declared.token.RunsText.{RunsText}

-- the lengths of texts, together
abbrev pub total : List (List ℕ) → ℕ
total [] = 0
total (t ∷ ts) = length t + total ts

-- one character more in the first of some texts
total_onto : (c : ℕ) (ts : List (List ℕ)) → total (onto_first c ts) ≤ suc (total ts)
total_onto c [] = omega arith
total_onto c (t ∷ ts) = omega arith

-- the texts between bars are no longer than the text
pub total_bars : (t : List ℕ) → total (between_bars t) ≤ length t
total_bars [] = omega arith
total_bars (c ∷ t) = go (eqb c 124) (total_bars t) (total_onto c (between_bars t))
  where
    go : (b : Bool) → total (between_bars t) ≤ length t → total (onto_first c (between_bars t)) ≤ suc (total (between_bars t)) → total (cond b ([] ∷ between_bars t) (onto_first c (between_bars t))) ≤ length (c ∷ t)
    go true h k = omega arith
    go false h k = omega arith

-- a text with no bar is one text
no_bar : (t : List ℕ) → ltb (position_or_len (λ c. eqb c 124) t) (length t) ≡ false → between_bars t ≡ t ∷ []
no_bar [] h = refl
no_bar (c ∷ t) h = go (eqb c 124) (no_bar t) h
  where
    go : (b : Bool) → (ltb (position_or_len (λ c. eqb c 124) t) (length t) ≡ false → between_bars t ≡ t ∷ [])
        → ltb (cond (not b) (1 + position_or_len (λ c. eqb c 124) t) 0) (length (c ∷ t)) ≡ false
        → cond b ([] ∷ between_bars t) (onto_first c (between_bars t)) ≡ (c ∷ t) ∷ []
    go true ih h = absurd (both_ways (ltb 0 (length (c ∷ t))) h (lt-ltb 0 (length (c ∷ t)) (omega arith)))
    go false ih h =
        let shorter : ltb (position_or_len (λ c. eqb c 124) t) (length t) ≡ false = le-ltb (position_or_len (λ c. eqb c 124) t) (length t) (omega (arith, ltb-false (1 + position_or_len (λ c. eqb c 124) t) (length (c ∷ t)) h)) in
        ap (onto_first c) (ih shorter)

-- a range is longer than its runs
pub range_written : (inside : Bool) (low high : Slice) → length low.text + length high.text ≤ length (written (range inside low high))
range_written true low high = simp length-append (omega arith)
range_written false low high = simp length-append (omega arith)

-- what one run leaves out is longer than the run
pub other_written : (run : Slice) → length run.text ≤ length (written (other run))
other_written run = simp length-append (omega arith)

-- the texts of the runs that are left
abbrev pub left_slices : Option Slice → List (List ℕ)
left_slices None = []
left_slices (Some s) = between_bars s.text

-- the same of what the code holds
abbrev pub left_of : Option RunsText → List (List ℕ)
left_of rest = left_slices (option_map runs_slice rest)

-- the first run of a group and those that are left
pub bars_split : (s : Slice) → between_bars s.text ≡ (first_run s).0.text ∷ left_slices (first_run s).1
bars_split s = go (ltb (position_or_len (λ c. eqb c 124) s.text) (length s.text)) refl
  where
    go : (b : Bool) → ltb (position_or_len (λ c. eqb c 124) s.text) (length s.text) ≡ b
        → between_bars s.text ≡ (first_to s (cond b (Some (position_or_len (λ c. eqb c 124) s.text)) None)).0.text ∷ left_slices (first_to s (cond b (Some (position_or_len (λ c. eqb c 124) s.text)) None)).1
    go true h = slice_split_first (λ c. eqb c 124) s.text 0 (ltb-true _ _ h)
    go false h = no_bar s.text h

-- the same of what the code answers
pub split_left : (runs : RunsText) (r : RunText × Option RunsText) → ◌≡◌ {A = Slice × Option Slice} (run_slice r.0, option_map runs_slice r.1) (first_run (runs_slice runs)) → left_of (Some runs) ≡ r.0.text.now ∷ left_of r.1
split_left runs r e =
    let parts : Slice × Option Slice → List (List ℕ) = λ x. x.0.text ∷ left_slices x.1 in
    bars_split (runs_slice runs) ∙ ap parts (sym e)
