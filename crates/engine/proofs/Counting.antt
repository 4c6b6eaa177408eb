-- How many fragments items within the limits have.
use Rattle.std.proofs.Common.{◌≡◌, ℕ, suc, ◌+◌, ◌≤◌, leb, ltb, List, [], ◌∷◌, length, None, Option, sym, refl, ap, ◌∙◌, arith}
use Rattle.std.proofs.lemmas.Bool.{leb-false, or_parts}
use Rattle.patterns.specs.Fragments.{Fragment, span, sum, first_place, fragment_place, cut_from, fragments, limit_place, wrong_place}
use Rattle.patterns.specs.Grammar.{Placed}
use Rattle.patterns.proofs.Searches.{kept_none, fragments_none}
use Rattle.engine.proofs.Sounds.{opened, opened_cut, cut_some}

-- fragments of which none is beyond a limit, numbered from a number on, end before the ninth
few_from : (number : ℕ) (found : Option ℕ) (fs : List Fragment) → number ≤ 8 → fragment_place number found fs ≡ None → number + length fs ≤ 8
few_from number found [] h e = omega arith
few_from number found (f ∷ fs) h e =
    let within = (kept_none _ found (first_place f.body) (fragments_none fs (suc number) _ e)).1 in
    let below = leb-false 8 number (or_parts (leb 8 number) (ltb 1024 (sum span f.body)) within).0 in
    let more = few_from (suc number) _ fs (omega arith) e in
    omega arith

-- the break of the first fragment does not change their number
opened_length : (from : ℕ) (fs : List Fragment) → length (opened from fs) ≡ length fs
opened_length from [] = refl
opened_length from (f ∷ fs) = refl

-- items within the limits have at most eight fragments
pub few_fragments : (lo : ℕ) (qs : List Placed) → limit_place qs ≡ None → length (fragments lo qs) ≤ 8
few_fragments lo qs e =
    let few = few_from 0 (wrong_place None qs) (fragments 0 qs) (omega arith) e in
    let same : length (fragments lo qs) ≡ length (fragments 0 qs) = ap length (sym (opened_cut qs lo 0 [] [])) ∙ opened_length lo (fragments 0 qs) in
    omega arith

-- and one at least
pub some_fragment : (break : ℕ) (qs : List Placed) → 1 ≤ length (cut_from break [] [] qs)
some_fragment break qs = go (cut_from break [] [] qs) (cut_some qs break [] [])
  where
    go : (fs : List Fragment) → (fs ≡ [] → ⊥) → 1 ≤ length fs
    go [] h = absurd (h refl)
    go (f ∷ fs) h = omega arith
