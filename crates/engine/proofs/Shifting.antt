-- The table of shifts, one code more at a time.
use Rattle.std.proofs.Common.{◌≡◌, ℕ, suc, ◌+◌, ◌<◌, List, length, get_or, replicate, ap, ◌∙◌, arith}
use Rattle.std.proofs.lemmas.List.{get_or-replicate}
use Rattle.patterns.specs.Fragments.{distances, smallest, shift}

-- what a table's entry at an index is to become: above the number of the codes to come, and with them the shift
abbrev pub Becomes : List ℕ → List ℕ → ℕ → ℕ → Type 0
Becomes table codes result index = (length codes < get_or table index 0) × (smallest (get_or table index 0) (distances codes index) ≡ result)

-- a table of one number only
pub becomes_at_first : (codes : List ℕ) (longest : ℕ) → longest ≡ length codes + 1 → (index : ℕ) → index < 256 → Becomes (replicate 256 longest) codes (shift codes index) index
becomes_at_first codes longest is index inside =
    let same : get_or (replicate 256 longest) index 0 ≡ longest = get_or-replicate 256 index longest 0 inside in
    let next : longest ≡ suc (length codes) = omega arith in
    (omega arith, ap (λ n. smallest n (distances codes index)) (same ∙ next))
