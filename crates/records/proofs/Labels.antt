-- How a label compares with a given one, character by character.
use Rattle.std.proofs.Common.{◌≡◌, ◌≢◌, ℕ, suc, Bool, true, false, ◌&&◌, ◌||◌, List, [], ◌∷◌, length, map, ◌==◌, refl, ap, arith}
use Rattle.std.specs.List.{list_all, list_any, zip}
use Rattle.records.specs.Report.{folded, equals_label}

-- labels of different lengths differ
pub differ_in_length : (given label : List ℕ) → length given ≢ length label → equals_label given label ≡ false
differ_in_length [] [] ne = absurd (ne refl)
differ_in_length [] (l ∷ ls) ne = refl
differ_in_length (g ∷ gs) [] ne = refl
differ_in_length (g ∷ gs) (l ∷ ls) ne = rw (differ_in_length gs ls (λ e. ne (ap suc e))) (ends (folded g == l))
  where
    ends : (b : Bool) → (b && false) ≡ false
    ends true = refl
    ends false = refl

-- labels of one length are equal where each pair of characters is
pub equal_in_pairs : (given label : List ℕ) → length given ≡ length label → list_all (λ (p : ℕ × ℕ). folded p.0 == p.1) (zip given label) ≡ equals_label given label
equal_in_pairs [] [] e = refl
equal_in_pairs [] (l ∷ ls) e = absurd (omega (arith, e))
equal_in_pairs (g ∷ gs) [] e = absurd (omega (arith, e))
equal_in_pairs (g ∷ gs) (l ∷ ls) e = ap (λ b. (folded g == l) && b) (equal_in_pairs gs ls (omega (arith, e)))

-- some image passes a test where some element passes the test of its image
pub list_any-map : {X Y : Type 0} (p : Y → Bool) (f : X → Y) (xs : List X) → list_any p (map f xs) ≡ list_any (λ x. p (f x)) xs
list_any-map p f [] = refl
list_any-map p f (x ∷ xs) = ap (λ b. p (f x) || b) (list_any-map p f xs)
