-- What holds of stored runs: where they lie, how long they are, and how two of them compare.
use Rattle.std.proofs.Common.{◌≡◌, ℕ, ◌+◌, Bool, true, not, ◌&&◌, eqb, List, length, sym, refl, ap, ◌∙◌, arith, length-drop, length-take}
use Rattle.std.proofs.lemmas.Bool.{leb-true}
use Rattle.std.proofs.lemmas.Bool.Decides.{nat_tests}
use Rattle.std.proofs.lemmas.Cmp.{same_from_slice_cmp}
use Rattle.std.specs.Cmp.Lexicographic.{slice_cmp}
use Rattle.std.specs.Ordering.{nat_cmp, is_lt}
use Rattle.std.specs.declared.cmp.Ordering.{Ordering}
use Rattle.patterns.specs.Fragments.{before}
use Rattle.patterns.specs.Patterns.{compared, same, up_to}
use Rattle.patterns.specs.declared.direction.Direction.{Direction}
use Rattle.patterns.specs.declared.direction.Direction.TheVariants.{FirstOn, LastOn}
use Rattle.patterns.proofs.Backs.{same_reversed}
use Rattle.engine.specs.Stored.{run_codes, run_within}
use Rattle.engine.specs.declared.pattern.Run.{Run}

-- Where runs and parts lie.

-- a run that lies within the codes is as long as it says
pub run_length : (codes : List ℕ) (r : Run) → run_within codes r ≡ true → length (run_codes codes r) ≡ r.len
run_length codes r h = let fits = leb-true (r.start + r.len) (length codes) h in simp (length-take, length-drop) (omega arith)

-- How two runs compare.

-- one list comes before another of its length
abbrev pub strictly : List ℕ → List ℕ → Bool
strictly xs ys = up_to xs ys && not (same xs ys)

-- lists as they are compared are the same where the lists are
same_compared : (d : Direction) (xs ys : List ℕ) → same (compared d xs) (compared d ys) ≡ same xs ys
same_compared FirstOn xs ys = refl
same_compared LastOn xs ys = same_reversed xs ys

-- of runs of one length, the order is that of the lists as they are compared
pub before_strictly : (d : Direction) (xs ys : List ℕ) → length xs ≡ length ys → strictly (compared d xs) (compared d ys) ≡ before d xs ys
before_strictly d xs ys h =
    ap (λ b. up_to (compared d xs) (compared d ys) && not b) (same_compared d xs ys)
    ∙ (let e : eqb (length xs) (length ys) ≡ true = grind (arith, nat_tests) in ap (λ b. (b && up_to (compared d xs) (compared d ys)) && not (same xs ys)) (sym e))

-- a comparison of two lists says which comes before
pub strictly_is : (xs ys : List ℕ) (o : Ordering) → o ≡ slice_cmp nat_cmp xs ys → is_lt o ≡ strictly xs ys
strictly_is = same_from_slice_cmp nat_cmp is_lt strictly refl (λ _ _. refl) (λ _ _. refl) (λ x y xs ys o h. grind (arith, nat_tests))
