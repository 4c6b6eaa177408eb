-- The lengths of stored runs, and where runs and parts lie.
use Rattle.std.proofs.Common.{◌≡◌, ℕ, zero, suc, ◌<◌, min, max, true, List, [], ◌∷◌, map, length, get_or, take, drop, unwrap_or, sym, refl, ap, ◌∙◌, ap₂, suc-le-suc, arith}
use Rattle.std.specs.List.{fold, reduce}
use Rattle.std.proofs.lemmas.Bool.{and_parts, and_from}
use Rattle.patterns.specs.Fragments.{shortest, longest}
use Rattle.engine.specs.Stored.{run_codes, run_within, all_runs_within, part_within, all_parts_within}
use Rattle.engine.specs.declared.pattern.PlacedPart.{PlacedPart}
use Rattle.engine.specs.declared.pattern.Run.{Run}
use Rattle.engine.proofs.Runs.{run_length}

-- how long a run says that it is
abbrev pub len_of : Run → ℕ
len_of r = r.len

-- the least of two numbers and of more
least_of_more : (a b : ℕ) (ns : List ℕ) → fold min (min a b) ns ≡ min a (fold min b ns)
least_of_more a b [] = refl
least_of_more a b (n ∷ ns) = let assoc : min (min a b) n ≡ min a (min b n) = omega arith in ap (λ m. fold min m ns) assoc ∙ least_of_more a (min b n) ns

module _ (codes : List ℕ) where
  -- the shortest of some runs, by their lengths
  pub shortest_is : (rs : List Run) → all_runs_within codes rs ≡ true → unwrap_or (reduce min (map len_of rs)) 0 ≡ shortest (map (run_codes codes) rs)
  shortest_is [] h = refl
  shortest_is (r ∷ []) h = sym (run_length codes r (and_parts _ _ h).0)
  shortest_is (r ∷ s ∷ rs) h =
      let parts = and_parts (run_within codes r) (all_runs_within codes (s ∷ rs)) h in
      least_of_more r.len s.len (map len_of rs) ∙ ap₂ min (sym (run_length codes r parts.0)) (shortest_is (s ∷ rs) parts.1)

  -- the greatest of a number and of the lengths of runs
  longest_from : (n : ℕ) (rs : List Run) → all_runs_within codes rs ≡ true → fold max n (map len_of rs) ≡ max n (longest (map (run_codes codes) rs))
  longest_from n [] h = omega arith
  longest_from n (r ∷ rs) h =
      let parts = and_parts (run_within codes r) (all_runs_within codes rs) h in
      let long = run_length codes r parts.0 in
      longest_from (max n r.len) rs parts.1 ∙ omega arith

  -- the longest of some runs, by their lengths
  pub longest_is : (rs : List Run) → all_runs_within codes rs ≡ true → unwrap_or (reduce max (map len_of rs)) 0 ≡ longest (map (run_codes codes) rs)
  longest_is [] h = refl
  longest_is (r ∷ rs) h =
      let parts = and_parts (run_within codes r) (all_runs_within codes rs) h in
      longest_from r.len rs parts.1 ∙ ap (λ n. max n (longest (map (run_codes codes) rs))) (sym (run_length codes r parts.0))

-- one of runs within the codes lies within them
pub run_at_within : (codes : List ℕ) (rs : List Run) (i : ℕ) (d : Run) → all_runs_within codes rs ≡ true → i < length rs → run_within codes (get_or rs i d) ≡ true
run_at_within codes [] i d h l = absurd (omega arith)
run_at_within codes (r ∷ rs) zero d h l = (and_parts (run_within codes r) (all_runs_within codes rs) h).0
run_at_within codes (r ∷ rs) (suc i) d h (suc-le-suc l) = run_at_within codes rs i d (and_parts (run_within codes r) (all_runs_within codes rs) h).1 l

-- one of parts within the lists lies within them
pub part_at_within : (codes : List ℕ) (runs : List Run) (ps : List PlacedPart) (i : ℕ) (d : PlacedPart) → all_parts_within codes runs ps ≡ true → i < length ps → part_within codes runs (get_or ps i d).part ≡ true
part_at_within codes runs [] i d h l = absurd (omega arith)
part_at_within codes runs (p ∷ ps) zero d h l = (and_parts (part_within codes runs p.part) (all_parts_within codes runs ps) h).0
part_at_within codes runs (p ∷ ps) (suc i) d h (suc-le-suc l) = part_at_within codes runs ps i d (and_parts (part_within codes runs p.part) (all_parts_within codes runs ps) h).1 l

-- the parts from a place on lie within the lists
pub parts_drop_within : (codes : List ℕ) (runs : List Run) (n : ℕ) (ps : List PlacedPart) → all_parts_within codes runs ps ≡ true → all_parts_within codes runs (drop n ps) ≡ true
parts_drop_within codes runs zero ps h = h
parts_drop_within codes runs (suc n) [] h = h
parts_drop_within codes runs (suc n) (p ∷ ps) h = parts_drop_within codes runs n ps (and_parts (part_within codes runs p.part) (all_parts_within codes runs ps) h).1

-- the first of some parts lie within the lists
pub parts_take_within : (codes : List ℕ) (runs : List Run) (n : ℕ) (ps : List PlacedPart) → all_parts_within codes runs ps ≡ true → all_parts_within codes runs (take n ps) ≡ true
parts_take_within codes runs zero ps h = refl
parts_take_within codes runs (suc n) [] h = h
parts_take_within codes runs (suc n) (p ∷ ps) h =
    let within = and_parts (part_within codes runs p.part) (all_parts_within codes runs ps) h in
    and_from (part_within codes runs p.part) (all_parts_within codes runs (take n ps)) within.0 (parts_take_within codes runs n ps within.1)
