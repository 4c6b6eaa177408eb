-- The slots of the fragments that stand: those that are taken, and what they are accounted for.
use Rattle.std.proofs.Common.{◌≡◌, ℕ, zero, suc, List, [], ◌∷◌, ◌++◌, map, length, Some, None, Option, refl, sym, subst, ⊎_elim, arith}
use Rattle.std.specs.List.{flat_map, sum_by, AllByRecursion, Contains}
use Rattle.std.proofs.lemmas.List.{length-append}
use Rattle.std.proofs.lemmas.List.Elements.{Contains-append_left, Contains-append_right, Contains-append_cases, All-contains, All-from_recursion}
use Rattle.std.proofs.lemmas.List.Sums.{sum_by-cons}
use Rattle.kinds.specs.Alphabet.{Alphabet}
use Rattle.patterns.specs.Sequences.{Said, parts_said}
use Rattle.engine.specs.Tables.{Slotted, IsFilled, Distinct, Apart, free_slots}
use Rattle.engine.specs.declared.fragment.Fragment.{Fragment}
use Rattle.engine.proofs.Tables.{stands_on, none_at}
use Rattle.records.specs.Book.{said_by, fragments_in}
use Rattle.records.specs.Entries.{Sequence}
use Rattle.catalogue.specs.Entering.{fragment_count, fragment_total}
use Rattle.catalogue.specs.Standing.{slots_in, said_in, StandsInIf}

-- Lists of slots.

-- what is true of each element of two lists
pub all_append : {X : Type 0} (P : X → Type 0) (xs ys : List X) → AllByRecursion P xs → AllByRecursion P ys → AllByRecursion P (xs ++ ys)
all_append P [] ys f g = g
all_append P (x ∷ xs) ys f g = (f.0, all_append P xs ys f.1 g)

-- and of each of the first of them, and of the others
pub all_front : {X : Type 0} (P : X → Type 0) (xs ys : List X) → AllByRecursion P (xs ++ ys) → AllByRecursion P xs
all_front P [] ys f = tt
all_front P (x ∷ xs) ys f = (f.0, all_front P xs ys f.1)

pub all_back : {X : Type 0} (P : X → Type 0) (xs ys : List X) → AllByRecursion P (xs ++ ys) → AllByRecursion P ys
all_back P [] ys f = f
all_back P (x ∷ xs) ys f = all_back P xs ys f.1

-- what is true of an element among them
all_at : {X : Type 0} (P : X → Type 0) (xs : List X) (x : X) → AllByRecursion P xs → Contains xs x → P x
all_at P xs x f h = All-contains P xs x (All-from_recursion P xs f) h

-- two lists of distinct slots that are apart
pub distinct_append : (xs ys : List ℕ) → Distinct xs → Distinct ys → Apart xs ys → Distinct (xs ++ ys)
distinct_append [] ys d e apart = e
distinct_append (x ∷ xs) ys d e apart = (
  λ h. ⊎_elim d.0 (apart x (zero, omega arith, refl)) (Contains-append_cases xs ys x h),
  distinct_append xs ys d.1 e (λ slot (k, h, is). apart slot (suc k, omega arith, is)),
)

-- the back of a list of distinct slots
pub back_distinct : (xs ys : List ℕ) → Distinct (xs ++ ys) → Distinct ys
back_distinct [] ys d = d
back_distinct (x ∷ xs) ys d = back_distinct xs ys d.1

-- its front and its back are apart
pub parts_apart : (xs ys : List ℕ) → Distinct (xs ++ ys) → Apart xs ys
parts_apart [] ys d slot (k, h, is) there = omega arith
parts_apart (x ∷ xs) ys d slot (zero, h, is) there = d.0 (Contains-append_right xs ys x (subst (Contains ys) (sym is) there))
parts_apart (x ∷ xs) ys d slot (suc k, h, is) there = parts_apart xs ys d.1 slot (k, omega arith, is) there

-- a sequence's fragments hold their slots
one_filled : (table : List (Option Fragment)) (v : Option Slotted) → StandsInIf table v → AllByRecursion (IsFilled table) (slots_in v)
one_filled table None h = tt
one_filled table (Some v) h = stands_on.filled table v h

-- those of all that stand do
pub all_filled : (table : List (Option Fragment)) (vs : List (Option Slotted)) → AllByRecursion (StandsInIf table) vs
    → AllByRecursion (IsFilled table) (flat_map slots_in vs)
all_filled table [] h = tt
all_filled table (v ∷ vs) h = all_append (IsFilled table) (slots_in v) (flat_map slots_in vs) (one_filled table v h.0) (all_filled table vs h.1)

-- the slots of free ones are apart from those that hold fragments
pub free_apart : (table : List (Option Fragment)) (slots free rest : List ℕ) → AllByRecursion (IsFilled table) slots → free ++ rest ≡ free_slots table → Apart slots free
free_apart table slots free rest f is slot there free_there =
    let filled = all_at (IsFilled table) slots slot f there in
    let none = none_at table slot (subst (λ l. Contains l slot) is (Contains-append_left free rest slot free_there)) in
    absurd (cc)

-- sequences have as many fragments as what they are compiled to
pub fragments_said : {E : Type 0} (a : Alphabet E) (qs : List Sequence) (ss : List (Option Said)) → map (said_by a) qs ≡ ss
    → sum_by (fragments_in a) qs ≡ fragment_total ss
fragments_said a [] [] e = refl
fragments_said a [] (s ∷ ss) e = absurd (cc)
fragments_said a (q ∷ qs) [] e = absurd (cc)
fragments_said a (q ∷ qs) (s ∷ ss) e =
    let head : said_by a q ≡ s = cc in
    let tail : map (said_by a) qs ≡ ss = cc in
    let one : fragments_in a q ≡ fragment_count s = subst (λ o. elim o [ Some t ↦ length (parts_said t) | None ↦ 0 ] ≡ fragment_count s) (sym head) (counted s) in
    omega (arith, sum_by-cons (fragments_in a) q qs, sum_by-cons fragment_count s ss, fragments_said a qs ss tail)
  where
    counted : (o : Option Said) → elim o [ Some t ↦ length (parts_said t) | None ↦ 0 ] ≡ fragment_count o
    counted None = refl
    counted (Some t) = refl

-- sequences that stand have as many fragments as slots
pub slots_total : (table : List (Option Fragment)) (vs : List (Option Slotted)) → AllByRecursion (StandsInIf table) vs
    → fragment_total (map said_in vs) ≡ length (flat_map slots_in vs)
slots_total table [] h = refl
slots_total table (v ∷ vs) h =
    omega (arith, sum_by-cons fragment_count (said_in v) (map said_in vs), length-append (slots_in v) (flat_map slots_in vs), counted v h.0, slots_total table vs h.1)
  where
    counted : (w : Option Slotted) → StandsInIf table w → fragment_count (said_in w) ≡ length (slots_in w)
    counted None g = refl
    counted (Some w) g = sym g.counted
