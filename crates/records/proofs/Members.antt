-- Members of lists: of a filter and a map, and what the tests of a list decide.
use Rattle.std.proofs.Common.{◌≡◌, ℕ, zero, suc, Bool, true, false, cond, ◌==◌, ◌⊎◌, ◌↔◌, List, [], ◌∷◌, map, Some, None, Decides, Option, sym, refl, ap, ◌∙◌, subst, inl, inr, ⊎_elim, arith}
use Rattle.std.proofs.lemmas.Bool.{false≢true}
use Rattle.std.proofs.lemmas.Option.{none-some, same_Some}
use Rattle.std.proofs.lemmas.Bool.Decides.{Decides-eqb, Decides-like, Decides-and, Decides-or}
use Rattle.std.specs.List.{filter, filter_map, cons_option, find, list_any, list_all, slice_get, AllByRecursion, Contains}

-- nothing is in the empty list
pub contains_nil : {X : Type 0} (x : X) → Contains [] x → ⊥
contains_nil x (k, below, is) = omega arith

-- the first element is in a list
pub contains_here : {X : Type 0} (x : X) (xs : List X) → Contains (x ∷ xs) x
contains_here x xs = (0, omega arith, refl)

-- and so is each later one
pub contains_there : {X : Type 0} (y : X) (xs : List X) (x : X) → Contains xs x → Contains (y ∷ xs) x
contains_there y xs x (k, below, is) = (suc k, omega arith, is)

-- and no other
pub contains_cases : {X : Type 0} (y : X) (xs : List X) (x : X) → Contains (y ∷ xs) x → (y ≡ x) ⊎ Contains xs x
contains_cases y xs x (zero, below, is) = inl is
contains_cases y xs x (suc k, below, is) = inr (k, omega arith, is)

-- a filter keeps the elements that pass
pub contains_filter : {X : Type 0} (p : X → Bool) (xs : List X) (x : X) → Contains (filter p xs) x ↔ (Contains xs x × (p x ≡ true))
contains_filter p [] x = (λ h. absurd (contains_nil x h), λ h. absurd (contains_nil x h.0))
contains_filter {X} p (y ∷ ys) x =
    let rest = contains_filter p ys x in
    elim (p y) as (λ (b : Bool). p y ≡ b → Contains (cond b (y ∷ filter p ys) (filter p ys)) x ↔ (Contains (y ∷ ys) x × (p x ≡ true))) [
      | true ↦ λ e. (
        λ h. ⊎_elim (λ is. (subst (λ z. Contains (y ∷ ys) z) is (contains_here y ys), sym (ap p is) ∙ e)) (λ k. let l = rest.0 k in (contains_there y ys x l.0, l.1)) (contains_cases y (filter p ys) x h),
        λ h. ⊎_elim (λ is. subst (λ z. Contains (y ∷ filter p ys) z) is (contains_here y (filter p ys))) (λ k. contains_there y (filter p ys) x (rest.1 (k, h.1))) (contains_cases y ys x h.0),
      )
      | false ↦ λ e. (
        λ h. let l = rest.0 h in (contains_there y ys x l.0, l.1),
        λ h. ⊎_elim (λ is. absurd (false≢true (sym e ∙ ap p is ∙ h.1))) (λ k. rest.1 (k, h.1)) (contains_cases y ys x h.0),
      )
    ] refl

-- a map has what its function gives of the elements
pub contains_map : {X Y : Type 0} (f : X → Y) (xs : List X) (y : Y) → Contains (map f xs) y ↔ ((x : X) × Contains xs x × (y ≡ f x))
contains_map f [] y = (λ h. absurd (contains_nil y h), λ h. absurd (contains_nil h.0 h.1))
contains_map f (x ∷ xs) y =
    let rest = contains_map f xs y in (
      λ h. ⊎_elim (λ is. (x, contains_here x xs, sym is)) (λ k. let l = rest.0 k in (l.0, contains_there x xs l.0 l.1, l.2)) (contains_cases (f x) (map f xs) y h),
      λ h. ⊎_elim (λ is. subst (λ z. Contains (f x ∷ map f xs) z) (ap f is ∙ sym h.2) (contains_here (f x) (map f xs))) (λ k. contains_there (f x) (map f xs) y (rest.1 (h.0, k, h.2))) (contains_cases x xs h.0 h.1),
    )

-- what a function gives of the elements, where it gives something
pub contains_filter_map : {X Y : Type 0} (h : X → Option Y) (xs : List X) (y : Y) → Contains (filter_map h xs) y ↔ ((x : X) × Contains xs x × (h x ≡ Some y))
contains_filter_map h [] y = (λ k. absurd (contains_nil y k), λ k. absurd (contains_nil k.0 k.1))
contains_filter_map {X} {Y} h (x ∷ xs) y =
    let rest = contains_filter_map h xs y in
    let later : Contains (filter_map h xs) y → (z : X) × Contains (x ∷ xs) z × (h z ≡ Some y) = λ k. let l = rest.0 k in (l.0, contains_there x xs l.0 l.1, l.2) in
    elim (h x) as (λ (o : Option Y). h x ≡ o → Contains (cons_option o (filter_map h xs)) y ↔ ((z : X) × Contains (x ∷ xs) z × (h z ≡ Some y))) [
      | Some w ↦ λ e. (
        λ k. ⊎_elim (λ is. (x, contains_here x xs, e ∙ ap (λ v. Some v) is)) later (contains_cases w (filter_map h xs) y k),
        λ k. ⊎_elim
            (λ is. let same : w ≡ y = same_Some w y (sym e ∙ ap h is ∙ k.2) in subst (λ z. Contains (w ∷ filter_map h xs) z) same (contains_here w (filter_map h xs)))
            (λ l. contains_there w (filter_map h xs) y (rest.1 (k.0, l, k.2)))
            (contains_cases x xs k.0 k.1),
      )
      | None ↦ λ e. (
        later,
        λ k. ⊎_elim (λ is. absurd (none-some y (sym e ∙ ap h is ∙ k.2))) (λ l. rest.1 (k.0, l, k.2)) (contains_cases x xs k.0 k.1),
      )
    ] refl

-- what holds of each element holds of one
pub holds_of : {X : Type 0} (P : X → Type 0) (xs : List X) (x : X) → AllByRecursion P xs → Contains xs x → P x
holds_of P [] x all here = absurd (contains_nil x here)
holds_of P (y ∷ ys) x all here = ⊎_elim (λ is. subst P is all.0) (λ k. holds_of P ys x all.1 k) (contains_cases y ys x here)

-- and of the one at a place
pub holds_at : {X : Type 0} (P : X → Type 0) (xs : List X) (i : ℕ) (x : X) → AllByRecursion P xs → slice_get xs i ≡ Some x → P x
holds_at P [] i x all is = cc
holds_at P (y ∷ xs) zero x all is = let same : y ≡ x = cc in subst P same all.0
holds_at P (y ∷ xs) (suc i) x all is = holds_at P xs i x all.1 is

-- and what holds of each one holds of all
pub holds_of_all : {X : Type 0} (P : X → Type 0) (xs : List X) → ((x : X) → Contains xs x → P x) → AllByRecursion P xs
holds_of_all P [] each = tt
holds_of_all P (x ∷ xs) each = (each x (contains_here x xs), holds_of_all P xs (λ y h. each y (contains_there x xs y h)))

-- some element passes
pub any_decides : {X : Type 0} (p : X → Bool) (P : X → Type 0) → ((x : X) → Decides (p x) (P x)) → (xs : List X) → Decides (list_any p xs) ((x : X) × Contains xs x × P x)
any_decides p P each [] = (λ e. absurd (false≢true e), λ h. absurd (contains_nil h.0 h.1))
any_decides p P each (x ∷ xs) =
    Decides-like
    _
    (⊎_elim (λ h. (x, contains_here x xs, h)) (λ h. (h.0, contains_there x xs h.0 h.1, h.2)))
    (λ h. ⊎_elim (λ is. inl (subst P (sym is) h.2)) (λ k. inr (h.0, k, h.2)) (contains_cases x xs h.0 h.1))
    (Decides-or _ _ (each x) (any_decides p P each xs))

-- all elements pass
pub all_decides : {X : Type 0} (p : X → Bool) (P : X → Type 0) → ((x : X) → Decides (p x) (P x)) → (xs : List X) → Decides (list_all p xs) (AllByRecursion P xs)
all_decides p P each [] = (λ _. tt, λ _. refl)
all_decides p P each (x ∷ xs) = Decides-and _ _ (each x) (all_decides p P each xs)

-- a number is among some
pub among_decides : (n : ℕ) (ns : List ℕ) → Decides (list_any (λ m. m == n) ns) (Contains ns n)
among_decides n ns =
    Decides-like _ (λ h. subst (λ m. Contains ns m) h.2 h.1) (λ h. (n, h, refl)) (any_decides (λ m. m == n) (λ m. m ≡ n) (λ m. Decides-eqb m n) ns)

-- a search finds nothing exactly where no element passes
pub find_nothing : {X : Type 0} (p : X → Bool) (xs : List X) → (find p xs ≡ None) ↔ AllByRecursion (λ x. p x ≡ false) xs
find_nothing p [] = (λ _. tt, λ _. refl)
find_nothing {X} p (x ∷ xs) =
    let rest = find_nothing p xs in
    elim (p x) as (λ (b : Bool). (cond b (Some x) (find p xs) ≡ None) ↔ ((b ≡ false) × AllByRecursion (λ y. p y ≡ false) xs)) [
      | true ↦ (λ e. cc, λ h. absurd (false≢true (sym h.0)))
      | false ↦ (λ e. (refl, rest.0 e), λ h. rest.1 h.1)
    ]

-- a search that found nothing finds nothing by another test that passes no more of the elements
pub find_nothing_more : {X : Type 0} (p q : X → Bool) (xs : List X) → ((x : X) → Contains xs x → p x ≡ false → q x ≡ false) → find p xs ≡ None → find q xs ≡ None
find_nothing_more p q xs keeps none =
    let each = (find_nothing p xs).0 none in
    (find_nothing q xs).1 (holds_of_all (λ x. q x ≡ false) xs (λ x here. keeps x here (holds_of (λ y. p y ≡ false) xs x each here)))
