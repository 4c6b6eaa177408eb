-- What standing entries are after one is entered or withdrawn.
use Rattle.std.proofs.Common.{◌≡◌, ℕ, zero, suc, ◌+◌, ◌<◌, Bool, false, cond, ltb, List, [], ◌∷◌, map, length, get_or, Some, None, sym, refl, ap, ◌∙◌, subst}
use Rattle.std.proofs.lemmas.List.Sums.{sum_by-cons}
use Rattle.std.proofs.lemmas.Option.{slice_get-get_or, slice_get-map}
use Rattle.std.specs.FinMap as map
use Rattle.std.specs.FinMap.{find}
use Rattle.std.specs.List.{insert, remove, count_by, slice_get, AllByRecursion}
use Rattle.std.specs.Option.{option_map}
use Rattle.std.specs.Ordering.{nat_cmp}
use Rattle.records.proofs.Books.{none_from, map_insert, map_remove, place_counted, insert_sorted, remove_sorted}
use Rattle.catalogue.specs.Entering.{inserted}
use Rattle.records.specs.Refusals.{format_refused}
use Rattle.records.specs.Taken.{format_in}
use Rattle.catalogue.specs.Standing.{bodies, book_of, format_pair, FormatHeld, FormatsHold, Rise}
use Rattle.catalogue.specs.declared.formats.StandingFormat.{StandingFormat}
use Rattle.catalogue.proofs.Held.{accepted}

-- what holds of all elements and of one more holds where that one is put in
pub all_insert : {X : Type 0} (P : X → Type 0) (xs : List X) (i : ℕ) (x : X) → AllByRecursion P xs → P x → AllByRecursion P (insert xs i x)
all_insert P xs zero x all one = (one, all)
all_insert P [] (suc i) x all one = (one, all)
all_insert P (y ∷ xs) (suc i) x all one = (all.0, all_insert P xs i x all.1 one)

-- what holds of all elements holds where one is taken out
pub all_remove : {X : Type 0} (P : X → Type 0) (xs : List X) (i : ℕ) → AllByRecursion P xs → AllByRecursion P (remove xs i)
all_remove P [] zero all = all
all_remove P [] (suc i) all = all
all_remove P (x ∷ xs) zero all = all.1
all_remove P (x ∷ xs) (suc i) all = (all.0, all_remove P xs i all.1)

-- as many images pass a test as elements whose images do
count_by-map : {X Y : Type 0} (p : Y → Bool) (f : X → Y) (xs : List X) → count_by p (map f xs) ≡ count_by (λ x. p (f x)) xs
count_by-map p f [] = refl
count_by-map p f (x ∷ xs) =
    sum_by-cons (λ y. cond (p y) 1 0) (f x) (map f xs) ∙ ap (λ n. cond (p (f x)) 1 0 + n) (count_by-map p f xs) ∙ sym (sum_by-cons (λ z. cond (p (f z)) 1 0) x xs)

-- the pairs of entries with one more at its place
pub inserted_pairs : {S : Type 0} (pair : S → ℕ × List ℕ) (xs : List S) (x : S) (id : ℕ) (body : List ℕ) → pair x ≡ (id, body)
    → map pair (insert xs (count_by (λ s. ltb (pair s).0 id) xs) x) ≡ inserted (map pair xs) id body
inserted_pairs pair xs x id body is =
    let n = count_by (λ s. ltb (pair s).0 id) xs in
    map_insert pair xs n x ∙ ap (λ e. insert (map pair xs) n e) is
    ∙ ap (λ m. insert (map pair xs) m (id, body)) (sym (count_by-map (λ (e : ℕ × List ℕ). ltb e.0 id) pair xs))

-- ids still rise with a new one at its place
pub rise_inserted : (pairs : List (ℕ × List ℕ)) (id : ℕ) (body : List ℕ) → Rise pairs → map.contains_key (bodies pairs) id ≡ false → Rise (inserted pairs id body)
rise_inserted pairs id body rise new =
    let none : find nat_cmp id pairs ≡ None = sym (map.get-from_sorted nat_cmp pairs id rise) ∙ none_from _ new in
    insert_sorted id body pairs (count_by (λ (e : ℕ × List ℕ). ltb e.0 id) pairs) (place_counted id pairs rise none) rise

-- and without one
pub rise_removed : {S : Type 0} (pair : S → ℕ × List ℕ) (xs : List S) (i : ℕ) (d : S) → i < length xs → Rise (map pair xs) → Rise (map pair (remove xs i))
rise_removed pair xs i d within rise =
    let at : slice_get (map pair xs) i ≡ Some (pair (get_or xs i d)) = slice_get-map pair xs i ∙ ap (option_map pair) (slice_get-get_or xs i d within) in
    subst Rise (sym (map_remove pair xs i)) (remove_sorted (pair (get_or xs i d)).0 (pair (get_or xs i d)).1 (map pair xs) i rise at)

-- formats go on to hold what their bodies say where one that is accepted is entered
pub formats_entered : (pairs : List (ℕ × List ℕ)) (formats : List StandingFormat) (e : StandingFormat) → FormatsHold formats → FormatHeld e
    → format_refused (book_of pairs (map format_pair formats)) (format_in e.format) ≡ None
    → FormatsHold (insert formats (count_by (λ (s : StandingFormat). ltb s.format.id e.format.id) formats) e)
formats_entered pairs formats e holds held none =
    let new = (accepted (book_of pairs (map format_pair formats)) (format_in e.format) none).0 in
    record {
      rise = subst Rise (sym (inserted_pairs format_pair formats e e.format.id e.body.items refl)) (rise_inserted (map format_pair formats) e.format.id e.body.items holds.rise new);
      held = all_insert FormatHeld formats _ e holds.held held;
    }

-- and where one is withdrawn
pub formats_withdrawn : (formats : List StandingFormat) (i : ℕ) → i < length formats → FormatsHold formats → StandingFormat → FormatsHold (remove formats i)
formats_withdrawn formats i within holds d =
    record { rise = rise_removed format_pair formats i d within holds.rise; held = all_remove FormatHeld formats i holds.held }
