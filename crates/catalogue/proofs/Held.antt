-- What standing entries say of their book.
use Rattle.std.proofs.Common.{◌≡◌, ℕ, suc, ◌+◌, ◌<◌, ◌≤◌, Bool, true, false, cond, not, ltb, ◌||◌, ◌==◌, ⊎_elim, List, [], ◌∷◌, map, length, Some, None, Option, is_some, nat_le, sym, refl, ap, ◌∙◌, arith}
use Rattle.std.proofs.lemmas.Bool.{cases_lt, lt-ltb, le-ltb}
use Rattle.std.proofs.lemmas.Bool.Decides.{nat_tests}
use Rattle.std.proofs.lemmas.List.{length-map}
use Rattle.std.specs.FinMap as map
use Rattle.std.specs.FinMap.{find as find_key}
use Rattle.std.specs.List.{find, position, position_or_len, filter_map, cons_option, list_any, AllByRecursion}
use Rattle.std.specs.Option.{option_map, option_or, MatchOption, IsSomeAnd}
use Rattle.std.specs.Ordering.{nat_cmp, eq_by_cmp}
use Rattle.faults.specs.Faults.{outside}
use Rattle.faults.specs.declared.fault.Cause.TheVariants.{Taken, Full}
use Rattle.faults.specs.declared.fault.Fault.{Fault}
use Rattle.records.specs.Book as book
use Rattle.records.specs.Book.{Book, formats_of}
use Rattle.records.specs.Entries.{Format}
use Rattle.records.specs.Refusals.{refused_if, names_missing, formats_full, format_refused}
use Rattle.records.specs.Taken.{format_in}
use Rattle.records.proofs.Books.{len_made, values_made}
use Rattle.records.proofs.Labels.{list_any-map}
use Rattle.catalogue.specs.Standing.{bodies, book_of, format_pair, formats_in, FormatHeld, FormatsHold, Rise}
use Rattle.catalogue.specs.declared.formats.StandingFormat.{StandingFormat}

-- two numbers tie where they are the same
tied : (q x : ℕ) → eq_by_cmp nat_cmp q x ≡ (x == q)
tied q x = grind (arith, nat_tests)

-- an id is found in a list where some entry has it
is_some-find_key : (es : List (ℕ × List ℕ)) (id : ℕ) → is_some (find_key nat_cmp id es) ≡ list_any (λ (e : ℕ × List ℕ). e.0 == id) es
is_some-find_key [] id = refl
is_some-find_key (e ∷ es) id =
    elim (eq_by_cmp nat_cmp id e.0) as (λ (b : Bool). eq_by_cmp nat_cmp id e.0 ≡ b → is_some (cond b (Some e.1) (find_key nat_cmp id es)) ≡ ((e.0 == id) || list_any (λ (f : ℕ × List ℕ). f.0 == id) es)) [
      | true ↦ λ o. ap (λ b. b || list_any (λ (f : ℕ × List ℕ). f.0 == id) es) (sym o ∙ tied id e.0)
      | false ↦ λ o. is_some-find_key es id ∙ ap (λ b. b || list_any (λ (f : ℕ × List ℕ). f.0 == id) es) (sym o ∙ tied id e.0)
    ] refl

-- an id stands where some entry has it
pub contains_key-bodies : {S : Type 0} (pair : S → ℕ × List ℕ) (xs : List S) (id : ℕ) → Rise (map pair xs)
    → map.contains_key (bodies (map pair xs)) id ≡ list_any (λ s. (pair s).0 == id) xs
contains_key-bodies pair xs id rise =
    ap is_some (map.get-from_sorted nat_cmp (map pair xs) id rise) ∙ is_some-find_key (map pair xs) id ∙ list_any-map (λ (e : ℕ × List ℕ). e.0 == id) pair xs

-- a position is found in a list at its first element or behind it
position_first : {X : Type 0} (p : X → Bool) (x : X) (xs : List X) → is_some (position p (x ∷ xs)) ≡ (p x || is_some (position p xs))
position_first p x xs =
    let k = position_or_len p xs in
    elim (p x) as (λ b. is_some (cond (ltb (cond (not b) (1 + k) 0) (suc (length xs))) (Some (cond (not b) (1 + k) 0)) None) ≡ (b || is_some (position p xs))) [
      | true ↦ let above : 0 < suc (length xs) = omega arith in rw (lt-ltb 0 (suc (length xs)) above) refl
      | false ↦ ⊎_elim
          (λ h.
          let above : 1 + k < suc (length xs) = omega arith in
          rw (lt-ltb (1 + k) (suc (length xs)) above, lt-ltb k (length xs) h) refl)
          (λ h. let above : suc (length xs) ≤ 1 + k = omega arith in rw (le-ltb (1 + k) (suc (length xs)) above, le-ltb k (length xs) h) refl)
          (cases_lt k (length xs))
    ]

-- a position is found where some element passes
is_some-position : {X : Type 0} (p : X → Bool) (xs : List X) → is_some (position p xs) ≡ list_any p xs
is_some-position p [] = refl
is_some-position p (x ∷ xs) = position_first p x xs ∙ ap (λ b. p x || b) (is_some-position p xs)

-- so an id stands where its place is found
pub stands_where_found : {S : Type 0} (pair : S → ℕ × List ℕ) (xs : List S) (id : ℕ) → Rise (map pair xs)
    → map.contains_key (bodies (map pair xs)) id ≡ is_some (position (λ s. (pair s).0 == id) xs)
stands_where_found pair xs id rise = contains_key-bodies pair xs id rise ∙ sym (is_some-position (λ s. (pair s).0 == id) xs)

-- the first image that passes a test is that of the first element whose image does
find-map : {X Y : Type 0} (p : Y → Bool) (f : X → Y) (xs : List X) → find p (map f xs) ≡ option_map f (find (λ x. p (f x)) xs)
find-map p f [] = refl
find-map p f (x ∷ xs) =
    elim (p (f x)) as (λ (b : Bool). cond b (Some (f x)) (find p (map f xs)) ≡ option_map f (cond b (Some x) (find (λ y. p (f y)) xs))) [
      | true ↦ refl
      | false ↦ find-map p f xs
    ]

-- the id of the first format that passes a test
pub id_of_first : (p : Format → Bool) (formats : List StandingFormat) → option_map (λ (e : StandingFormat). e.format.id) (find (λ (e : StandingFormat). p (format_in e.format)) formats)
    ≡ option_map (λ (f : Format). f.id) (find p (formats_in formats))
id_of_first p formats = twice (find (λ (e : StandingFormat). p (format_in e.format)) formats) ∙ ap (option_map (λ (f : Format). f.id)) (sym (find-map p (λ (e : StandingFormat). format_in e.format) formats))
  where
    twice : (o : Option StandingFormat) → option_map (λ (e : StandingFormat). e.format.id) o ≡ option_map (λ (f : Format). f.id) (option_map (λ (e : StandingFormat). format_in e.format) o)
    twice None = refl
    twice (Some e) = refl

-- what `map` gives of what may have been found, by a view of it
pub mapped : {A X Y : Type 0} (view : A → X) (f : X → Y) (P : A → Y → Type 0) (o : Option A) (r : Option Y) → MatchOption o (r ≡ None) (λ x. IsSomeAnd r (P x))
    → ((x : A) (y : Y) → P x y → y ≡ f (view x)) → r ≡ option_map f (option_map view o)
mapped view f P None r h gives = h
mapped view f P (Some x) None h gives = absurd h
mapped view f P (Some x) (Some y) h gives = ap (λ z. Some z) (gives x y h)

-- as many ids stand as there are entries
pub len-bodies : {S : Type 0} (pair : S → ℕ × List ℕ) (xs : List S) → Rise (map pair xs) → map.len (bodies (map pair xs)) ≡ length xs
len-bodies pair xs rise = len_made (map pair xs) rise ∙ length-map xs pair

-- the formats of a book are those of the standing formats
pub formats_of-book_of : (pairs : List (ℕ × List ℕ)) (formats : List StandingFormat) → FormatsHold formats → formats_of (book_of pairs (map format_pair formats)) ≡ formats_in formats
formats_of-book_of pairs formats holds = ap (filter_map book.format_in) (values_made (map format_pair formats) holds.rise) ∙ read formats holds.held
  where
    read : (fs : List StandingFormat) → AllByRecursion FormatHeld fs → filter_map book.format_in (map (λ (e : ℕ × List ℕ). e.1) (map format_pair fs)) ≡ formats_in fs
    read [] held = refl
    read (f ∷ fs) held =
        ap (λ (o : Option Format). cons_option o (filter_map book.format_in (map (λ (e : ℕ × List ℕ). e.1) (map format_pair fs)))) held.0
        ∙ ap (λ (gs : List Format). format_in f.format ∷ gs) (read fs held.1)

-- a format that is not refused has a new id, and there is room for it
pub accepted : (book : Book) (f : Format) → format_refused book f ≡ None → (map.contains_key book.formats f.id ≡ false) × (map.len book.formats < 48)
accepted book f none =
    elim (map.contains_key book.formats f.id) as (λ (b : Bool). option_or (refused_if b (outside Taken f.id)) (option_or (names_missing book f) (option_or (formats_full book) None)) ≡ None → (b ≡ false) × (map.len book.formats < 48)) [
      | true ↦ λ e. cc
      | false ↦ λ e. (refl, room (names_missing book f) (nat_le 48 (map.len book.formats)) refl e)
    ] none
  where
    room : (missing : Option Fault) (b : Bool) → nat_le 48 (map.len book.formats) ≡ b → option_or missing (option_or (refused_if b (outside Full 3)) None) ≡ None → map.len book.formats < 48
    room (Some m) b is e = cc
    room None true is e = cc
    room None false is e = grind (arith, nat_tests)
