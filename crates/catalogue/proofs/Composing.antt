-- The calls of a catalogue: what its fields hold, and what its book is, before and after them.
use Rattle.std.proofs.Common.{◌≡◌, ◌==◌, ◌&&◌, ◌↔◌, IsTrue, ℕ, zero, suc, ◌<◌, Bool, false, not, List, [], ◌∷◌, map, length, get_or, drop, replicate, Some, None, Ok, Err, Option, Result, is_some, sym, refl, ap, ◌∙◌, subst, arith}
use Rattle.std.proofs.lemmas.Bool.{false≢true, eqb-true, ne_eqb}
use Rattle.std.proofs.lemmas.List.Quantifiers.{position-Some}
use Rattle.std.proofs.lemmas.Option.{slice_get-map, slice_get-get_or}
use Rattle.std.specs.FinMap as finite
use Rattle.std.specs.List.{position, find, remove, slice_get}
use Rattle.std.specs.Option.{option_map, option_or}
use Rattle.std.specs.Ordering.{nat_cmp}
use Rattle.faults.specs.Faults.{outside}
use Rattle.faults.specs.declared.fault.Cause.TheVariants.{Missing}
use Rattle.faults.specs.declared.fault.Fault.{Fault}
use Rattle.kinds.specs.Alphabet.{Alphabet}
use Rattle.engine.specs.Tables.{free_from}
use Rattle.engine.specs.declared.fragment.Fragment.{Fragment}
use Rattle.records.specs.Book.{Book, empty}
use Rattle.records.specs.Calls.{unless, after, entry_read, id_of, with_body, entering, entered}
use Rattle.records.specs.Entries.{Signature, Format, Entry, signature, format}
use Rattle.records.specs.Lawful.{Lawful}
use Rattle.records.specs.Refusals.{first_of, refused_if, entry_refused, format_refused, smallest_id}
use Rattle.records.proofs.Books.{none_from, place_counted, insert_made, contains_made, remove_made, len_made}
use Rattle.records.proofs.Keeping.{neither, not_refused, books_stay_lawful}
use Rattle.catalogue.specs.Entering.{inserted, with_entry}
use Rattle.catalogue.specs.Standing.{signature_pair, format_pair, formats_in, bodies, book_of, book_in, Rise, SignaturesHold, FormatsHold, Holds}
use Rattle.catalogue.proofs.Held.{len-bodies, stands_where_found, formats_of-book_of}
use Rattle.catalogue.specs.declared.formats.StandingFormat.{StandingFormat}
use Rattle.catalogue.specs.declared.signatures.StandingSignature.{StandingSignature}

-- Nothing.

-- the map of no entries is empty
bodies_nil : bodies [] ≡ finite.empty
bodies_nil = finite.empty_of_len (bodies []) (len_made [] tt)

-- so is the book
pub book_nil : book_of [] [] ≡ empty
book_nil = λ i. record { signatures = bodies_nil i; formats = bodies_nil i }

-- all slots of a table of free slots are free
free_count : (n k : ℕ) → length (free_from {X = Fragment} n (replicate k None)) ≡ k
free_count n zero = refl
free_count n (suc k) = ap suc (free_count (suc n) k)

-- what an empty catalogue holds
pub nothing_holds : {E K : Type 0} (a : Alphabet E) → Holds {K = K} a [] [] (replicate 96 None)
nothing_holds a = record {
  signatures_hold = record { rise = tt; held = tt; accounted = record { distinct = tt; counted = omega (arith, free_count 0 96) } };
  formats_hold = record { rise = tt; held = tt };
  lawful = subst (Lawful a) (sym book_nil) ((books_stay_lawful a).none);
}

-- the book is empty exactly where nothing stands
pub empty_decided : {K : Type 0} (signatures : List (StandingSignature K)) (formats : List StandingFormat) → Rise (map signature_pair signatures) → Rise (map format_pair formats)
    → (b : Bool) → b ≡ ((length signatures == 0) && (length formats == 0)) → IsTrue b ↔ (book_in signatures formats ≡ empty)
empty_decided [] [] signatures_rise formats_rise b is = (λ _. book_nil, λ _. is)
empty_decided [] (f ∷ fs) signatures_rise formats_rise b is =
    let some : (length (f ∷ fs) == 0) ≡ false = ne_eqb (length (f ∷ fs)) 0 (λ none. omega arith) in (
      λ t. absurd (false≢true (sym (is ∙ some) ∙ t)),
      λ e. absurd (omega (arith, len-bodies format_pair (f ∷ fs) formats_rise, ap (λ (x : Book). finite.len x.formats) e, finite.len-empty nat_cmp (List ℕ))),
    )
empty_decided (s ∷ ss) formats signatures_rise formats_rise b is =
    let some : (length (s ∷ ss) == 0) ≡ false = ne_eqb (length (s ∷ ss)) 0 (λ none. omega arith) in (
      λ t. absurd (false≢true (sym (is ∙ ap (λ x. x && (length formats == 0)) some) ∙ t)),
      λ e. absurd (omega (arith, len-bodies signature_pair (s ∷ ss) signatures_rise, ap (λ (x : Book). finite.len x.signatures) e, finite.len-empty nat_cmp (List ℕ))),
    )

-- Entering.

-- to enter a new id is to insert it at its place
put_in : (pairs : List (ℕ × List ℕ)) (id : ℕ) (body : List ℕ) → Rise pairs → finite.contains_key (bodies pairs) id ≡ false
    → bodies (inserted pairs id body) ≡ finite.insert (bodies pairs) id body
put_in pairs id body rise new =
    let none = sym (finite.get-from_sorted nat_cmp pairs id rise) ∙ none_from (finite.get (bodies pairs) id) new in
    sym (insert_made pairs rise id body _ (place_counted id pairs rise none))

module _ {E : Type 0} (a : Alphabet E) (signatures formats : List (ℕ × List ℕ)) where
  -- a book with a signature more, unless it is refused
  signature_added : (refused : Option Fault) (id : ℕ) (body : List ℕ) → Rise signatures
      → (refused ≡ None → finite.contains_key (bodies signatures) id ≡ false)
      → book_of (with_entry refused signatures id body) formats
      ≡ after refused (book_of signatures formats) (record { signatures = finite.insert (bodies signatures) id body; formats = bodies formats })
  signature_added None id body rise new = ap (λ m. record { signatures = m; formats = bodies formats }) (put_in signatures id body rise (new refl))
  signature_added (Some f) id body rise new = refl

  -- a book with a format more, unless it is refused
  format_added : (refused : Option Fault) (id : ℕ) (body : List ℕ) → Rise formats
      → (refused ≡ None → finite.contains_key (bodies formats) id ≡ false)
      → book_of signatures (with_entry refused formats id body)
      ≡ after refused (book_of signatures formats) (record { signatures = bodies signatures; formats = finite.insert (bodies formats) id body })
  format_added None id body rise new = ap (λ m. record { signatures = bodies signatures; formats = m }) (put_in formats id body rise (new refl))
  format_added (Some f) id body rise new = refl

  module _ (bytes : List ℕ) (e : Entry) (read : entry_read a bytes ≡ Ok e) where
    -- the answer to a record that is read as an entry
    pub entering_read : entering a (book_of signatures formats) bytes ≡ unless (entry_refused a (book_of signatures formats) e) (id_of e)
    entering_read = ap (λ (r : Result Entry Fault). elim r [ Err f ↦ Err f | Ok x ↦ unless (entry_refused a (book_of signatures formats) x) (id_of x) ]) read

    -- and what stands then
    entered_read : entered a (book_of signatures formats) bytes
        ≡ after (entry_refused a (book_of signatures formats) e) (book_of signatures formats) (with_body (book_of signatures formats) e (drop 4 bytes))
    entered_read =
        let book = book_of signatures formats in
        ap (λ (r : Result Entry Fault). elim r [ Err f ↦ book | Ok x ↦ after (entry_refused a book x) book (with_body book x (drop 4 bytes)) ]) read

  -- a signature that is not refused has a new id
  new_signature : (s : Signature) → entry_refused a (book_of signatures formats) (signature s) ≡ None → finite.contains_key (bodies signatures) s.id ≡ false
  new_signature s none = let taken = neither _ _ none in not_refused _ _ taken.0

  -- so has a format
  new_format : (f : Format) → format_refused (book_of signatures formats) f ≡ None → finite.contains_key (bodies formats) f.id ≡ false
  new_format f none = let taken = neither _ _ none in not_refused _ _ taken.0

  -- the book after a signature was entered
  pub signature_entered : (bytes body : List ℕ) (s : Signature) (new : List (ℕ × List ℕ)) → entry_read a bytes ≡ Ok (signature s) → body ≡ drop 4 bytes
      → Rise signatures → new ≡ with_entry (entry_refused a (book_of signatures formats) (signature s)) signatures s.id body
      → book_of new formats ≡ entered a (book_of signatures formats) bytes
  signature_entered bytes body s new read behind rise is =
      let refused = entry_refused a (book_of signatures formats) (signature s) in
      ap (λ pairs. book_of pairs formats) (is ∙ ap (with_entry refused signatures s.id) behind)
      ∙ signature_added refused s.id (drop 4 bytes) rise (new_signature s)
      ∙ sym (entered_read bytes (signature s) read)

  -- the book after a format was entered
  pub format_entered : (bytes body : List ℕ) (f : Format) (new : List (ℕ × List ℕ)) → entry_read a bytes ≡ Ok (format f) → body ≡ drop 4 bytes
      → Rise formats → new ≡ with_entry (format_refused (book_of signatures formats) f) formats f.id body
      → book_of signatures new ≡ entered a (book_of signatures formats) bytes
  format_entered bytes body f new read behind rise is =
      let refused = format_refused (book_of signatures formats) f in
      ap (λ pairs. book_of signatures pairs) (is ∙ ap (with_entry refused formats f.id) behind)
      ∙ format_added refused f.id (drop 4 bytes) rise (new_format f)
      ∙ sym (entered_read bytes (format f) read)

-- Withdrawing.

-- a choice with nothing behind it
pub or_nothing : {A : Type 0} (o : Option A) → option_or o None ≡ o
or_nothing None = refl
or_nothing (Some x) = refl

module _ {S : Type 0} (pair : S → ℕ × List ℕ) (xs : List S) (rise : Rise (map pair xs)) (id : ℕ) where
  -- an id without a place does not stand
  pub absent : position (λ s. (pair s).0 == id) xs ≡ None → finite.contains_key (bodies (map pair xs)) id ≡ false
  absent none = stands_where_found pair xs id rise ∙ ap is_some none

  -- so its withdrawal is refused
  pub kept_missing : (named : Option Fault) → position (λ s. (pair s).0 == id) xs ≡ None
      → first_of (refused_if (not (finite.contains_key (bodies (map pair xs)) id)) (outside Missing id) ∷ named ∷ []) ≡ Some (outside Missing id)
  kept_missing named none = ap (λ b. first_of (refused_if (not b) (outside Missing id) ∷ named ∷ [])) (absent none)

-- where the place of an id is found, an entry of that id stands
pub found_entry : {S : Type 0} (pair : S → ℕ × List ℕ) (xs : List S) (id i : ℕ) → position (λ s. (pair s).0 == id) xs ≡ Some i
    → (body : List ℕ) × (i < length xs) × (slice_get (map pair xs) i ≡ Some (id, body))
found_entry pair [] id i found = cc
found_entry pair (s ∷ xs) id i found =
    let h = position-Some (λ x. (pair x).0 == id) (s ∷ xs) i s found in
    let x = get_or (s ∷ xs) i s in
    ((pair x).1, h.0, slice_get-map pair (s ∷ xs) i ∙ ap (option_map pair) (slice_get-get_or (s ∷ xs) i s h.0) ∙ ap (λ n. Some (n, (pair x).1)) (eqb-true (pair x).0 id h.1))

module _ {S : Type 0} (pair : S → ℕ × List ℕ) (xs : List S) (rise : Rise (map pair xs)) (id i : ℕ) (found : position (λ s. (pair s).0 == id) xs ≡ Some i) where
  -- an id with a place stands, so its withdrawal is refused only where something names it
  pub kept_named : (named : Option Fault)
      → first_of (refused_if (not (finite.contains_key (bodies (map pair xs)) id)) (outside Missing id) ∷ named ∷ []) ≡ named
  kept_named named =
      let entry = found_entry pair xs id i found in
      ap (λ b. first_of (refused_if (not b) (outside Missing id) ∷ named ∷ [])) (contains_made (map pair xs) rise id entry.0 i entry.2) ∙ or_nothing named

  -- without it
  pub gone : bodies (remove (map pair xs) i) ≡ finite.remove (bodies (map pair xs)) id
  gone = let entry = found_entry pair xs id i found in sym (remove_made (map pair xs) rise id entry.0 i entry.2)

-- the smallest id of a book's formats that pass a test is that of the standing formats
pub smallest_standing : (p : Format → Bool) (signatures : List (ℕ × List ℕ)) (formats : List StandingFormat) → FormatsHold formats
    → smallest_id p (book_of signatures (map format_pair formats)) ≡ option_map (λ (f : Format). f.id) (find p (formats_in formats))
smallest_standing p signatures formats holds = ap (λ fs. option_map (λ (f : Format). f.id) (find p fs)) (formats_of-book_of signatures formats holds)

-- a withdrawal that is refused answers why
pub refused_answer : (kept : Option Fault) (f : Fault) (id : ℕ) → kept ≡ Some f → ◌≡◌ {A = Result ℕ Fault} (Err f) (unless kept id)
refused_answer kept f id e = sym (ap (λ o. unless o id) e)

-- and leaves the book as it was
pub refused_leaves : (kept : Option Fault) (f : Fault) (old new : Book) → kept ≡ Some f → old ≡ after kept old new
refused_leaves kept f old new e = sym (ap (λ o. after o old new) e)

-- What a catalogue holds after its signatures, formats and table were changed together.
pub holds_again : {E K : Type 0} (a : Alphabet E) (signatures : List (StandingSignature K)) (formats : List StandingFormat) (table : List (Option Fragment)) (book : Book)
    → SignaturesHold a signatures table → FormatsHold formats → book_in signatures formats ≡ book → Lawful a book → Holds a signatures formats table
holds_again a signatures formats table book signatures_hold formats_hold is lawful =
    record { signatures_hold = signatures_hold; formats_hold = formats_hold; lawful = subst (Lawful a) (sym is) lawful }
