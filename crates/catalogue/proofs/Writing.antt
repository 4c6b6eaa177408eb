-- Writing one thing behind the other into a buffer.
use Rattle.std.proofs.Common.{◌≡◌, ℕ, ◌+◌, ◌<◌, ◌≤◌, List, [], ◌∷◌, ◌++◌, map, length, take, drop, get_or, sym, refl, ap, ◌∙◌, subst, arith, length-append, append_assoc}
use Rattle.std.proofs.lemmas.List.{take_all, drop-drop, take_more, append-nil}
use Rattle.std.proofs.lemmas.List.Concat.{flat_map-append}
use Rattle.std.proofs.Math.Seq.{paste}
use Rattle.std.proofs.lemmas.List.Edits.{paste-paste, length-paste}
use Rattle.std.proofs.lemmas.List.Folds.{flat_map-map, length-flat_map-take}
use Rattle.std.specs.FinMap as map
use Rattle.std.specs.List.{flat_map}
use Rattle.kinds.specs.Alphabet.{Alphabet}
use Rattle.records.specs.Calls.{record_with, written}
use Rattle.records.proofs.Books.{values_made}
use Rattle.catalogue.specs.Standing.{bodies, book_of, Rise}
use Rattle.catalogue.specs.Writing.{over_from, records_of}

-- output from a place on is pasted there
over_from_is : {X : Type 0} (at : ℕ) (output old : List X) → over_from at output old ≡ paste old at output (length output)
over_from_is at output old =
    ap (λ bs. take at old ++ (bs ++ drop (length output) (drop at old))) (sym (take_all (length output) output (omega arith))) ∙ ap (λ bs. take at old ++ (take (length output) output ++ bs)) (drop-drop (length output) at old)
    ∙ sym (append_assoc (take at old) (take (length output) output) (drop (at + length output) old))

-- output behind output
pub over_from-over_from : {X : Type 0} (at : ℕ) (first second old : List X) → at + length first ≤ length old
    → over_from (at + length first) second (over_from at first old) ≡ over_from at (first ++ second) old
over_from-over_from at first second old room =
    ap (over_from (at + length first) second) (over_from_is at first old)
    ∙ over_from_is (at + length first) second (paste old at first (length first))
    ∙ paste-paste old at first second (length first) (length second) refl refl (omega arith)
    ∙ ap (paste old at (first ++ second)) (sym (length-append first second))
    ∙ sym (over_from_is at (first ++ second) old)

-- a buffer keeps its length
pub length-over_from : {X : Type 0} (at : ℕ) (output old : List X) → at + length output ≤ length old → length (over_from at output old) ≡ length old
length-over_from at output old room = ap length (over_from_is at output old) ∙ length-paste old at output (length output) room (omega arith)

-- what is written behind something stands behind it
pub written_behind : {X : Type 0} (at behind : ℕ) (first second old between new : List X) → at + length first ≤ length old → behind ≡ at + length first
    → between ≡ over_from at first old → new ≡ over_from behind second between → new ≡ over_from at (first ++ second) old
written_behind at behind first second old between new room place written then =
    then ∙ ap (λ bs. over_from behind second bs) written ∙ ap (λ n. over_from n second (over_from at first old)) place ∙ over_from-over_from at first second old room

-- a record has four bytes before its body
pub length-record_with : (kind : ℕ) (body : List ℕ) → length (record_with kind body) ≡ 4 + length body
length-record_with kind body = omega arith

-- the records of entries, as what each entry gives
as_flat : {S : Type 0} (pair : S → ℕ × List ℕ) (kind : ℕ) (xs : List S) → records_of kind (map pair xs) ≡ flat_map (λ s. record_with kind (pair s).1) xs
as_flat pair kind xs = flat_map-map (record_with kind) (λ (e : ℕ × List ℕ). e.1) (map pair xs) ∙ flat_map-map (λ (e : ℕ × List ℕ). record_with kind e.1) pair xs

module _ {S : Type 0} (pair : S → ℕ × List ℕ) (kind : ℕ) (xs : List S) (i : ℕ) (x : S) (within : i < length xs) (here : x ≡ get_or xs i x) where
  -- the records up to an entry, and that of the entry
  pub records_more : records_of kind (map pair (take (i + 1) xs)) ≡ records_of kind (map pair (take i xs)) ++ record_with kind (pair x).1
  records_more =
      let record_of = λ (s : S). record_with kind (pair s).1 in
      as_flat pair kind (take (i + 1) xs)
      ∙ ap (flat_map record_of) (take_more xs i x within)
      ∙ flat_map-append record_of (take i xs) (get_or xs i x ∷ [])
      ∙ ap (λ bs. flat_map record_of (take i xs) ++ bs) (append-nil (record_of (get_or xs i x)) ∙ ap record_of (sym here))
      ∙ ap (λ bs. bs ++ record_of x) (sym (as_flat pair kind (take i xs)))

  -- they are within those of all entries
  pub records_within : length (records_of kind (map pair (take i xs))) + length (record_with kind (pair x).1) ≤ length (records_of kind (map pair xs))
  records_within =
      let record_of = λ (s : S). record_with kind (pair s).1 in
      subst (λ n. n ≤ length (records_of kind (map pair xs))) refl
      (rw (as_flat pair kind (take i xs), as_flat pair kind xs, here) (length-flat_map-take record_of xs i x within))

-- all that a book writes is the records of its signatures, and then those of its formats
pub written-book_of : {E : Type 0} (a : Alphabet E) (signatures formats : List (ℕ × List ℕ)) → Rise signatures → Rise formats
    → written a (book_of signatures formats) ≡ records_of a.signature_record signatures ++ records_of a.format_record formats
written-book_of a signatures formats signatures_rise formats_rise =
    ap (λ vs. flat_map (record_with a.signature_record) vs ++ flat_map (record_with a.format_record) (map.values (bodies formats))) (values_made signatures signatures_rise)
    ∙ ap (λ vs. records_of a.signature_record signatures ++ flat_map (record_with a.format_record) vs) (values_made formats formats_rise)
