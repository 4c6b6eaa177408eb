-- Entering and withdrawing keep a lawful book lawful.
use Rattle.std.proofs.Common.{◌≡◌, ℕ, ◌+◌, ◌-◌, ◌<◌, ◌≤◌, Bool, true, false, not, cond, List, [], map, drop, Some, None, Ok, Err, Option, Result, Ordering, Less, Equal, Greater, is_some, sym, refl, ap, ◌∙◌, subst, arith}
use Rattle.std.proofs.lemmas.Bool.{leb-false, ltb-false, not-false, not_from_true}
use Rattle.std.proofs.lemmas.Cmp.{ranked}
use Rattle.std.proofs.lemmas.List.{nil_from_length}
use Rattle.std.proofs.lemmas.List.Elements.{All-from_recursion, recursion_from_All, All-drop, All-filter}
use Rattle.std.specs.Cmp.{nat_cmp_total}
use Rattle.std.specs.FinMap as map
use Rattle.std.specs.List.{filter_map, find, AllByRecursion, Contains, sum_by}
use Rattle.std.specs.Option.{option_map, option_or}
use Rattle.std.specs.Ordering.{nat_cmp, is_eq, eq_by_cmp}
use Rattle.faults.specs.Faults.{outside}
use Rattle.faults.specs.declared.fault.Cause.TheVariants.{Field}
use Rattle.faults.specs.declared.fault.Fault.{Fault}
use Rattle.kinds.specs.Alphabet.{Alphabet}
use Rattle.records.specs.Book.{Book, empty, signature_in, format_in, formats_of, fragments_of, fragments_standing}
use Rattle.records.specs.Calls.{after, with_body, entered}
use Rattle.records.specs.Entries.{Signature, Format, Entry, signature, format}
use Rattle.records.specs.Lawful.{SignatureStands, FormatStands, Lawful, BooksStayLawful}
use Rattle.records.specs.Reading.{entry_at}
use Rattle.records.specs.Refusals.{refused_if, entry_refused, missing_id, signature_kept, format_kept}
use Rattle.records.specs.Report.{among_ids}
use Rattle.records.proofs.Bodies.{signature_entered, format_entered}
use Rattle.records.proofs.Books.{all_put, counted, entries_left, sum_inserted, sum_removed}
use Rattle.records.proofs.Members.{contains_map, contains_filter_map, holds_of, holds_of_all, find_nothing, find_nothing_more, among_decides}

-- Refusals that do not hold.

-- of two choices, neither is there
pub neither : {A : Type 0} (o p : Option A) → option_or o p ≡ None → (o ≡ None) × (p ≡ None)
neither None p e = (refl, e)
neither (Some x) p e = cc

-- a refusal that is not there failed its test
pub not_refused : (b : Bool) (f : Fault) → refused_if b f ≡ None → b ≡ false
not_refused true f e = cc
not_refused false f e = refl

-- what is made of nothing
made_of_none : {A B : Type 0} (g : A → B) (o : Option A) → option_map g o ≡ None → o ≡ None
made_of_none g None e = refl
made_of_none g (Some x) e = cc

-- what is some has a value
some_value : {A : Type 0} (o : Option A) → is_some o ≡ true → (x : A) × (o ≡ Some x)
some_value None e = cc
some_value (Some x) e = (x, refl)

-- what holds of a book, and of a new one where there is no refusal, holds afterwards
after_keeps : (P : Book → Type 0) (refusal : Option Fault) (old new : Book) → P old → (refusal ≡ None → P new) → P (after refusal old new)
after_keeps P None old new before then = then refl
after_keeps P (Some f) old new before then = before

-- Keys.

-- a key stays when another is entered
has_still : (m : map.FinMap nat_cmp (List ℕ)) (k : ℕ) (v : List ℕ) (q : ℕ) → map.contains_key m q ≡ true → map.contains_key (map.insert m k v) q ≡ true
has_still m k v q has =
    ap is_some (map.get-insert nat_cmp_total m k v q)
    ∙ elim (eq_by_cmp nat_cmp q k) as (λ (b : Bool). is_some (cond b (Some v) (map.get m q)) ≡ true) [ true ↦ refl | false ↦ has ]

-- and when another is withdrawn
has_left : (m : map.FinMap nat_cmp (List ℕ)) (k q : ℕ) → (q ≡ k → ⊥) → map.contains_key m q ≡ true → map.contains_key (map.remove m k) q ≡ true
has_left m k q other has =
    ap is_some (map.get-remove nat_cmp_total m k q)
    ∙ elim (nat_cmp q k) as (λ (o : Ordering). nat_cmp q k ≡ o → is_some (cond (is_eq o) None (map.get m q)) ≡ true) [
      | Less ↦ λ _. has
      | Equal ↦ λ o. absurd (other (ranked q k Equal (sym o)))
      | Greater ↦ λ _. has
    ] refl

-- the length of a map with a new key
len_more : (m : map.FinMap nat_cmp (List ℕ)) (k : ℕ) (v : List ℕ) → map.contains_key m k ≡ false → map.len (map.insert m k v) ≡ map.len m + 1
len_more m k v new = map.len-insert nat_cmp_total m k v ∙ ap (λ b. cond b (map.len m) (map.len m + 1)) new

-- a map of no length has no entries
none_in : (m : map.FinMap nat_cmp (List ℕ)) → map.len m ≡ 0 → map.entries m ≡ []
none_in m none = nil_from_length (map.entries m) (sym (map.len-entries m) ∙ none)

-- and that of a map without a key
len_less : (m : map.FinMap nat_cmp (List ℕ)) (k : ℕ) → map.len (map.remove m k) ≤ map.len m
len_less m k =
    let len = map.len-remove nat_cmp_total m k in
    elim (map.contains_key m k) as (λ (b : Bool). map.len (map.remove m k) ≡ cond b (map.len m - 1) (map.len m) → map.len (map.remove m k) ≤ map.len m) [ true ↦ λ e. omega arith | false ↦ λ e. omega arith ] len

-- What is named.

-- what a format names stands in another book too, if each id that it names stands there still
named_still : (old new : Book) (f : Format)
    → ((q : ℕ) → Contains f.signatures q → map.contains_key old.signatures q ≡ true → map.contains_key new.signatures q ≡ true)
    → ((q : ℕ) → Contains f.outranked q → map.contains_key old.formats q ≡ true → map.contains_key new.formats q ≡ true)
    → missing_id old f ≡ None → missing_id new f ≡ None
named_still old new f signatures formats none =
    let parts = neither _ _ none in
    let first = find_nothing_more
    (λ q. not (map.contains_key old.signatures q))
    (λ q. not (map.contains_key new.signatures q))
    f.signatures
    (λ q here e. not_from_true _ (signatures q here (not-false _ e)))
    parts.0 in
    let second = find_nothing_more
    (λ q. not (map.contains_key old.formats q))
    (λ q. not (map.contains_key new.formats q))
    f.outranked
    (λ q here e. not_from_true _ (formats q here (not-false _ e)))
    parts.1 in
    ap (λ o. option_or o (find (λ q. not (map.contains_key new.formats q)) f.outranked)) first ∙ second

-- so a format stands there
stands_still : (old new : Book) (e : ℕ × List ℕ) (stands : FormatStands old e) → missing_id new stands.entry ≡ None → FormatStands new e
stands_still old new e stands named = record { entry = stands.entry; reads = stands.reads; id = stands.id; named = named; bytes = stands.bytes }

-- a format that stands is one of those of its book
standing : (book : Book) (e : ℕ × List ℕ) (stands : FormatStands book e) → Contains (map.entries book.formats) e → Contains (formats_of book) stands.entry
standing book e stands here =
    (contains_filter_map format_in (map.values book.formats) stands.entry).1
    (e.1, (contains_map (λ (x : ℕ × List ℕ). x.1) (map.entries book.formats) e.1).1 (e, here, refl), stands.reads)

-- a search among the formats that finds none: each fails the test
not_naming : (book : Book) (p : Format → Bool) → find p (formats_of book) ≡ None → (f : Format) → Contains (formats_of book) f → p f ≡ false
not_naming book p none f here = holds_of (λ g. p g ≡ false) (formats_of book) f ((find_nothing p (formats_of book)).0 none) here

-- an id that is not among some ids is none of them
other_id : (id : ℕ) (ids : List ℕ) (q : ℕ) → among_ids id ids ≡ false → Contains ids q → q ≡ id → ⊥
other_id id ids q none here is =
    let among = (among_decides id ids).1 (subst (λ n. Contains ids n) is here) in cc

-- the bytes of a body are bytes of its record
pub body_bytes : (bytes : List ℕ) → AllByRecursion (λ b. b < 256) bytes → AllByRecursion (λ b. b < 256) (drop 4 bytes)
body_bytes bytes all = recursion_from_All _ (drop 4 bytes) (All-drop (λ b. b < 256) 4 bytes (All-from_recursion _ bytes all))

-- what holds of all entries holds of those that are left
all_left : {X : Type 0} (P : ℕ × X → Type 0) (m : map.FinMap nat_cmp X) (k : ℕ) → AllByRecursion P (map.entries m) → AllByRecursion P (map.entries (map.remove m k))
all_left P m k all =
    subst (AllByRecursion P) (sym (entries_left m k)) (recursion_from_All P _ (All-filter (λ e. not (eq_by_cmp nat_cmp k e.0)) P (map.entries m) (All-from_recursion P (map.entries m) all)))

-- what holds of all entries, and of a new one, holds with the new one
all_more : {X : Type 0} (P : ℕ × X → Type 0) (m : map.FinMap nat_cmp X) (k : ℕ) (v : X) → P (k, v) → AllByRecursion P (map.entries m) → AllByRecursion P (map.entries (map.insert m k v))
all_more P m k v one all = subst (AllByRecursion P) (sym (map.entries-insert nat_cmp_total m k v)) (all_put P k v (map.entries m) one all)

module _ {E : Type 0} (a : Alphabet E) where
  -- the empty book is lawful
  empty_lawful : Lawful a empty
  empty_lawful =
      let none = none_in empty.signatures (map.len-empty nat_cmp (List ℕ)) in
      let len : map.len empty.signatures ≤ 24 = omega (arith, map.len-empty nat_cmp (List ℕ)) in
      let fragments : fragments_standing a empty ≡ 0 = ap (λ (es : List (ℕ × List ℕ)). sum_by (fragments_of a) (filter_map signature_in (map (λ e. e.1) es))) none in
      record {
        signatures = subst (AllByRecursion (SignatureStands a)) (sym none) tt;
        formats = subst (AllByRecursion (FormatStands empty)) (sym none) tt;
        few_signatures = len;
        few_fragments = omega arith;
        few_formats = omega (arith, len);
      }

  module _ (book : Book) (lawful : Lawful a book) where
    -- a signature whose entry is not refused enters a lawful book
    signature_enters : (s : Signature) (body : List ℕ) → signature_in body ≡ Some s → AllByRecursion (λ b. b < 256) body
        → entry_refused a book (signature s) ≡ None → Lawful a (with_body book (signature s) body)
    signature_enters s body reads bytes allowed =
        let taken = neither _ _ allowed in
        let texts = neither _ _ taken.1 in
        let full = neither _ _ texts.1 in
        let many = neither _ _ full.1 in
        let new : map.contains_key book.signatures s.id ≡ false = not_refused _ _ taken.0 in
        let room : map.len book.signatures < 24 = leb-false 24 (map.len book.signatures) (not_refused _ _ full.0) in
        let fragments : fragments_standing a book + fragments_of a s ≤ 96 = ltb-false 96 (fragments_standing a book + fragments_of a s) (not_refused _ _ many.0) in
        let len = len_more book.signatures s.id body new in
        let sum = sum_inserted signature_in (fragments_of a) book.signatures s.id body new in
        let said : counted signature_in (fragments_of a) body ≡ fragments_of a s = ap (λ (o : Option Signature). elim o [ Some x ↦ fragments_of a x | None ↦ 0 ]) reads in
        record {
          signatures = all_more (SignatureStands a) book.signatures s.id body (record { entry = s; reads = reads; id = refl; texts = texts.0; bytes = bytes }) lawful.signatures;
          formats = holds_of_all _ (map.entries book.formats) (λ e here.
              let stands = holds_of (FormatStands book) (map.entries book.formats) e lawful.formats here in
              stands_still book (with_body book (signature s) body) e stands
              (named_still book (with_body book (signature s) body) stands.entry (λ q _ has. has_still book.signatures s.id body q has) (λ q _ has. has) stands.named));
          few_signatures = omega arith;
          few_fragments = omega arith;
          few_formats = lawful.few_formats;
        }

    -- and a format
    format_enters : (f : Format) (body : List ℕ) → format_in body ≡ Some f → AllByRecursion (λ b. b < 256) body
        → entry_refused a book (format f) ≡ None → Lawful a (with_body book (format f) body)
    format_enters f body reads bytes allowed =
        let taken = neither _ _ allowed in
        let missing = neither _ _ taken.1 in
        let full = neither _ _ missing.1 in
        let new : map.contains_key book.formats f.id ≡ false = not_refused _ _ taken.0 in
        let room : map.len book.formats < 48 = leb-false 48 (map.len book.formats) (not_refused _ _ full.0) in
        let len = len_more book.formats f.id body new in
        let next = with_body book (format f) body in
        let still : (g : Format) → missing_id book g ≡ None → missing_id next g ≡ None =
        λ g. named_still book next g (λ q _ has. has) (λ q _ has. has_still book.formats f.id body q has) in
        let named = still f (made_of_none _ _ missing.0) in
        record {
          signatures = lawful.signatures;
          formats = all_more (FormatStands next) book.formats f.id body (record { entry = f; reads = reads; id = refl; named = named; bytes = bytes })
              (holds_of_all _ (map.entries book.formats) (λ e here.
              let stands = holds_of (FormatStands book) (map.entries book.formats) e lawful.formats here in
              stands_still book next e stands (still stands.entry stands.named)));
          few_signatures = lawful.few_signatures;
          few_fragments = lawful.few_fragments;
          few_formats = omega arith;
        }

    -- an entry, as it is read from a record
    entry_enters : (bytes : List ℕ) → AllByRecursion (λ b. b < 256) bytes → (e : Entry) → entry_at a bytes ≡ Ok e
        → Lawful a (after (entry_refused a book e) book (with_body book e (drop 4 bytes)))
    entry_enters bytes all (signature s) read =
        after_keeps (Lawful a) (entry_refused a book (signature s)) book _ lawful (signature_enters s (drop 4 bytes) (signature_entered a bytes s read) (body_bytes bytes all))
    entry_enters bytes all (format f) read =
        after_keeps (Lawful a) (entry_refused a book (format f)) book _ lawful (format_enters f (drop 4 bytes) (format_entered a bytes f read) (body_bytes bytes all))

    -- what a record enters
    entered_lawful : (bytes : List ℕ) → AllByRecursion (λ b. b < 256) bytes → Lawful a (entered a book bytes)
    entered_lawful bytes all =
        elim (entry_at a bytes) as (λ (r : Result Entry ℕ). entry_at a bytes ≡ r
        → Lawful a (let outcome : Result Entry Fault = elim r [ Ok e ↦ Ok e | Err place ↦ Err (outside Field place) ] in
        elim outcome [ Err f ↦ book | Ok e ↦ after (entry_refused a book e) book (with_body book e (drop 4 bytes)) ])) [
          | Ok e ↦ λ read. entry_enters bytes all e read
          | Err place ↦ λ _. lawful
        ] refl

    -- a signature that no format names leaves a lawful book
    signature_leaves : (id : ℕ) → signature_kept book id ≡ None → Lawful a (record { signatures = map.remove book.signatures id; formats = book.formats })
    signature_leaves id allowed =
        let stood = neither _ _ allowed in
        let free = neither _ _ stood.1 in
        let value = some_value _ (not-false _ (not_refused _ _ stood.0)) in
        let unnamed = not_naming book (λ f. among_ids id f.signatures) (made_of_none _ _ (made_of_none _ _ free.0)) in
        let len = len_less book.signatures id in
        let sum = sum_removed signature_in (fragments_of a) book.signatures id value.0 value.1 in
        let next : Book = record { signatures = map.remove book.signatures id; formats = book.formats } in
        record {
          signatures = all_left (SignatureStands a) book.signatures id lawful.signatures;
          formats = holds_of_all _ (map.entries book.formats) (λ e here.
              let stands = holds_of (FormatStands book) (map.entries book.formats) e lawful.formats here in
              let none = unnamed stands.entry (standing book e stands here) in
              stands_still book next e stands
              (named_still book next stands.entry (λ q named has. has_left book.signatures id q (other_id id stands.entry.signatures q none named) has) (λ q _ has. has) stands.named));
          few_signatures = omega (arith, lawful.few_signatures);
          few_fragments = omega (arith, lawful.few_fragments);
          few_formats = lawful.few_formats;
        }

    -- and a format that none outranks
    format_leaves : (id : ℕ) → format_kept book id ≡ None → Lawful a (record { signatures = book.signatures; formats = map.remove book.formats id })
    format_leaves id allowed =
        let few : map.len (map.remove book.formats id) ≤ 48 = omega (arith, len_less book.formats id, lawful.few_formats) in
        let stood = neither _ _ allowed in
        let free = neither _ _ stood.1 in
        let unnamed = not_naming book (λ f. among_ids id f.outranked) (made_of_none _ _ (made_of_none _ _ free.0)) in
        let next : Book = record { signatures = book.signatures; formats = map.remove book.formats id } in
        record {
          signatures = lawful.signatures;
          formats = all_left (FormatStands next) book.formats id (holds_of_all _ (map.entries book.formats) (λ e here.
              let stands = holds_of (FormatStands book) (map.entries book.formats) e lawful.formats here in
              let none = unnamed stands.entry (standing book e stands here) in
              stands_still book next e stands
              (named_still book next stands.entry (λ q _ has. has) (λ q named has. has_left book.formats id q (other_id id stands.entry.outranked q none named) has) stands.named)));
          few_signatures = lawful.few_signatures;
          few_fragments = lawful.few_fragments;
          few_formats = few;
        }

  -- The empty book is lawful, and each call that changes a lawful book leaves a lawful one.
  pub books_stay_lawful : BooksStayLawful a
  books_stay_lawful = record {
    none = empty_lawful;
    entering = λ book bytes all lawful. entered_lawful book lawful bytes all;
    withdrawing_signature = λ book id lawful. after_keeps (Lawful a) (signature_kept book id) book _ lawful (signature_leaves book lawful id);
    withdrawing_format = λ book id lawful. after_keeps (Lawful a) (format_kept book id) book _ lawful (format_leaves book lawful id);
  }
