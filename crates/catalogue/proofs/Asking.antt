-- The questions to a catalogue: what its fields answer is what its book says.
use Rattle.std.proofs.Common.{◌≡◌, ◌==◌, ◌+◌, ◌<◌, ◌≤◌, ℕ, List, [], ◌∷◌, ◌++◌, map, length, Some, None, Ok, Err, Option, Result, ok_or, sym, refl, ap, ◌∙◌, arith}
use Rattle.std.proofs.lemmas.Bool.{lt-ltb, le-ltb}
use Rattle.std.proofs.lemmas.List.{length-append}
use Rattle.std.proofs.lemmas.Option.{same_Some, slice_get-map}
use Rattle.std.proofs.lemmas.Simd.{map-map}
use Rattle.std.specs.FinMap as finite
use Rattle.std.specs.List.{position, filter, slice_get}
use Rattle.std.specs.Option.{option_and_then, option_map}
use Rattle.faults.specs.Faults.{outside}
use Rattle.faults.specs.declared.fault.Cause.TheVariants.{Missing, LongReading, ShortBuffer}
use Rattle.faults.specs.declared.fault.Fault.{Fault}
use Rattle.kinds.specs.Alphabet.{Alphabet}
use Rattle.patterns.specs.Sequences.{shown}
use Rattle.engine.specs.declared.fragment.Fragment.{Fragment}
use Rattle.records.specs.Book.{signature_in, said_by}
use Rattle.records.specs.Calls.{numbered, showing, question_refused, over, written}
use Rattle.records.specs.Entries.{Signature}
use Rattle.records.specs.Refusals.{first_of, refused_if, hits_short, buffer_short}
use Rattle.records.specs.Report.{Report, hitting, report, report_by}
use Rattle.records.proofs.Books.{none_from, get_made}
use Rattle.records.proofs.Members.{holds_at}
use Rattle.catalogue.specs.Hitting.{numbers_in, hitting_of, hitting_signature, standing_hits}
use Rattle.catalogue.specs.Reporting.{bare, hitting_in}
use Rattle.catalogue.specs.Standing.{signature_pair, format_pair, formats_in, book_in, Rise, SignatureHeld, SignaturesHold, Holds}
use Rattle.catalogue.specs.Writing.{records_of, over_from}
use Rattle.catalogue.specs.declared.hitting.Hitting.{Hitting}
use Rattle.catalogue.specs.declared.formats.StandingFormat.{StandingFormat}
use Rattle.catalogue.specs.declared.signatures.StandingSignature.{StandingSignature}
use Rattle.catalogue.proofs.Composing.{absent, found_entry, or_nothing}
use Rattle.catalogue.proofs.Held.{len-bodies, formats_of-book_of}
use Rattle.catalogue.proofs.Reported.{hitting_reported, numbers_held}
use Rattle.catalogue.proofs.Reporting.{bared, reported}
use Rattle.catalogue.proofs.Writing.{written-book_of, written_behind}

-- Showing.

module _ {E : Type 0} (a : Alphabet E) (number fragment index : ℕ) where
  -- the numbers of a fragment of a body's signature, if there is one
  abbrev numbers_by : Option (List ℕ) → Option (ℕ × ℕ × ℕ × ℕ)
  numbers_by body =
      option_and_then (λ s. shown s fragment index) (option_and_then (said_by a) (option_and_then (λ (s : Signature). numbered s.sequences number) (option_and_then signature_in body)))

  -- the answer by what was found
  abbrev answered : ℕ → Option (ℕ × ℕ × ℕ × ℕ) → Result (ℕ × ℕ × ℕ × ℕ) Fault
  answered id found = elim found [ Some n ↦ Ok n | None ↦ Err (outside Missing id) ]

  -- it is that of a default
  or_missing : (id : ℕ) (found : Option (ℕ × ℕ × ℕ × ℕ)) → answered id found ≡ ok_or found (outside Missing id)
  or_missing id None = refl
  or_missing id (Some n) = refl

  module _ {K : Type 0} (signatures : List (StandingSignature K)) (formats : List StandingFormat) (table : List (Option Fragment)) (holds : SignaturesHold a signatures table) (id : ℕ) where
    -- nothing is shown of a signature that does not stand
    pub shown_nowhere : position (λ s. (signature_pair s).0 == id) signatures ≡ None → showing a (book_in signatures formats) id number fragment index ≡ Err (outside Missing id)
    shown_nowhere none =
        let book = book_in signatures formats in
        ap (λ o. answered id (numbers_by o)) (none_from (finite.get book.signatures id) (absent signature_pair signatures holds.rise id none))

    -- of one that stands at a place, what its sequences in the table say
    pub shown_at : (i : ℕ) (e : StandingSignature K) → position (λ s. (signature_pair s).0 == id) signatures ≡ Some i → slice_get signatures i ≡ Some e
        → showing a (book_in signatures formats) id number fragment index ≡ ok_or (numbers_in e.sequences.items number fragment index) (outside Missing id)
    shown_at i e found here =
        let entry = found_entry signature_pair signatures id i found in
        let pair : Some (signature_pair e) ≡ Some (id, entry.0) = sym (slice_get-map signature_pair signatures i ∙ ap (option_map signature_pair) here) ∙ entry.2 in
        let body : e.body.items ≡ entry.0 = ap (λ (p : ℕ × List ℕ). p.1) (same_Some (signature_pair e) (id, entry.0) pair) in
        let stands = get_made (map signature_pair signatures) holds.rise id entry.0 i entry.2 in
        let held = holds_at (SignatureHeld a table) signatures i e holds.held here in
        let reads : option_and_then signature_in (Some entry.0) ≡ Some held.entry = ap signature_in (sym body) ∙ held.reads in
        ap (λ o. answered id (numbers_by o)) stands
        ∙ ap (λ o. answered id (option_and_then (λ s. shown s fragment index) (option_and_then (said_by a) (option_and_then (λ (s : Signature). numbered s.sequences number) o)))) reads
        ∙ ap (λ o. answered id (option_and_then (λ s. shown s fragment index) o)) (sym (numbers_held a table e held number))
        ∙ or_missing id (numbers_in e.sequences.items number fragment index)

-- Identifying.

-- the counts of a catalogue
pub few_signatures : {E K : Type 0} (a : Alphabet E) (signatures : List (StandingSignature K)) (formats : List StandingFormat) (table : List (Option Fragment))
    → Holds a signatures formats table → length signatures ≤ 24
few_signatures a signatures formats table holds = omega (arith, len-bodies signature_pair signatures holds.signatures_hold.rise, holds.lawful.few_signatures)

pub few_formats : {E K : Type 0} (a : Alphabet E) (signatures : List (StandingSignature K)) (formats : List StandingFormat) (table : List (Option Fragment))
    → Holds a signatures formats table → length formats ≤ 48
few_formats a signatures formats table holds = omega (arith, len-bodies format_pair formats holds.formats_hold.rise, holds.lawful.few_formats)

-- a question on a reading that is not too long is refused only where the list is too short
pub question_allowed : (n room : ℕ) (r : Report) → n ≤ 16777216 → question_refused n room r ≡ hits_short room (length r.hits)
question_allowed n room r short =
    ap (λ b. first_of (refused_if b (outside LongReading 0) ∷ hits_short room (length r.hits) ∷ [])) (le-ltb 16777216 n short) ∙ or_nothing (hits_short room (length r.hits))

-- what was found, of the signatures that hit and the formats that stand, is the report of their book
pub report_found : {E K : Type 0} (a : Alphabet E) (signatures : List (StandingSignature K)) (formats : List StandingFormat) (table : List (Option Fragment)) (codes label : List ℕ) (hits : List Hitting)
    → Holds a signatures formats table → hits ≡ map hitting_of (filter (standing_hits codes) signatures)
    → report_by (hitting_in hits) (formats_in formats) label ≡ report a (book_in signatures formats) codes label
report_found a signatures formats table codes label hits holds are =
    let book = book_in signatures formats in
    let same = are ∙ hitting_reported a signatures formats table codes holds.signatures_hold in
    let bare_hits : hitting_in hits ≡ map bared (hitting a book codes) = ap hitting_in same ∙ map-map (λ (h : Hitting). bare h.id h.specific) hitting_signature (hitting a book codes) in
    reported a book codes label hits formats bare_hits (sym (formats_of-book_of (map signature_pair signatures) formats holds.formats_hold))

-- Writing.

module _ {E K : Type 0} (a : Alphabet E) (signatures : List (StandingSignature K)) (formats : List StandingFormat) (signatures_rise : Rise (map signature_pair signatures)) (formats_rise : Rise (map format_pair formats)) where
  -- all records of what stands, the signatures first
  records_written : written a (book_in signatures formats) ≡ records_of a.signature_record (map signature_pair signatures) ++ records_of a.format_record (map format_pair formats)
  records_written = written-book_of a (map signature_pair signatures) (map format_pair formats) signatures_rise formats_rise

  module _ (ss : List (StandingSignature K)) (fs : List StandingFormat) (ss_are : ss ≡ signatures) (fs_are : fs ≡ formats) where
    -- how many bytes they are
    pub length-written : (n m : ℕ) → ((kind : ℕ) → n ≡ length (records_of kind (map signature_pair ss))) → ((kind : ℕ) → m ≡ length (records_of kind (map format_pair fs)))
        → n + m ≡ length (written a (book_in signatures formats))
    length-written n m n_is m_is =
        let first = n_is a.signature_record ∙ ap (λ l. length (records_of a.signature_record (map signature_pair l))) ss_are in
        let second = m_is a.format_record ∙ ap (λ l. length (records_of a.format_record (map format_pair l))) fs_are in
        omega (arith, first, second, ap length records_written, length-append (records_of a.signature_record (map signature_pair signatures)) (records_of a.format_record (map format_pair formats)))

    -- the buffer with the records of the signatures and, behind them, those of the formats
    pub written_over : (signature_kind format_kind behind : ℕ) (old between new : List ℕ) → signature_kind ≡ a.signature_record → format_kind ≡ a.format_record
        → length (written a (book_in signatures formats)) ≤ length old → behind ≡ 0 + length (records_of signature_kind (map signature_pair ss))
        → between ≡ over_from 0 (records_of signature_kind (map signature_pair ss)) old → new ≡ over_from behind (records_of format_kind (map format_pair fs)) between
        → new ≡ over (written a (book_in signatures formats)) old
    written_over signature_kind format_kind behind old between new first_kind second_kind room place first_written second_written =
        let first = records_of signature_kind (map signature_pair ss) in
        let second = records_of format_kind (map format_pair fs) in
        let first_are = ap (λ k. records_of k (map signature_pair ss)) first_kind ∙ ap (λ l. records_of a.signature_record (map signature_pair l)) ss_are in
        let second_are = ap (λ k. records_of k (map format_pair fs)) second_kind ∙ ap (λ l. records_of a.format_record (map format_pair l)) fs_are in
        let all : first ++ second ≡ written a (book_in signatures formats) = ap (λ l. l ++ second) first_are ∙ ap (λ l. records_of a.signature_record (map signature_pair signatures) ++ l) second_are ∙ sym records_written in
        let within : 0 + length first ≤ length old = omega (arith, ap length all, length-append first second) in
        written_behind 0 behind first second old between new within place first_written second_written ∙ ap (λ l. over l old) all

-- a buffer that is too short is refused
pub short_refused : (room n : ℕ) → room < n → buffer_short room n ≡ Some (outside ShortBuffer n)
short_refused room n short = ap (λ b. refused_if b (outside ShortBuffer n)) (lt-ltb room n short)

-- and no other
pub long_allowed : (room n : ℕ) → n ≤ room → buffer_short room n ≡ None
long_allowed room n long = ap (λ b. refused_if b (outside ShortBuffer n)) (le-ltb room n long)
