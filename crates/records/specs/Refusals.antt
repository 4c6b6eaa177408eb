-- Why a call is refused: the causes in order, of which the first that holds counts.
use Rattle.std.specs.Prelude.{ℕ, suc, ◌+◌, Bool, if◌then◌else◌, not, List, [], ◌∷◌, find, Some, None, Ok, Err, Option, nat_le, nat_lt}
use Rattle.std.specs.FinMap as map
use Rattle.std.specs.Option.{option_map, option_or}
use Rattle.faults.specs.Faults.{outside}
use Rattle.faults.specs.declared.fault.Cause.TheVariants.{Taken, Missing, Named, Full, LongReading, ShortHits, ShortBuffer}
use Rattle.faults.specs.declared.fault.Fault.{Fault}
use Rattle.kinds.specs.Alphabet.{Alphabet}
use Rattle.patterns.specs.Sequences.{compiled}
use Rattle.records.specs.Book.{Book, formats_of, fragments_of, fragments_standing}
use Rattle.records.specs.Entries.{Sequence, Signature, Format, Entry, signature, format}
use Rattle.records.specs.Report.{among_ids}

-- the first refusal that holds
abbrev pub first_of : List (Option Fault) → Option Fault
first_of [] = None
first_of (f ∷ fs) = option_or f (first_of fs)

-- a refusal, if a test holds
abbrev pub refused_if : Bool → Fault → Option Fault
refused_if b f = if b then Some f else None

-- The counts, over what stands.

abbrev pub most_signatures : ℕ
most_signatures = 24

abbrev pub most_fragments : ℕ
most_fragments = 96

abbrev pub most_formats : ℕ
most_formats = 48

-- Entering.

-- the first sequence, from a number on, whose text is refused
abbrev pub refused_from : {E : Type 0} → Alphabet E → ℕ → List Sequence → Option Fault
refused_from a number [] = None
refused_from a number (q ∷ qs) =
    elim (compiled a number q.reference q.text) [ Err f ↦ Some f | Ok s ↦ refused_from a (suc number) qs ]

-- the text of a sequence is refused
abbrev pub text_refused : {E : Type 0} → Alphabet E → Signature → Option Fault
text_refused a s = refused_from a 1 s.sequences

-- the signature's id stands already
abbrev pub signature_taken : Book → Signature → Option Fault
signature_taken book s = refused_if (map.contains_key book.signatures s.id) (outside Taken s.id)

-- there is no room for a signature more
abbrev pub signatures_full : Book → Option Fault
signatures_full book = refused_if (nat_le most_signatures (map.len book.signatures)) (outside Full 1)

-- there is no room for its fragments
abbrev pub fragments_full : {E : Type 0} → Alphabet E → Book → Signature → Option Fault
fragments_full a book s =
    refused_if (nat_lt most_fragments (fragments_standing a book + fragments_of a s)) (outside Full 2)

-- the format's id stands already
abbrev pub format_taken : Book → Format → Option Fault
format_taken book f = refused_if (map.contains_key book.formats f.id) (outside Taken f.id)

-- the first id that a format names and that does not stand: of a signature, then of a format that it outranks
abbrev pub missing_id : Book → Format → Option ℕ
missing_id book f =
    option_or (find (λ id. not (map.contains_key book.signatures id)) f.signatures) (find (λ id. not (map.contains_key book.formats id)) f.outranked)

-- what the format names does not stand
abbrev pub names_missing : Book → Format → Option Fault
names_missing book f = option_map (outside Missing) (missing_id book f)

-- there is no room for a format more
abbrev pub formats_full : Book → Option Fault
formats_full book = refused_if (nat_le most_formats (map.len book.formats)) (outside Full 3)

-- why a format is refused
abbrev pub format_refused : Book → Format → Option Fault
format_refused book f = first_of (format_taken book f ∷ names_missing book f ∷ formats_full book ∷ [])

-- why an entry is refused
abbrev pub entry_refused : {E : Type 0} → Alphabet E → Book → Entry → Option Fault
entry_refused a book (signature s) =
    first_of (signature_taken book s ∷ text_refused a s ∷ signatures_full book ∷ fragments_full a book s ∷ [])
entry_refused a book (format f) = format_refused book f

-- Withdrawing.

-- the smallest id of the standing formats that pass a test
abbrev pub smallest_id : (Format → Bool) → Book → Option ℕ
smallest_id p book = option_map (λ (f : Format). f.id) (find p (formats_of book))

-- a format still names the signature
abbrev pub signature_named : Book → ℕ → Option Fault
signature_named book id = option_map (outside Named) (smallest_id (λ f. among_ids id f.signatures) book)

-- a format still outranks the format
abbrev pub format_named : Book → ℕ → Option Fault
format_named book id = option_map (outside Named) (smallest_id (λ f. among_ids id f.outranked) book)

-- the signature does not stand
abbrev pub signature_missing : Book → ℕ → Option Fault
signature_missing book id = refused_if (not (map.contains_key book.signatures id)) (outside Missing id)

-- the format does not stand
abbrev pub format_missing : Book → ℕ → Option Fault
format_missing book id = refused_if (not (map.contains_key book.formats id)) (outside Missing id)

-- why the withdrawal of a signature is refused
abbrev pub signature_kept : Book → ℕ → Option Fault
signature_kept book id = first_of (signature_missing book id ∷ signature_named book id ∷ [])

-- why the withdrawal of a format is refused
abbrev pub format_kept : Book → ℕ → Option Fault
format_kept book id = first_of (format_missing book id ∷ format_named book id ∷ [])

-- Questions.

-- a reading of so many elements is too long
abbrev pub reading_long : ℕ → Option Fault
reading_long n = refused_if (nat_lt 16777216 n) (outside LongReading 0)

-- a list of hits is too short for so many
abbrev pub hits_short : ℕ → ℕ → Option Fault
hits_short room n = refused_if (nat_lt room n) (outside ShortHits n)

-- a buffer is too short for so many bytes
abbrev pub buffer_short : ℕ → ℕ → Option Fault
buffer_short room n = refused_if (nat_lt room n) (outside ShortBuffer n)
