-- What each call answers and leaves behind, from the book and the arguments alone.
use Rattle.std.specs.Prelude.{ℕ, zero, suc, List, [], ◌∷◌, ◌++◌, length, drop, Some, None, Ok, Err, Option, Result}
use Rattle.std.specs.FinMap as map
use Rattle.std.specs.List.{flat_map, slice_get}
use Rattle.std.specs.Option.{option_and_then}
use Rattle.faults.specs.Faults.{outside}
use Rattle.faults.specs.declared.fault.Cause.TheVariants.{Field, Missing}
use Rattle.faults.specs.declared.fault.Fault.{Fault}
use Rattle.kinds.specs.Alphabet.{Alphabet}
use Rattle.patterns.specs.Codes.{codes_of}
use Rattle.patterns.specs.Sequences.{shown}
use Rattle.records.specs.Book.{Book, said_by, signature_at}
use Rattle.records.specs.Entries.{Sequence, Signature, Entry, signature, format, word}
use Rattle.records.specs.Reading.{entry_at}
use Rattle.records.specs.Refusals.{entry_refused, signature_kept, format_kept, reading_long, hits_short, buffer_short, first_of}
use Rattle.records.specs.Report.{Report, report}
use Rattle.records.specs.declared.report.Hit.{Hit}
use Rattle.records.specs.declared.report.Status.{Status}

-- the answer, unless there is a refusal
abbrev pub unless : {A : Type 0} → Option Fault → A → Result A Fault
unless (Some f) x = Err f
unless None x = Ok x

-- what stands after a call: something new, unless it is refused
abbrev pub after : {A : Type 0} → Option Fault → A → A → A
after (Some f) old new = old
after None old new = new

-- output at the front of a list, and the rest as it was
abbrev pub over : {X : Type 0} → List X → List X → List X
over output old = output ++ drop (length output) old

-- Entering.

-- the entry of a record, or the refusal of the first field at fault
abbrev pub entry_read : {E : Type 0} → Alphabet E → List ℕ → Result Entry Fault
entry_read a bytes = elim (entry_at a bytes) [ Ok e ↦ Ok e | Err place ↦ Err (outside Field place) ]

abbrev pub id_of : Entry → ℕ
id_of (signature s) = s.id
id_of (format f) = f.id

-- a book with one body more
abbrev pub with_body : Book → Entry → List ℕ → Book
with_body book (signature s) body = record { signatures = map.insert book.signatures s.id body; formats = book.formats }
with_body book (format f) body = record { signatures = book.signatures; formats = map.insert book.formats f.id body }

-- the id that a record enters, or its refusal
abbrev pub entering : {E : Type 0} → Alphabet E → Book → List ℕ → Result ℕ Fault
entering a book bytes =
    elim (entry_read a bytes) [ Err f ↦ Err f | Ok e ↦ unless (entry_refused a book e) (id_of e) ]

-- what stands then: the body is what follows the first four bytes of the record
abbrev pub entered : {E : Type 0} → Alphabet E → Book → List ℕ → Book
entered a book bytes =
    elim (entry_read a bytes) [ Err f ↦ book | Ok e ↦ after (entry_refused a book e) book (with_body book e (drop 4 bytes)) ]

-- Withdrawing.

abbrev pub withdrawing_signature : Book → ℕ → Result ℕ Fault
withdrawing_signature book id = unless (signature_kept book id) id

abbrev pub withdrawn_signature : Book → ℕ → Book
withdrawn_signature book id =
    after (signature_kept book id) book (record { signatures = map.remove book.signatures id; formats = book.formats })

abbrev pub withdrawing_format : Book → ℕ → Result ℕ Fault
withdrawing_format book id = unless (format_kept book id) id

abbrev pub withdrawn_format : Book → ℕ → Book
withdrawn_format book id =
    after (format_kept book id) book (record { signatures = book.signatures; formats = map.remove book.formats id })

-- Showing.

-- one of a list, by its number from 1 on
abbrev pub numbered : {X : Type 0} → List X → ℕ → Option X
numbered xs zero = None
numbered xs (suc k) = slice_get xs k

-- a sequence of a standing signature
abbrev pub sequence_at : Book → ℕ → ℕ → Option Sequence
sequence_at book id number = option_and_then (λ (s : Signature). numbered s.sequences number) (signature_at book id)

-- the four numbers of a fragment of such a sequence
abbrev pub numbers_at : {E : Type 0} → Alphabet E → Book → ℕ → ℕ → ℕ → ℕ → Option (ℕ × ℕ × ℕ × ℕ)
numbers_at a book id number fragment index =
    option_and_then (λ s. shown s fragment index) (option_and_then (said_by a) (sequence_at book id number))

abbrev pub showing : {E : Type 0} → Alphabet E → Book → ℕ → ℕ → ℕ → ℕ → Result (ℕ × ℕ × ℕ × ℕ) Fault
showing a book id number fragment index =
    elim (numbers_at a book id number fragment index) [ Some n ↦ Ok n | None ↦ Err (outside Missing id) ]

-- Identifying.

-- why the question is refused, by the number of elements, the room in the list of hits and the report
abbrev pub question_refused : ℕ → ℕ → Report → Option Fault
question_refused n room r = first_of (reading_long n ∷ hits_short room (length r.hits) ∷ [])

module _ {E : Type 0} (a : Alphabet E) (book : Book) (elements : List E) (label : List ℕ) where
  -- the report on a reading
  abbrev pub report_on : Report
  report_on = report a book (codes_of a elements) label

  -- the status and the number of hits
  abbrev pub identifying : ℕ → Result (Status × ℕ) Fault
  identifying room =
      unless (question_refused (length elements) room report_on) (report_on.status, length report_on.hits)

  -- the list of hits afterwards
  abbrev pub identified : List Hit → List Hit
  identified hits = after (question_refused (length elements) (length hits) report_on) hits (over report_on.hits hits)

-- Writing.

-- a record of a kind with a body
abbrev pub record_with : ℕ → List ℕ → List ℕ
record_with kind body = word (length body) ++ (word kind ++ body)

-- all signatures, then all formats, by rising id
abbrev pub written : {E : Type 0} → Alphabet E → Book → List ℕ
written a book =
    flat_map (record_with a.signature_record) (map.values book.signatures) ++ flat_map (record_with a.format_record) (map.values book.formats)

-- the number of bytes
abbrev pub writing : {E : Type 0} → Alphabet E → Book → ℕ → Result ℕ Fault
writing a book room = unless (buffer_short room (length (written a book))) (length (written a book))

-- the buffer afterwards
abbrev pub wrote : {E : Type 0} → Alphabet E → Book → List ℕ → List ℕ
wrote a book buffer = after (buffer_short (length buffer) (length (written a book))) buffer (over (written a book) buffer)
