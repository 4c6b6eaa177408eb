-- What the code reads from records, in the words of `Reading`.
use Rattle.std.specs.Prelude.{◌≡◌, ℕ, ◌≤◌, Bool, true, List, map, length, Some, Ok, Err, Result, ◌==◌}
use Rattle.std.specs.List.{list_any}
use Rattle.faults.specs.Faults.{outside}
use Rattle.faults.specs.declared.fault.Cause.TheVariants.{Field}
use Rattle.faults.specs.declared.fault.Fault.{Fault}
use Rattle.records.specs.Book as book
use Rattle.records.specs.Entries as entry
use Rattle.records.specs.Entries.{printable, label_character}
use Rattle.records.specs.Reading as reading
use Rattle.records.specs.declared.format.Format.{Format}
use Rattle.records.specs.declared.format.Label.{Label}
use Rattle.records.specs.declared.record.Entry.{Entry}
use Rattle.records.specs.declared.record.Entry.TheVariants as entered
use Rattle.records.specs.declared.record.Record.{Record}
use Rattle.records.specs.declared.rest.Characters.{Characters}
use Rattle.records.specs.declared.rest.Characters.TheVariants.{Any, Printable, LowercaseOrDigit}
use Rattle.records.specs.declared.rest.Rest.{Rest}
use Rattle.records.specs.declared.signature.SequenceText.{SequenceText}
use Rattle.records.specs.declared.signature.Signature.{Signature}

-- which bytes a text may have
abbrev pub characters_in : Characters → ℕ → Bool
characters_in Any c = true
characters_in Printable c = printable c
characters_in LowercaseOrDigit c = label_character c

-- the bytes that are left
abbrev pub rest_in : Rest → reading.Rest
rest_in r = record { place = r.place; bytes = r.bytes.now }

-- What the code answers, seen by a view, is what is read; or the fault is that of a field at the place that is at fault.
abbrev pub Gives : {X Y : Type 0} → (X → Y) → Result X Fault → Result Y ℕ → Type 0
Gives view (Ok x) read = read ≡ Ok (view x)
Gives view (Err f) read = (read ≡ Err f.place) × (f ≡ outside Field f.place)

-- the same of a value and the bytes that are left behind it
abbrev pub GivesRest : {X Y : Type 0} → (X → Y) → Result (X × Rest) Fault → reading.Read Y → Type 0
GivesRest view result read = Gives (λ x. (view x.0, rest_in x.1)) result read

-- a sequence
abbrev pub sequence_in : SequenceText → entry.Sequence
sequence_in s = record { reference = s.reference; text = s.text.characters.now }

-- sequences
abbrev pub sequences_in : List SequenceText → List entry.Sequence
sequences_in ss = map sequence_in ss

-- a signature
abbrev pub signature_in : Signature → entry.Signature
signature_in s = record { id = s.id; specific = s.specific; sequences = sequences_in s.sequences.items }

-- a label
abbrev pub label_in : Label → List ℕ
label_in l = l.characters.items

-- labels
abbrev pub labels_in : List Label → List (List ℕ)
labels_in ls = map label_in ls

-- a format
abbrev pub format_in : Format → entry.Format
format_in f =
    record { id = f.id; name = f.name.items; signatures = f.signatures.items; outranked = f.outranked.items; labels = labels_in f.labels.items }

-- the kind of a record, and its body from its place on
abbrev pub kind_and_body : Record → ℕ × reading.Rest
kind_and_body r = (r.kind, record { place = 4; bytes = r.body.now })

-- one of the kinds that are wanted
abbrev pub wanted_in : List ℕ → ℕ → Bool
wanted_in kinds kind = list_any (λ k. k == kind) kinds

-- an entry
abbrev pub entry_in : Entry → entry.Entry
entry_in (entered.Signature s) = entry.signature (signature_in s)
entry_in (entered.Format f) = entry.format (format_in f)

-- what reading answers, beside a body
abbrev pub answer_in : {B : Type 0} → Result (Entry × B) Fault → Result entry.Entry Fault
answer_in (Ok x) = Ok (entry_in x.0)
answer_in (Err f) = Err f

-- a body reads as an entry, and is so long at most
abbrev pub IsBody : Entry → List ℕ → Type 0
IsBody (entered.Signature s) body = (book.signature_in body ≡ Some (signature_in s)) × (length body ≤ 828)
IsBody (entered.Format f) body = (book.format_in body ≡ Some (format_in f)) × (length body ≤ 114)
