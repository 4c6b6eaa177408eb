-- What the fields of a catalogue owe its book.
use Rattle.std.specs.Prelude.{◌≡◌, ℕ, ◌+◌, List, [], map, length, Some, None, Option, ⊤}
use Rattle.std.proofs.Common.{T}
use Rattle.std.specs.FinMap as map
use Rattle.std.specs.FinMap.{is_sorted, FinMap}
use Rattle.std.specs.List.{flat_map, AllByRecursion}
use Rattle.std.specs.Ordering.{nat_cmp}
use Rattle.kinds.specs.Alphabet.{Alphabet}
use Rattle.engine.specs.Tables.{Slotted, StandsIn, Distinct, free_slots}
use Rattle.engine.specs.declared.fragment.Fragment.{Fragment}
use Rattle.patterns.specs.Sequences.{Said}
use Rattle.records.specs.Book as book
use Rattle.records.specs.Book.{Book, said_by}
use Rattle.records.specs.Entries.{Signature, Format}
use Rattle.records.specs.Lawful.{Lawful}
use Rattle.records.specs.Taken as taken
use Rattle.catalogue.specs.declared.formats.StandingFormat.{StandingFormat}
use Rattle.catalogue.specs.declared.signatures.StandingSignature.{StandingSignature}

-- the id of a signature and its body
abbrev pub signature_pair : {K : Type 0} → StandingSignature K → ℕ × List ℕ
signature_pair e = (e.id, e.body.items)

-- the id of a format and its body
abbrev pub format_pair : StandingFormat → ℕ × List ℕ
format_pair e = (e.format.id, e.body.items)

-- the bodies of entries, by their ids, which rise
abbrev pub bodies : List (ℕ × List ℕ) → FinMap nat_cmp (List ℕ)
bodies pairs = map.from_sorted pairs

-- the ids of entries rise
abbrev pub Rise : List (ℕ × List ℕ) → Type 0
Rise pairs = T (is_sorted nat_cmp pairs)

-- the book of signatures and formats, by their ids and bodies
abbrev pub book_of : List (ℕ × List ℕ) → List (ℕ × List ℕ) → Book
book_of signatures formats = record { signatures = bodies signatures; formats = bodies formats }

-- the book of standing signatures and formats
abbrev pub book_in : {K : Type 0} → List (StandingSignature K) → List StandingFormat → Book
book_in signatures formats = book_of (map signature_pair signatures) (map format_pair formats)

-- standing formats, as entries
abbrev pub formats_in : List StandingFormat → List Format
formats_in formats = map (λ (e : StandingFormat). taken.format_in e.format) formats

-- the slots of a sequence's fragments, if there is one
abbrev pub slots_in : Option Slotted → List ℕ
slots_in None = []
slots_in (Some v) = v.slots

-- the slots of a signature's fragments
abbrev pub slots_of : {K : Type 0} → StandingSignature K → List ℕ
slots_of e = flat_map slots_in e.sequences.items

-- what a sequence says, if there is one
abbrev pub said_in : Option Slotted → Option Said
said_in None = None
said_in (Some v) = Some v.said

-- the slots in use
abbrev pub used : {K : Type 0} → List (StandingSignature K) → List ℕ
used signatures = flat_map slots_of signatures

-- The slots in use are distinct, and all others are free.
pub record Accounted (table : List (Option Fragment)) (slots : List ℕ) : Type 0 where
  pub distinct : Distinct slots
  pub counted : length slots + length (free_slots table) ≡ 96

-- a sequence, if there is one, stands in a table
abbrev pub StandsInIf : List (Option Fragment) → Option Slotted → Type 0
StandsInIf table None = ⊤
StandsInIf table (Some v) = StandsIn table v

-- A standing signature holds that of its body, and its sequences as they are compiled, with their fragments in the table.
pub record SignatureHeld {E K : Type 0} (a : Alphabet E) (table : List (Option Fragment)) (e : StandingSignature K) : Type 0 where
  pub entry : Signature
  pub reads : book.signature_in e.body.items ≡ Some entry
  pub id : entry.id ≡ e.id
  pub specific : entry.specific ≡ e.specific
  pub said : map (said_by a) entry.sequences ≡ map said_in e.sequences.items
  pub stands : AllByRecursion (StandsInIf table) e.sequences.items

-- a standing format holds that of its body
abbrev pub FormatHeld : StandingFormat → Type 0
FormatHeld e = book.format_in e.body.items ≡ Some (taken.format_in e.format)

-- What signatures and a table hold together: the ids rise, each holds what its body says, and the slots are accounted for.
pub record SignaturesHold {E K : Type 0} (a : Alphabet E) (signatures : List (StandingSignature K)) (table : List (Option Fragment)) : Type 0 where
  pub rise : Rise (map signature_pair signatures)
  pub held : AllByRecursion (SignatureHeld a table) signatures
  pub accounted : Accounted table (used signatures)

-- The same of formats.
pub record FormatsHold (formats : List StandingFormat) : Type 0 where
  pub rise : Rise (map format_pair formats)
  pub held : AllByRecursion FormatHeld formats

-- What the fields of a catalogue hold together: their book is lawful.
pub record Holds {E K : Type 0} (a : Alphabet E) (signatures : List (StandingSignature K)) (formats : List StandingFormat) (table : List (Option Fragment)) : Type 0 where
  pub signatures_hold : SignaturesHold a signatures table
  pub formats_hold : FormatsHold formats
  pub lawful : Lawful a (book_in signatures formats)
