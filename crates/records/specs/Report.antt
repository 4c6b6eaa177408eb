-- The report: which signatures and formats hit, and what is listed. Each rule is one definition.
use Rattle.std.specs.Prelude.{ℕ, ◌+◌, Bool, false, if◌then◌else◌, not, ◌&&◌, List, [], map, length, filter, Some, None, ◌==◌}
use Rattle.std.specs.List.{list_all, list_any}
use Rattle.kinds.specs.Alphabet.{Alphabet, within}
use Rattle.patterns.specs.Patterns.{same}
use Rattle.patterns.specs.Sequences.{hits_in}
use Rattle.records.specs.Book.{Book, said_by, signatures_of, formats_of}
use Rattle.records.specs.Entries.{Sequence, Signature, Format}
use Rattle.records.specs.declared.report.Hit.{Hit}
use Rattle.records.specs.declared.report.HitStatus.TheVariants as hit
use Rattle.records.specs.declared.report.Status.{Status}
use Rattle.records.specs.declared.report.Status.TheVariants as status

-- Labels.

-- a label's character: A-Z is read as a-z
abbrev pub folded : ℕ → ℕ
folded c = if within 0x41 0x5A c then c + 32 else c

-- the given label equals one of a format's
abbrev pub equals_label : List ℕ → List ℕ → Bool
equals_label given label = same (map folded given) label

-- some label of a format equals the given one
abbrev pub labelled : List ℕ → Format → Bool
labelled given f = list_any (equals_label given) f.labels

-- a format has labels, and none equals the given one
abbrev pub warned : List ℕ → Format → Bool
warned given f = not (length f.labels == 0) && not (labelled given f)

-- Ids.

-- an id is among some ids
abbrev pub among_ids : ℕ → List ℕ → Bool
among_ids id ids = list_any (λ n. n == id) ids

-- a format names a signature
abbrev pub names : Format → Signature → Bool
names f s = among_ids s.id f.signatures

-- a format outranks another
abbrev pub outranks : Format → Format → Bool
outranks f g = among_ids g.id f.outranked

-- A report, by what is found in a reading's codes under a label.
pub record Report : Type 0 where
  pub status : Status
  pub hits : List Hit

-- The rules, by the signatures that hit and the formats that stand.
module _ (hitting : List Signature) where
  -- a format hits when one of its signatures does
  abbrev pub hit_by : Format → Bool
  hit_by f = list_any (names f) hitting

  -- it is specific if one that hits is specific
  abbrev pub specific_by : Format → Bool
  specific_by f = list_any (λ (s : Signature). names f s && s.specific) hitting

  -- the formats that hit
  abbrev pub those_hit_by : List Format → List Format
  those_hit_by formats = filter hit_by formats

  -- a format is struck when one that hits outranks it
  abbrev pub struck_by : List Format → Format → Bool
  struck_by formats g = list_any (λ f. outranks f g) (those_hit_by formats)

  -- a positive report lists the formats that hit and are not struck
  abbrev pub unstruck_by : List Format → List Format
  unstruck_by formats = filter (λ f. not (struck_by formats f)) (those_hit_by formats)

  -- a format that is listed so
  abbrev pub hit_of_by : List ℕ → Format → Hit
  hit_of_by label f =
      record { id = f.id; status = if specific_by f then hit.Specific else hit.Generic; mismatch = warned label f }

-- where no format hits, those that have an equal label are tentative
abbrev pub tentative_among : List Format → List ℕ → List Format
tentative_among formats label = filter (labelled label) formats

-- a format that is listed so
abbrev pub tentative_of : Format → Hit
tentative_of f = record { id = f.id; status = hit.Tentative; mismatch = false }

-- the report: positive if a format hits, tentative if some are, else negative
abbrev pub report_by : List Signature → List Format → List ℕ → Report
report_by hitting formats label =
    if not (length (those_hit_by hitting formats) == 0) then record { status = status.Positive; hits = map (hit_of_by hitting label) (unstruck_by hitting formats) }
    else if not (length (tentative_among formats label) == 0) then record { status = status.Tentative; hits = map tentative_of (tentative_among formats label) }
    else record { status = status.Negative; hits = [] }

-- The same of what stands in a book.

-- the standing formats that have an equal label
abbrev pub tentative : Book → List ℕ → List Format
tentative book label = tentative_among (formats_of book) label

module _ {E : Type 0} (a : Alphabet E) (book : Book) (codes : List ℕ) where
  -- a sequence hits as it is compiled
  abbrev pub sequence_hits : Sequence → Bool
  sequence_hits q = elim (said_by a q) [ Some s ↦ hits_in s codes | None ↦ false ]

  -- a signature hits when all its sequences do
  abbrev pub signature_hits : Signature → Bool
  signature_hits s = list_all sequence_hits s.sequences

  -- the standing signatures that hit
  abbrev pub hitting : List Signature
  hitting = filter signature_hits (signatures_of book)

  -- a format hits
  abbrev pub format_hits : Format → Bool
  format_hits f = hit_by hitting f

  -- it is specific
  abbrev pub specific : Format → Bool
  specific f = specific_by hitting f

  -- the standing formats that hit
  abbrev pub formats_hitting : List Format
  formats_hitting = those_hit_by hitting (formats_of book)

  -- a format is struck
  abbrev pub struck : Format → Bool
  struck g = struck_by hitting (formats_of book) g

  -- the standing formats that a positive report lists
  abbrev pub unstruck : List Format
  unstruck = unstruck_by hitting (formats_of book)

  -- how a positive report lists a format
  abbrev pub hit_of : List ℕ → Format → Hit
  hit_of label f = hit_of_by hitting label f

  -- the report
  abbrev pub report : List ℕ → Report
  report label = report_by hitting (formats_of book) label
