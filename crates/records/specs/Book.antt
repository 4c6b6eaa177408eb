-- What stands in a catalogue: the bodies of signatures and of formats, by their ids.
use Rattle.std.specs.Prelude.{ℕ, List, length, Some, None, Option, refl}
use Rattle.std.specs.Coded.{Coded, code_by, coded×, coded_list, coded_ℕ}
use Rattle.std.specs.FinMap as map
use Rattle.std.specs.List.{filter_map, sum_by}
use Rattle.std.specs.Option.{option_and_then}
use Rattle.std.specs.Ordering.{nat_cmp}
use Rattle.std.specs.Result.{result_ok}
use Rattle.kinds.specs.Alphabet.{Alphabet}
use Rattle.patterns.specs.Sequences.{Said, compiled, parts_said}
use Rattle.records.specs.Entries.{Sequence, Signature, Format}
use Rattle.records.specs.Reading.{signature_of, format_of}

pub record Book : Type 0 where
  pub signatures : map.FinMap nat_cmp (List ℕ)
  pub formats : map.FinMap nat_cmp (List ℕ)

-- a book is stored as its two maps
abbrev pub book_code : Coded Book
book_code =
    code_by (map.FinMap nat_cmp (List ℕ) × map.FinMap nat_cmp (List ℕ)) (coded× (map.code coded_ℕ (coded_list coded_ℕ)) (map.code coded_ℕ (coded_list coded_ℕ))) (λ b. (b.signatures, b.formats)) (λ p. record { signatures = p.0; formats = p.1 }) (λ _. refl)

-- nothing stands
abbrev pub empty : Book
empty = record { signatures = map.empty; formats = map.empty }

-- the signature of a body; a body stands behind the first four bytes of its record
abbrev pub signature_in : List ℕ → Option Signature
signature_in body = result_ok (signature_of (record { place = 4; bytes = body }))

-- the format of a body
abbrev pub format_in : List ℕ → Option Format
format_in body = result_ok (format_of (record { place = 4; bytes = body }))

-- the signatures that stand, by rising id
abbrev pub signatures_of : Book → List Signature
signatures_of book = filter_map signature_in (map.values book.signatures)

-- the formats that stand, by rising id
abbrev pub formats_of : Book → List Format
formats_of book = filter_map format_in (map.values book.formats)

-- the signature that stands under an id, if one does
abbrev pub signature_at : Book → ℕ → Option Signature
signature_at book id = option_and_then signature_in (map.get book.signatures id)

module _ {E : Type 0} (a : Alphabet E) where
  -- what the text of a sequence is compiled to, if it is not refused
  abbrev pub said_by : Sequence → Option Said
  said_by q = result_ok (compiled a 0 q.reference q.text)

  -- how many fragments a sequence has
  abbrev pub fragments_in : Sequence → ℕ
  fragments_in q = elim (said_by q) [ Some s ↦ length (parts_said s) | None ↦ 0 ]

  -- how many a signature has
  abbrev pub fragments_of : Signature → ℕ
  fragments_of s = sum_by fragments_in s.sequences

  -- how many stand
  abbrev pub fragments_standing : Book → ℕ
  fragments_standing book = sum_by fragments_of (signatures_of book)
