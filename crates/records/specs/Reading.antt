-- Records read from left to right, up to the first fault.
use Rattle.std.specs.Prelude.{ℕ, zero, suc, ◌+◌, ◌-◌, Bool, true, false, if◌then◌else◌, ◌||◌, ◌&&◌, List, [], ◌∷◌, length, take, drop, Some, None, Ok, Err, Option, Result, ◌==◌, nat_le, nat_lt}
use Rattle.std.specs.Int.{w16, from_le_bytes}
use Rattle.std.specs.List.{list_all}
use Rattle.std.specs.Option.{option_map_or}
use Rattle.kinds.specs.Alphabet.{Alphabet, within}
use Rattle.patterns.specs.declared.reference.Reference.{Reference}
use Rattle.patterns.specs.declared.reference.Reference.TheVariants.{Front, Back, Anywhere}
use Rattle.records.specs.Entries.{Sequence, Signature, Format, Entry, signature, format, printable, label_character}

-- the bytes of a record from a place on
pub record Rest : Type 0 where
  pub place : ℕ
  pub bytes : List ℕ

-- What is read from somewhere on, and what is left behind it; or the place of the field that is at fault.
abbrev pub Read : Type 0 → Type 0
Read A = Result (A × Rest) ℕ

infixl 10 ◌>>=◌
abbrev pub ◌>>=◌ : {A B : Type 0} → Result A ℕ → (A → Result B ℕ) → Result B ℕ
(Ok x) >>= f = f x
(Err place) >>= f = Err place

-- so many bytes; they are cut off where there are fewer
unfoldable pub bytes_at : ℕ → Rest → Read (List ℕ)
bytes_at n r =
    if nat_lt (length r.bytes) n then Err r.place
    else Ok (take n r.bytes, record { place = r.place + n; bytes = drop n r.bytes })

-- a field of one byte
unfoldable pub byte_at : Rest → Read ℕ
byte_at r = elim r.bytes [ [] ↦ Err r.place | b ∷ bytes ↦ Ok (b, record { place = r.place + 1; bytes = bytes }) ]

-- a field of two bytes, the low one first
unfoldable pub word_at : Rest → Read ℕ
word_at r = do
  field ← bytes_at 2 r
  Ok (from_le_bytes w16 field.0, field.1)

-- a field that was read from somewhere on, if its value is allowed
abbrev pub allowed : {A : Type 0} → (A → Bool) → Rest → Read A → Read A
allowed p r field = do
  x ← field
  if p x.0 then Ok x else Err r.place

-- the length of a text, and the text as one field
unfoldable pub text_at : (ℕ → Bool) → (ℕ → Bool) → Rest → Read (List ℕ)
text_at lengths characters r = do
  len ← allowed lengths r (byte_at r)
  allowed (list_all characters) len.1 (bytes_at len.0 len.1)

-- Signatures.

-- the letter of a reference, B, E or V
abbrev pub letter : ℕ → Bool
letter c = c == 0x42 || (c == 0x45 || c == 0x56)

abbrev pub reference_of : ℕ → ℕ → ℕ → Reference
reference_of c least most =
    if c == 0x42 then Front least most else if c == 0x45 then Back least most else Anywhere

-- the least offset behind a letter: 0 behind V
abbrev pub least_allowed : ℕ → ℕ → Bool
least_allowed c least = if c == 0x56 then least == 0 else true

-- the greatest offset behind a letter and the least: 0 behind V, else not below the least
abbrev pub most_allowed : ℕ → ℕ → ℕ → Bool
most_allowed c least most = if c == 0x56 then most == 0 else nat_le least most

unfoldable pub reference_at : Rest → Read Reference
reference_at r = do
  c ← allowed letter r (byte_at r)
  least ← allowed (least_allowed c.0) c.1 (word_at c.1)
  most ← allowed (most_allowed c.0 least.0) least.1 (word_at least.1)
  Ok (reference_of c.0 least.0 most.0, most.1)

unfoldable pub sequence_at : Rest → Read Sequence
sequence_at r = do
  reference ← reference_at r
  text ← text_at (within 1 200) (λ c. true) reference.1
  Ok (record { reference = reference.0; text = text.0 }, text.1)

-- so many sequences
unfoldable pub sequences_at : ℕ → Rest → Read (List Sequence)
sequences_at zero r = Ok ([], r)
sequences_at (suc n) r = do
  first ← sequence_at r
  others ← sequences_at n first.1
  Ok (first.0 ∷ others.0, others.1)

unfoldable pub signature_at : Rest → Read Signature
signature_at r = do
  id ← word_at r
  specific ← allowed (within 0 1) id.1 (byte_at id.1)
  count ← allowed (within 1 4) specific.1 (byte_at specific.1)
  sequences ← sequences_at count.0 count.1
  Ok (record { id = id.0; specific = specific.0 == 1; sequences = sequences.0 }, sequences.1)

-- Formats.

-- an id of a list behind another, if there is one before it: it is above that and below a bound
abbrev pub id_allowed : ℕ → Option ℕ → ℕ → Bool
id_allowed bound before id = option_map_or (λ b. nat_lt b id) before true && nat_lt id bound

-- so many ids, each a field
unfoldable pub ids_from : ℕ → Option ℕ → ℕ → Rest → Read (List ℕ)
ids_from bound before zero r = Ok ([], r)
ids_from bound before (suc n) r = do
  first ← allowed (id_allowed bound before) r (word_at r)
  others ← ids_from bound (Some first.0) n first.1
  Ok (first.0 ∷ others.0, others.1)

-- how many ids, up to 8, and the ids
unfoldable pub ids_at : ℕ → Rest → Read (List ℕ)
ids_at bound r = do
  count ← allowed (within 0 8) r (byte_at r)
  ids_from bound None count.0 count.1

-- so many labels
unfoldable pub labels_from : ℕ → Rest → Read (List (List ℕ))
labels_from zero r = Ok ([], r)
labels_from (suc n) r = do
  first ← text_at (within 1 8) label_character r
  others ← labels_from n first.1
  Ok (first.0 ∷ others.0, others.1)

-- how many labels, up to 4, and the labels
unfoldable pub labels_at : Rest → Read (List (List ℕ))
labels_at r = do
  count ← allowed (within 0 4) r (byte_at r)
  labels_from count.0 count.1

unfoldable pub format_at : Rest → Read Format
format_at r = do
  id ← word_at r
  name ← text_at (within 0 40) printable id.1
  signatures ← ids_at 65536 name.1
  outranked ← ids_at id.0 signatures.1
  labels ← labels_at outranked.1
  Ok (record { id = id.0; name = name.0; signatures = signatures.0; outranked = outranked.0; labels = labels.0 }, labels.1)

-- Records.

-- no byte follows the last field
abbrev pub ended : {A : Type 0} → Read A → Result A ℕ
ended read = do
  x ← read
  if length x.1.bytes == 0 then Ok x.0 else Err x.1.place

-- The kind of a record and what follows it: the length field holds the length of the record less 4, and the kind is one of
-- those that are wanted. A record of less than 4 bytes counts as one without a body.
unfoldable pub kind_at : (ℕ → Bool) → List ℕ → Read ℕ
kind_at kinds bytes = do
  len ← allowed (λ n. n == length bytes - 4) (record { place = 0; bytes = bytes }) (word_at (record { place = 0; bytes = bytes }))
  allowed kinds len.1 (word_at len.1)

-- a signature whose body this is, from its place in the record on
unfoldable pub signature_of : Rest → Result Signature ℕ
signature_of r = ended (signature_at r)

-- a format whose body this is
unfoldable pub format_of : Rest → Result Format ℕ
format_of r = ended (format_at r)

-- the entry of a body of a kind
abbrev pub entry_of : Bool → Rest → Result Entry ℕ
entry_of true r = do
  s ← signature_of r
  Ok (signature s)
entry_of false r = do
  f ← format_of r
  Ok (format f)

-- the entry of a record, or the place of its first fault
unfoldable pub entry_at : {E : Type 0} → Alphabet E → List ℕ → Result Entry ℕ
entry_at a bytes = do
  kind ← kind_at (λ k. k == a.signature_record || k == a.format_record) bytes
  entry_of (kind.0 == a.signature_record) kind.1
