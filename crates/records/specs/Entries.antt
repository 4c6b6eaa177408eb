-- Entries: signatures and formats, and the one spelling of each as a record, by its fields.
use Rattle.std.specs.Prelude.{◌≡◌, ℕ, ◌<◌, ◌≤◌, Bool, true, if◌then◌else◌, ◌||◌, List, [], ◌∷◌, ◌++◌, map, length, ⊤}
use Rattle.std.specs.Int.{w16, to_le_bytes}
use Rattle.std.specs.List.{flat_map, list_all, AllByRecursion}
use Rattle.kinds.specs.Alphabet.{Alphabet, within}
use Rattle.patterns.specs.declared.reference.Reference.{Reference}
use Rattle.patterns.specs.declared.reference.Reference.TheVariants.{Front, Back, Anywhere}

-- Where a sequence is looked for, and its text.
pub record Sequence : Type 0 where
  pub reference : Reference
  pub text : List ℕ

-- A signature: its id, whether it is specific, and its sequences.
pub record Signature : Type 0 where
  pub id : ℕ
  pub specific : Bool
  pub sequences : List Sequence

-- A format: its id and name, the signatures that it names, the formats that it outranks, and its labels.
pub record Format : Type 0 where
  pub id : ℕ
  pub name : List ℕ
  pub signatures : List ℕ
  pub outranked : List ℕ
  pub labels : List (List ℕ)

-- what a record enters
pub data Entry : Type 0 where
  signature : Signature → Entry
  format : Format → Entry

-- Spelling. A record is its fields, one after the other; a listed id, a name, a text and a label are one field each.

-- two bytes, the low one first
abbrev pub word : ℕ → List ℕ
word n = to_le_bytes w16 n

-- one byte
abbrev pub byte : ℕ → List ℕ
byte n = n ∷ []

-- a letter, B, E or V, and the least and the greatest offset
abbrev pub reference_fields : Reference → List (List ℕ)
reference_fields (Front least most) = byte 0x42 ∷ word least ∷ word most ∷ []
reference_fields (Back least most) = byte 0x45 ∷ word least ∷ word most ∷ []
reference_fields Anywhere = byte 0x56 ∷ word 0 ∷ word 0 ∷ []

-- the length of some bytes, and the bytes
abbrev pub text_fields : List ℕ → List (List ℕ)
text_fields bytes = byte (length bytes) ∷ bytes ∷ []

abbrev pub sequence_fields : Sequence → List (List ℕ)
sequence_fields s = reference_fields s.reference ++ text_fields s.text

-- how many ids, and the ids
abbrev pub id_fields : List ℕ → List (List ℕ)
id_fields ids = byte (length ids) ∷ map word ids

-- specific is 1, generic 0
abbrev pub signature_fields : Signature → List (List ℕ)
signature_fields s =
    word s.id ∷ byte (if s.specific then 1 else 0) ∷ byte (length s.sequences) ∷ flat_map sequence_fields s.sequences

abbrev pub format_fields : Format → List (List ℕ)
format_fields f =
    word f.id ∷ (text_fields f.name ++ id_fields f.signatures ++ id_fields f.outranked ++ (byte (length f.labels) ∷ flat_map text_fields f.labels))

-- the fields of a body
abbrev pub body_fields : Entry → List (List ℕ)
body_fields (signature s) = signature_fields s
body_fields (format f) = format_fields f

-- fields, one after the other
abbrev pub joined : List (List ℕ) → List ℕ
joined fields = flat_map (λ field. field) fields

abbrev pub body_of : Entry → List ℕ
body_of e = joined (body_fields e)

abbrev pub kind_of : {E : Type 0} → Alphabet E → Entry → ℕ
kind_of a (signature s) = a.signature_record
kind_of a (format f) = a.format_record

-- the fields of a record: the length of its body and its kind, and those of the body
abbrev pub record_fields : {E : Type 0} → Alphabet E → Entry → List (List ℕ)
record_fields a e = word (length (body_of e)) ∷ word (kind_of a e) ∷ body_fields e

-- a record of an entry
abbrev pub record_of : {E : Type 0} → Alphabet E → Entry → List ℕ
record_of a e = joined (record_fields a e)

-- Which entries have a spelling.

-- a printable character of ASCII
abbrev pub printable : ℕ → Bool
printable c = within 0x20 0x7E c

-- a small letter or a digit
abbrev pub label_character : ℕ → Bool
label_character c = within 0x30 0x39 c || within 0x61 0x7A c

-- the offsets of a sequence: the least is not above the greatest
abbrev pub Offsets : Reference → Type 0
Offsets (Front least most) = (least ≤ most) × (most < 65536)
Offsets (Back least most) = (least ≤ most) × (most < 65536)
Offsets Anywhere = ⊤

pub record IsSequence (s : Sequence) : Type 0 where
  pub offsets : Offsets s.reference
  pub some : 1 ≤ length s.text
  pub few : length s.text ≤ 200
  pub bytes : AllByRecursion (λ b. b < 256) s.text

pub record IsSignature (s : Signature) : Type 0 where
  pub id : s.id < 65536
  pub some : 1 ≤ length s.sequences
  pub few : length s.sequences ≤ 4
  pub each : AllByRecursion IsSequence s.sequences

-- each number is above the one before it
abbrev pub Rising : List ℕ → Type 0
Rising [] = ⊤
Rising (n ∷ []) = ⊤
Rising (m ∷ n ∷ ns) = (m < n) × Rising (n ∷ ns)

-- the ids of a list rise, and each is below a bound
pub record AreIds (bound : ℕ) (ids : List ℕ) : Type 0 where
  pub few : length ids ≤ 8
  pub each : AllByRecursion (λ id. id < bound) ids
  pub rising : Rising ids

pub record IsLabel (label : List ℕ) : Type 0 where
  pub some : 1 ≤ length label
  pub few : length label ≤ 8
  pub characters : list_all label_character label ≡ true

-- the formats that a format outranks have lower ids
pub record IsFormat (f : Format) : Type 0 where
  pub id : f.id < 65536
  pub few : length f.name ≤ 40
  pub printable : list_all printable f.name ≡ true
  pub signatures : AreIds 65536 f.signatures
  pub outranked : AreIds f.id f.outranked
  pub few_labels : length f.labels ≤ 4
  pub labels : AllByRecursion IsLabel f.labels

-- an entry that has a spelling
abbrev pub IsEntry : Entry → Type 0
IsEntry (signature s) = IsSignature s
IsEntry (format f) = IsFormat f
