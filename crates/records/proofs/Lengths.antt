-- How long bodies are: their length fits its field.
use Rattle.std.proofs.Common.{◌≡◌, ℕ, ◌+◌, ◌*◌, ◌<◌, ◌≤◌, List, [], ◌∷◌, ◌++◌, map, length, refl, ap, ◌∙◌, arith, length-append}
use Rattle.std.specs.List.{AllByRecursion, flat_map}
use Rattle.patterns.specs.declared.reference.Reference.{Reference}
use Rattle.patterns.specs.declared.reference.Reference.TheVariants.{Front, Back, Anywhere}
use Rattle.records.specs.Entries.{Sequence, Signature, Format, Entry, signature, format, word, joined, reference_fields, text_fields, sequence_fields, id_fields, body_of, IsSequence, IsSignature, IsLabel, IsFormat, IsEntry}
use Rattle.records.proofs.Readers.{joined-append}

-- the bytes of fields, and then of others
length_both : (front rest : List (List ℕ)) → length (joined (front ++ rest)) ≡ length (joined front) + length (joined rest)
length_both front rest = ap (λ (bytes : List ℕ). length bytes) (joined-append front rest) ∙ length-append (joined front) (joined rest)

-- the bytes of a list, each of whose items has at most so many
length_each : {A : Type 0} (Fits : A → Type 0) (F : A → List (List ℕ)) (most : ℕ) → ((x : A) → Fits x → length (joined (F x)) ≤ most) → (xs : List A) → AllByRecursion Fits xs → length (joined (flat_map F xs)) ≤ most * length xs
length_each Fits F most each [] h = omega arith
length_each Fits F most each (x ∷ xs) h =
    let others = length_each Fits F most each xs h.1 in
    omega (arith, length_both (F x) (flat_map F xs), each x h.0, others)

length_text : (text : List ℕ) → length (joined (text_fields text)) ≡ length text + 1
length_text text = omega (arith, length-append text [])

length_reference : (reference : Reference) → length (joined (reference_fields reference)) ≡ 5
length_reference (Front least most) = refl
length_reference (Back least most) = refl
length_reference Anywhere = refl

length_sequence : (q : Sequence) → IsSequence q → length (joined (sequence_fields q)) ≤ 206
length_sequence q h = omega (arith, length_both (reference_fields q.reference) (text_fields q.text), length_reference q.reference, length_text q.text, h.few)

length_ids : (ids : List ℕ) → length (joined (map word ids)) ≡ 2 * length ids
length_ids [] = refl
length_ids (id ∷ ids) = omega (arith, length_ids ids)

length_id_fields : (ids : List ℕ) → length (joined (id_fields ids)) ≡ 2 * length ids + 1
length_id_fields ids = omega (arith, length_ids ids)

length_label : (label : List ℕ) → IsLabel label → length (joined (text_fields label)) ≤ 9
length_label label h = omega (arith, length_text label, h.few)

-- a signature's body has 828 bytes at most
pub signature_length : (s : Signature) → IsSignature s → length (body_of (signature s)) ≤ 828
signature_length s h = omega (arith, length_each IsSequence sequence_fields 206 length_sequence s.sequences h.each, h.few)

-- and a format's 114
pub format_length : (f : Format) → IsFormat f → length (body_of (format f)) ≤ 114
format_length f h =
    let labels = length_each IsLabel text_fields 9 length_label f.labels h.labels in
    let name = text_fields f.name in
    let signatures = id_fields f.signatures in
    let outranked = id_fields f.outranked in
    omega (
      arith,
      labels,
      h.few_labels,
      h.few,
      h.signatures.few,
      h.outranked.few,
      length_text f.name,
      length_id_fields f.signatures,
      length_id_fields f.outranked,
      length_both (name ++ signatures ++ outranked) ((length f.labels ∷ []) ∷ flat_map text_fields f.labels),
      length_both (name ++ signatures) outranked,
      length_both name signatures,
    )

-- the length of a body fits two bytes
pub body_fits : (e : Entry) → IsEntry e → length (body_of e) < 65536
body_fits (signature s) h = omega (arith, signature_length s h)
body_fits (format f) h = omega (arith, format_length f h)
