-- Bodies are read alone as they are in their records.
use Rattle.std.proofs.Common.{◌≡◌, ℕ, List, [], ◌++◌, length, Ok, Err, ap, subst, ◌∙◌}
use Rattle.std.specs.Prelude.{◌==◌, if◌then◌else◌}
use Rattle.std.proofs.lemmas.Bool.{eqb-true}
use Rattle.std.proofs.lemmas.List.{append-nil, nil_from_length}
use Rattle.kinds.specs.Alphabet.{Alphabet, Lawful}
use Rattle.records.specs.Entries.{Entry, signature, format, joined, signature_fields, format_fields, body_of, IsSignature, IsFormat, IsEntry}
use Rattle.records.specs.Laws.{IsBytes, IsBodyOf, BodyIsRead, RecordIsRead}
use Rattle.records.specs.Reading.{Rest, Read, ended, signature_of, format_of}
use Rattle.records.proofs.Bodies.{ok_inside, signature_entered, format_entered}
use Rattle.records.proofs.Formats.{format_reads}
use Rattle.records.proofs.Readers.{Reader, Anything, Spelled, bind_ok, guard_ok}
use Rattle.records.proofs.Records.{spelled_is_read}
use Rattle.records.proofs.Signatures.{signature_reads}

module _ {A : Type 0} (P : Rest → Read A) (Fits : A → Type 0) (F : A → List (List ℕ)) (reads : Reader Anything P (Spelled Fits F)) where
  -- what is read of all bytes has a spelling, and the bytes are that spelling
  ended_taken : (r : Rest) (x : A) → IsBytes r.bytes → ended (P r) ≡ Ok x → Fits x × (r.bytes ≡ joined (F x))
  ended_taken r x fits read =
      let value = bind_ok (P r) (λ y. if length y.1.bytes == 0 then Ok y.0 else Err y.1.place) x read in
      let s = value.0.1 in
      let last = guard_ok (length s.bytes == 0) value.0.0 x s.place value.2 in
      let t = reads.taken r s value.0.0 fits value.1 in
      let nothing : s.bytes ≡ [] = nil_from_length s.bytes (eqb-true _ _ last.0) in
      let all : r.bytes ≡ joined (F value.0.0) = t.2.bytes ∙ ap (λ rest. joined t.0 ++ rest) nothing ∙ append-nil (joined t.0) ∙ ap joined t.1.spelled in
      subst (λ y. Fits y × (r.bytes ≡ joined (F y))) last.1 (t.1.fits, all)

-- the body of an entry is its spelling
body_is_spelled : (body : List ℕ) (e : Entry) → IsBytes body → IsBodyOf e body → IsEntry e × (body ≡ body_of e)
unfolding signature_of format_of
body_is_spelled body (signature s) fits read = ended_taken _ IsSignature signature_fields signature_reads (record { place = 4; bytes = body }) s fits read
body_is_spelled body (format f) fits read = ended_taken _ IsFormat format_fields format_reads (record { place = 4; bytes = body }) f fits read

-- the law that a body is read alone
pub body_is_read : {E : Type 0} (a : Alphabet E) → BodyIsRead a
body_is_read a bytes (signature s) read = ok_inside _ s (signature_entered a bytes s read)
body_is_read a bytes (format f) read = ok_inside _ f (format_entered a bytes f read)

module _ {E : Type 0} (a : Alphabet E) (lawful : Lawful a) where
  -- the law that a record of a body is read
  pub record_is_read : RecordIsRead a
  record_is_read body e fits read =
      let spelled = body_is_spelled body e fits read in
      rw spelled.1 (spelled_is_read a lawful e spelled.0)
