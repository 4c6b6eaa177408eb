-- How long a body is that is read.
use Rattle.std.proofs.Common.{◌≡◌, ℕ, suc, ◌≤◌, ◌==◌, Fits, w8, List, [], ◌∷◌, length, get_or, Some, Ok, ap, subst, arith, length-append}
use Rattle.std.proofs.lemmas.Bool.{eqb-true}
use Rattle.records.specs.Book.{signature_in, format_in}
use Rattle.records.specs.Entries.{Signature, Format, joined, signature_fields, format_fields, IsSignature, IsFormat}
use Rattle.records.specs.Laws.{IsBytes}
use Rattle.records.specs.Reading.{Rest, Read, ended, signature_at, format_at, signature_of, format_of}
use Rattle.records.proofs.Bodies.{ok_inside}
use Rattle.records.proofs.Formats.{format_reads}
use Rattle.records.proofs.Lengths.{signature_length, format_length}
use Rattle.records.proofs.Readers.{Reader, Anything, Spelled, bind_ok, guard_ok}
use Rattle.records.proofs.Signatures.{signature_reads}

-- the bytes of a slice are below 256
pub bytes_below : (bytes : List ℕ) → ((i : ℕ) → Fits w8 (get_or bytes i 0)) → IsBytes bytes
bytes_below [] fits = tt
bytes_below (b ∷ bytes) fits = (omega (arith, fits 0), bytes_below bytes (λ i. fits (suc i)))

-- what is read to the end of some bytes is as long as they are
as_long : {A : Type 0} (Has : A → Type 0) (F : A → List (List ℕ)) (P : Rest → Read A) → Reader Anything P (Spelled Has F) → (r : Rest) (y : A)
    → IsBytes r.bytes → ended (P r) ≡ Ok y → Has y × (length r.bytes ≡ length (joined (F y)))
as_long Has F P reads r y fits e =
    let x = bind_ok (P r) _ y e in
    let last = guard_ok (length x.0.1.bytes == 0) x.0.0 y x.0.1.place x.2 in
    let none : length x.0.1.bytes ≡ 0 = eqb-true (length x.0.1.bytes) 0 last.0 in
    let taken = reads.taken r x.0.1 x.0.0 fits x.1 in
    let spelled : length (joined taken.0) ≡ length (joined (F x.0.0)) = ap (λ fields. length (joined fields)) taken.1.spelled in
    subst (λ z. Has z × (length r.bytes ≡ length (joined (F z)))) last.1
    (taken.1.fits, omega (arith, ap (λ (bytes : List ℕ). length bytes) taken.2.bytes, length-append (joined taken.0) x.0.1.bytes))

-- a body that reads as a signature has 828 bytes at most
pub signature_short : (body : List ℕ) (s : Signature) → IsBytes body → signature_in body ≡ Some s → length body ≤ 828
unfolding signature_of
signature_short body s fits e =
    let long = as_long IsSignature signature_fields signature_at signature_reads (record { place = 4; bytes = body }) s fits (ok_inside _ s e) in
    omega (arith, signature_length s long.0)

-- and one that reads as a format 114
pub format_short : (body : List ℕ) (f : Format) → IsBytes body → format_in body ≡ Some f → length body ≤ 114
unfolding format_of
format_short body f fits e =
    let long = as_long IsFormat format_fields format_at format_reads (record { place = 4; bytes = body }) f fits (ok_inside _ f e) in
    omega (arith, format_length f long.0)
