-- Why a signature is refused where others stand, cause by cause.
use Rattle.std.proofs.Common.{◌≡◌, ℕ, ◌+◌, ◌<◌, ◌≤◌, Bool, true, false, eqb, leb, List, [], ◌∷◌, map, length, Some, None, Option, refl, ◌∙◌, arith}
use Rattle.std.specs.FinMap as finmap
use Rattle.std.specs.List.{position}
use Rattle.std.specs.Option.{is_some}
use Rattle.std.proofs.lemmas.Bool.{lt-ltb, le-ltb, le-leb, lt-leb, leb-false}
use Rattle.faults.specs.Faults.{outside}
use Rattle.faults.specs.declared.fault.Cause.TheVariants.{Taken, Full}
use Rattle.faults.specs.declared.fault.Fault.{Fault}
use Rattle.kinds.specs.Alphabet.{Alphabet}
use Rattle.patterns.specs.Sequences.{Said}
use Rattle.engine.specs.Tables.{free_slots}
use Rattle.engine.specs.declared.fragment.Fragment.{Fragment}
use Rattle.records.specs.Book.{fragments_of, fragments_standing}
use Rattle.records.specs.Entries.{Signature}
use Rattle.records.specs.Refusals.{refused_from, first_of, signature_taken, text_refused, signatures_full, fragments_full}
use Rattle.catalogue.specs.Entering.{fragment_total, signature_refused, signatures_in, Compiles}
use Rattle.catalogue.specs.Standing.{signature_pair, bodies, SignaturesHold}
use Rattle.catalogue.specs.declared.signatures.StandingSignature.{StandingSignature}
use Rattle.records.proofs.Keeping.{neither, not_refused}
use Rattle.catalogue.proofs.Held.{len-bodies, stands_where_found}
use Rattle.catalogue.proofs.HeldSignatures.{fragments_counted}
use Rattle.catalogue.proofs.Slots.{fragments_said}

-- the place of an id among those of signatures
abbrev pub place : {K : Type 0} → List (StandingSignature K) → ℕ → Option ℕ
place es id = position (λ e. eqb (signature_pair e).0 id) es

module _ {E K : Type 0} (a : Alphabet E) (es : List (StandingSignature K)) (table : List (Option Fragment)) (holds : SignaturesHold a es table) (s : Signature) where
  -- the id stands where its place is found
  stands_at : (b : Bool) → is_some (place es s.id) ≡ b → finmap.contains_key (bodies (map signature_pair es)) s.id ≡ b
  stands_at b e = stands_where_found signature_pair es s.id holds.rise ∙ e

  -- so many stand
  stand : finmap.len (bodies (map signature_pair es)) ≡ length es
  stand = len-bodies signature_pair es holds.rise

  -- its id is taken
  pub taken : is_some (place es s.id) ≡ true → signature_refused a es s ≡ Some (outside Taken s.id)
  taken e = rw (stands_at true e) refl

  -- one of its texts is refused
  pub text : (f : Fault) → is_some (place es s.id) ≡ false → refused_from a 1 s.sequences ≡ Some f → signature_refused a es s ≡ Some f
  text f e refused = rw (stands_at false e, refused) refl

  -- too many stand
  pub many : is_some (place es s.id) ≡ false → refused_from a 1 s.sequences ≡ None → 24 ≤ length es → signature_refused a es s ≡ Some (outside Full 1)
  many e accepted le = rw (stands_at false e, accepted, stand, le-leb 24 (length es) le) refl

  module _ (ss : List (Option Said)) (compiled : Compiles a s.sequences ss) where
    -- so many fragments stand with those of the signature
    together : fragments_standing a (signatures_in es) + fragments_of a s + length (free_slots table) ≡ 96 + fragment_total ss
    together = omega (arith, fragments_counted a es table holds, fragments_said a s.sequences ss compiled.each, holds.accounted.counted)

    -- too few slots are free
    pub crowded : is_some (place es s.id) ≡ false → length es < 24 → length (free_slots table) < fragment_total ss
        → signature_refused a es s ≡ Some (outside Full 2)
    crowded e few lt =
        let over : 96 < fragments_standing a (signatures_in es) + fragments_of a s = omega (arith, together) in
        rw (stands_at false e, compiled.accepted, stand, lt-leb 24 (length es) few, lt-ltb 96 (fragments_standing a (signatures_in es) + fragments_of a s) over) refl

    -- it is not refused
    pub entered : is_some (place es s.id) ≡ false → length es < 24 → fragment_total ss ≤ length (free_slots table)
        → signature_refused a es s ≡ None
    entered e few le =
        let fits : fragments_standing a (signatures_in es) + fragments_of a s ≤ 96 = omega (arith, together) in
        rw (stands_at false e, compiled.accepted, stand, lt-leb 24 (length es) few, le-ltb 96 (fragments_standing a (signatures_in es) + fragments_of a s) fits) refl

  -- where it is not refused its id is new, and there is room
  pub fresh : signature_refused a es s ≡ None → (finmap.contains_key (bodies (map signature_pair es)) s.id ≡ false) × (length es < 24)
  fresh e =
      let book = signatures_in es in
      let first = neither (signature_taken book s) (first_of (text_refused a s ∷ signatures_full book ∷ fragments_full a book s ∷ [])) e in
      let second = neither (text_refused a s) (first_of (signatures_full book ∷ fragments_full a book s ∷ [])) first.1 in
      let third = neither (signatures_full book) (first_of (fragments_full a book s ∷ [])) second.1 in
      let absent = not_refused (finmap.contains_key book.signatures s.id) (outside Taken s.id) first.0 in
      let room = not_refused (leb 24 (finmap.len book.signatures)) (outside Full 1) third.0 in (
        absent,
        omega (arith, leb-false 24 (finmap.len book.signatures) room, stand),
      )
