-- What the signatures that stand hit and show is what their bodies say.
use Rattle.std.proofs.Common.{◌≡◌, ℕ, zero, suc, Bool, true, false, cond, not, ◌&&◌, ◌||◌, List, [], ◌∷◌, map, Some, None, Option, refl, sym, ap, ◌∙◌, subst}
use Rattle.std.specs.FinMap as finmap
use Rattle.std.specs.List.{cons_option, filter, filter_map, list_all, slice_get, AllByRecursion}
use Rattle.std.specs.Option.{option_and_then}
use Rattle.std.specs.Ordering.{nat_cmp}
use Rattle.kinds.specs.Alphabet.{Alphabet}
use Rattle.patterns.specs.Sequences.{hits_in}
use Rattle.engine.specs.Tables.{Slotted}
use Rattle.engine.specs.declared.fragment.Fragment.{Fragment}
use Rattle.records.specs.Book as book
use Rattle.records.specs.Book.{said_by}
use Rattle.records.specs.Calls.{numbered}
use Rattle.records.specs.Entries.{Sequence}
use Rattle.records.specs.Report.{hitting, sequence_hits, signature_hits}
use Rattle.catalogue.specs.Hitting.{hits_if, hits_among, offsets_if, hitting_of, hitting_signature, standing_hits}
use Rattle.catalogue.specs.Standing.{signature_pair, said_in, book_in, SignatureHeld, SignaturesHold}
use Rattle.catalogue.specs.declared.formats.StandingFormat.{StandingFormat}
use Rattle.catalogue.specs.declared.signatures.StandingSignature.{StandingSignature}

-- two tests of each of two things
regroup : (a b c d : Bool) → ((a && b) && (c && d)) ≡ ((a && c) && (b && d))
regroup false b c d = refl
regroup true false false d = refl
regroup true false true d = refl
regroup true true c d = refl

-- a sequence hits if it is passed over or hits, both where those with offsets are tried and where those without are
one_hits : (codes : List ℕ) (v : Option Slotted) → (hits_among true codes v && hits_among false codes v) ≡ hits_if codes v
one_hits codes v = either (offsets_if v) (hits_if codes v)
  where
    either : (o h : Bool) → ((not o || h) && (o || h)) ≡ h
    either true true = refl
    either true false = refl
    either false h = refl

-- all hit if those with offsets and those without do
pub parts_hit : (codes : List ℕ) (vs : List (Option Slotted)) → (list_all (hits_among true codes) vs && list_all (hits_among false codes) vs) ≡ list_all (hits_if codes) vs
parts_hit codes [] = refl
parts_hit codes (v ∷ vs) =
    regroup (hits_among true codes v) (list_all (hits_among true codes) vs) (hits_among false codes v) (list_all (hits_among false codes) vs)
    ∙ (λ i. one_hits codes v i && parts_hit codes vs i)

-- what is made of values of which the first is kept or not
map_kept : {X Y : Type 0} (f : X → Y) (t : Bool) (x : X) (xs : List X) → map f (cond t (x ∷ xs) xs) ≡ cond t (f x ∷ map f xs) (map f xs)
map_kept f true x xs = refl
map_kept f false x xs = refl

module _ {E : Type 0} (a : Alphabet E) where
  -- sequences hit as they are compiled
  pub sequences_hit : (b : book.Book) (codes : List ℕ) (qs : List Sequence) (vs : List (Option Slotted)) → map (said_by a) qs ≡ map said_in vs
      → list_all (hits_if codes) vs ≡ list_all (sequence_hits a b codes) qs
  sequences_hit b codes [] [] e = refl
  sequences_hit b codes [] (v ∷ vs) e = absurd (cc)
  sequences_hit b codes (q ∷ qs) [] e = absurd (cc)
  sequences_hit b codes (q ∷ qs) (v ∷ vs) e =
      let head : said_by a q ≡ said_in v = cc in
      let tail : map (said_by a) qs ≡ map said_in vs = cc in
      let one = subst (λ o. hits_if codes v ≡ elim o [ Some s ↦ hits_in s codes | None ↦ false ]) (sym head) (same v) in
      λ i. one i && sequences_hit b codes qs vs tail i
    where
      same : (w : Option Slotted) → hits_if codes w ≡ elim (said_in w) [ Some s ↦ hits_in s codes | None ↦ false ]
      same None = refl
      same (Some w) = refl

  -- those that hit are those whose bodies do
  bodies_hit : {K : Type 0} (b : book.Book) (codes : List ℕ) (table : List (Option Fragment)) (es : List (StandingSignature K)) → AllByRecursion (SignatureHeld a table) es
      → map hitting_of (filter (standing_hits codes) es)
      ≡ map hitting_signature (filter (signature_hits a b codes) (filter_map book.signature_in (map (λ p. p.1) (map signature_pair es))))
  bodies_hit b codes table [] held = refl
  bodies_hit b codes table (e ∷ es) held =
      let h = held.0 in
      let rest = bodies_hit b codes table es held.1 in
      let others = filter_map book.signature_in (map (λ p. p.1) (map signature_pair es)) in
      let same : hitting_of e ≡ hitting_signature h.entry = λ i. record { id = sym h.id i; specific = sym h.specific i } in
      let one = sequences_hit b codes h.entry.sequences e.sequences.items h.said in
      let more : map hitting_of (filter (standing_hits codes) (e ∷ es)) ≡ map hitting_signature (filter (signature_hits a b codes) (h.entry ∷ others)) =
      map_kept hitting_of (standing_hits codes e) e (filter (standing_hits codes) es) ∙ (λ i. cond (one i) (same i ∷ rest i) (rest i))
      ∙ sym (map_kept hitting_signature (signature_hits a b codes h.entry) h.entry (filter (signature_hits a b codes) others)) in
      subst (λ o. map hitting_of (filter (standing_hits codes) (e ∷ es)) ≡ map hitting_signature (filter (signature_hits a b codes) (cons_option o others))) (sym h.reads) more

  -- the signatures that hit are those of the report
  pub hitting_reported : {K : Type 0} (es : List (StandingSignature K)) (formats : List StandingFormat) (table : List (Option Fragment)) (codes : List ℕ) → SignaturesHold a es table
      → map hitting_of (filter (standing_hits codes) es) ≡ map hitting_signature (hitting a (book_in es formats) codes)
  hitting_reported es formats table codes holds =
      let b = book_in es formats in
      bodies_hit b codes table es holds.held
      ∙ ap (λ l. map hitting_signature (filter (signature_hits a b codes) (filter_map book.signature_in (map (λ p. p.1) l)))) (sym (finmap.entries-from_sorted nat_cmp (map signature_pair es) holds.rise))

  -- what a sequence says that is found by its number is what its text is compiled to
  pub numbers_held : {K : Type 0} (table : List (Option Fragment)) (e : StandingSignature K) (h : SignatureHeld a table e) (number : ℕ)
      → option_and_then said_in (numbered e.sequences.items number) ≡ option_and_then (said_by a) (numbered h.entry.sequences number)
  numbers_held table e h zero = refl
  numbers_held table e h (suc k) = at h.entry.sequences e.sequences.items h.said k
    where
      at : (qs : List Sequence) (vs : List (Option Slotted)) → map (said_by a) qs ≡ map said_in vs → (n : ℕ)
          → option_and_then said_in (slice_get vs n) ≡ option_and_then (said_by a) (slice_get qs n)
      at [] [] is n = refl
      at [] (v ∷ vs) is n = absurd (cc)
      at (q ∷ qs) [] is n = absurd (cc)
      at (q ∷ qs) (v ∷ vs) is zero = cc
      at (q ∷ qs) (v ∷ vs) is (suc n) =
          let tail : map (said_by a) qs ≡ map said_in vs = cc in
          at qs vs tail n
