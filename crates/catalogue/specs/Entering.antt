-- What the steps of entering a signature do.
use Rattle.std.specs.Prelude.{◌≡◌, ℕ, List, [], ◌∷◌, map, length, insert, count_by, nat_lt, Some, None, Option}
use Rattle.std.specs.FinMap as map
use Rattle.std.specs.FinMap.{FinMap}
use Rattle.std.specs.List.{sum_by}
use Rattle.std.specs.Ordering.{nat_cmp}
use Rattle.faults.specs.declared.fault.Fault.{Fault}
use Rattle.kinds.specs.Alphabet.{Alphabet}
use Rattle.patterns.specs.Sequences.{Said, parts_said}
use Rattle.engine.specs.Tables.{Slotted, Moved}
use Rattle.engine.specs.declared.fragment.Fragment.{Fragment}
use Rattle.records.specs.Book.{Book, said_by}
use Rattle.records.specs.Calls.{after}
use Rattle.records.specs.Entries.{Sequence, Signature, signature}
use Rattle.records.specs.Refusals.{entry_refused, refused_from}
use Rattle.catalogue.specs.Standing.{bodies, signature_pair}
use Rattle.catalogue.specs.declared.signatures.StandingSignature.{StandingSignature}

-- no text of some sequences is refused, and this is what they are compiled to
pub record Compiles {E : Type 0} (a : Alphabet E) (qs : List Sequence) (said : List (Option Said)) : Type 0 where
  pub accepted : refused_from a 1 qs ≡ None
  pub each : map (said_by a) qs ≡ said

-- how many fragments a sequence has, if there is one
abbrev pub fragment_count : Option Said → ℕ
fragment_count None = 0
fragment_count (Some s) = length (parts_said s)

-- how many fragments sequences have
abbrev pub fragment_total : List (Option Said) → ℕ
fragment_total said = sum_by fragment_count said

-- a sequence is moved into a table, if there is one
abbrev pub MovedIf : Option Said → List (Option Fragment) → List (Option Fragment) → Option Slotted → Type 0
MovedIf None before after None = after ≡ before
MovedIf None before after (Some v) = ⊥
MovedIf (Some s) before after None = ⊥
MovedIf (Some s) before after (Some v) = Moved s before after v

-- sequences are moved into a table, one after the other
abbrev pub MovedAll : List (Option Said) → List (Option Fragment) → List (Option Fragment) → List (Option Slotted) → Type 0
MovedAll [] before after [] = after ≡ before
MovedAll [] before after (v ∷ vs) = ⊥
MovedAll (s ∷ ss) before after [] = ⊥
MovedAll (s ∷ ss) before after (v ∷ vs) =
    (between : List (Option Fragment)) × MovedIf s before between v × MovedAll ss between after vs

-- the pairs of ids and bodies with one more at its place
abbrev pub inserted : List (ℕ × List ℕ) → ℕ → List ℕ → List (ℕ × List ℕ)
inserted pairs id body = insert pairs (count_by (λ (e : ℕ × List ℕ). nat_lt e.0 id) pairs) (id, body)

-- a book of signatures alone
abbrev pub signatures_alone : FinMap nat_cmp (List ℕ) → Book
signatures_alone bodies = record { signatures = bodies; formats = map.empty }

-- the book of some signatures
abbrev pub signatures_in : {K : Type 0} → List (StandingSignature K) → Book
signatures_in signatures = signatures_alone (bodies (map signature_pair signatures))

-- why a signature is refused where others stand
abbrev pub signature_refused : {E K : Type 0} → Alphabet E → List (StandingSignature K) → Signature → Option Fault
signature_refused a signatures s = entry_refused a (signatures_in signatures) (signature s)

-- the pairs of ids and bodies with one more, or as they were where there is a refusal
abbrev pub with_entry : Option Fault → List (ℕ × List ℕ) → ℕ → List ℕ → List (ℕ × List ℕ)
with_entry refused pairs id body = after refused pairs (inserted pairs id body)
