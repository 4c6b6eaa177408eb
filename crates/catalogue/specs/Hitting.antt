-- Which standing signatures hit codes, and the numbers of their fragments.
use Rattle.std.specs.Prelude.{ℕ, Bool, true, false, not, ◌||◌, List, Some, None, Option}
use Rattle.std.specs.List.{list_all}
use Rattle.std.specs.Option.{option_and_then}
use Rattle.patterns.specs.Sequences.{hits_in, shown}
use Rattle.patterns.specs.declared.reference.Reference.{Reference}
use Rattle.patterns.specs.declared.reference.Reference.TheVariants.{Front, Back, Anywhere}
use Rattle.engine.specs.Tables.{Slotted}
use Rattle.records.specs.Calls.{numbered}
use Rattle.records.specs.Entries.{Signature}
use Rattle.catalogue.specs.Standing.{said_in}
use Rattle.catalogue.specs.declared.hitting.Hitting.{Hitting}
use Rattle.catalogue.specs.declared.signatures.StandingSignature.{StandingSignature}

-- whether a sequence, if there is one, hits codes
abbrev pub hits_if : List ℕ → Option Slotted → Bool
hits_if codes None = false
hits_if codes (Some v) = hits_in v.said codes

-- whether a signature hits codes: all its sequences do
abbrev pub standing_hits : {K : Type 0} → List ℕ → StandingSignature K → Bool
standing_hits codes e = list_all (hits_if codes) e.sequences.items

-- whether a reference has offsets
abbrev pub has_offsets : Reference → Bool
has_offsets (Front least most) = true
has_offsets (Back least most) = true
has_offsets Anywhere = false

-- whether a sequence, if there is one, has offsets
abbrev pub offsets_if : Option Slotted → Bool
offsets_if None = false
offsets_if (Some v) = has_offsets v.said.reference

-- whether a sequence is one that is passed over, or hits: either those with offsets are tried, or those without
abbrev pub hits_among : Bool → List ℕ → Option Slotted → Bool
hits_among true codes v = not (offsets_if v) || hits_if codes v
hits_among false codes v = offsets_if v || hits_if codes v

-- what is kept of a standing signature that hits
abbrev pub hitting_of : {K : Type 0} → StandingSignature K → Hitting
hitting_of e = record { id = e.id; specific = e.specific }

-- the same of a signature
abbrev pub hitting_signature : Signature → Hitting
hitting_signature s = record { id = s.id; specific = s.specific }

-- the four numbers of a fragment of a sequence, by their numbers from 1 on
abbrev pub numbers_in : List (Option Slotted) → ℕ → ℕ → ℕ → Option (ℕ × ℕ × ℕ × ℕ)
numbers_in vs number fragment index =
    option_and_then (λ s. shown s fragment index) (option_and_then said_in (numbered vs number))
