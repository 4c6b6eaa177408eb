-- What a report is made of: the signatures that hit, and the formats that stand.
use Rattle.std.specs.Prelude.{ℕ, Bool, if◌then◌else◌, List, [], ◌∷◌, map}
use Rattle.records.specs.Entries.{Signature}
use Rattle.records.specs.Report.{Report}
use Rattle.catalogue.specs.declared.hitting.Hitting.{Hitting}
use Rattle.catalogue.specs.declared.report.Found.{Found}

-- a signature as far as a report reads it
abbrev pub bare : ℕ → Bool → Signature
bare id specific = record { id = id; specific = specific; sequences = [] }

-- the signatures that hit
abbrev pub hitting_in : List Hitting → List Signature
hitting_in hitting = map (λ (h : Hitting). bare h.id h.specific) hitting

-- a report that was found
abbrev pub found_in : Found → Report
found_in f = record { status = f.status; hits = f.hits.items }

-- the elements whose flag is set
abbrev pub flagged : {X : Type 0} → List X → List Bool → List X
flagged [] flags = []
flagged (x ∷ xs) [] = []
flagged (x ∷ xs) (f ∷ flags) = if f then x ∷ flagged xs flags else flagged xs flags
