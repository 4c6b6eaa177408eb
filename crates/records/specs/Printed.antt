-- How reports are printed.
use Rattle.std.specs.Prelude.{ℕ, if◌then◌else◌, List, ◌++◌, codes, decimal}
use Rattle.records.specs.declared.report.Hit.{Hit}
use Rattle.records.specs.declared.report.HitStatus.{HitStatus}
use Rattle.records.specs.declared.report.HitStatus.TheVariants as hit
use Rattle.records.specs.declared.report.Status.{Status}
use Rattle.records.specs.declared.report.Status.TheVariants as status

-- the word of a report's status
abbrev pub status_text : Status → List ℕ
status_text status.Positive = codes "positive"
status_text status.Tentative = codes "tentative"
status_text status.Negative = codes "negative"

-- the word of a hit's status
abbrev pub hit_status_text : HitStatus → List ℕ
hit_status_text hit.Specific = codes "specific"
hit_status_text hit.Generic = codes "generic"
hit_status_text hit.Tentative = codes "tentative"

-- a hit: its id, its status and its warning
abbrev pub hit_text : Hit → List ℕ
hit_text h =
    decimal h.id ++ (codes " " ++ (hit_status_text h.status ++ (if h.mismatch then codes " mismatch" else codes "")))
