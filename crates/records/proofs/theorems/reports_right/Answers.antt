use Rattle.records.proofs.Reports.{laws}
use Rattle.records.proofs.Rises.{report_rises}
use Rattle.records.proofs.theorems.reports_right.Goals as goal

pub returns-clause-theorem : goal.returns-clause-theorem
returns-clause-theorem g c = record {
  laws = laws g.K.Kind.alphabet;
  rise = λ book codes label lawful. report_rises g.K.Kind.alphabet book lawful codes label;
}
