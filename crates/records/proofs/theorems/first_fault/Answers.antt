use Rattle.records.proofs.Records.{first_fault}
use Rattle.records.proofs.theorems.first_fault.Goals as goal

pub returns-clause-theorem : goal.returns-clause-theorem
returns-clause-theorem g c = first_fault g.K.Kind.alphabet g.met.K.Kind.lawful
