use Rattle.records.proofs.Records.{spelled_apart}
use Rattle.records.proofs.theorems.spelled_apart.Goals as goal

pub returns-clause-theorem : goal.returns-clause-theorem
returns-clause-theorem g c = spelled_apart g.K.Kind.alphabet g.met.K.Kind.lawful
