use Rattle.records.proofs.Records.{spelled_is_read}
use Rattle.records.proofs.theorems.spelled_is_read.Goals as goal

pub returns-clause-theorem : goal.returns-clause-theorem
returns-clause-theorem g c = spelled_is_read g.K.Kind.alphabet g.met.K.Kind.lawful
