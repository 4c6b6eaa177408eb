use Rattle.records.proofs.Alone.{body_is_read}
use Rattle.records.proofs.theorems.body_is_read.Goals as goal

pub returns-clause-theorem : goal.returns-clause-theorem
returns-clause-theorem g c = body_is_read g.K.Kind.alphabet
