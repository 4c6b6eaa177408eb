use Rattle.records.proofs.Records.{read_is_spelled}
use Rattle.records.proofs.theorems.read_is_spelled.Goals as goal

pub returns-clause-theorem : goal.returns-clause-theorem
returns-clause-theorem g c = read_is_spelled g.K.Kind.alphabet g.met.K.Kind.lawful
