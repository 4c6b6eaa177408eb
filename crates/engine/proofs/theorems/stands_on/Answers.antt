use Rattle.engine.proofs.Tables.{stands_on}
use Rattle.engine.proofs.theorems.stands_on.Goals as goal

pub returns-clause-theorem : goal.returns-clause-theorem
returns-clause-theorem c = stands_on
