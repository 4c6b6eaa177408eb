use Rattle.patterns.proofs.Decisions.{hits_exactly}
use Rattle.patterns.proofs.theorems.hits_exactly.Goals as goal

pub returns-clause-theorem : goal.returns-clause-theorem
returns-clause-theorem c = hits_exactly
