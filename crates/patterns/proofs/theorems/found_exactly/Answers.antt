use Rattle.patterns.proofs.Searches.{found_exactly}
use Rattle.patterns.proofs.theorems.found_exactly.Goals as goal

pub returns-clause-theorem : goal.returns-clause-theorem
returns-clause-theorem c = found_exactly
