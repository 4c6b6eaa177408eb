use Rattle.patterns.proofs.Backs.{found_from_back}
use Rattle.patterns.proofs.theorems.found_from_back.Goals as goal

pub returns-clause-theorem : goal.returns-clause-theorem
returns-clause-theorem c = found_from_back
