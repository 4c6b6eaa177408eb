use Rattle.patterns.proofs.Searches.{ends_least}
use Rattle.patterns.proofs.theorems.ends_least.Goals as goal

pub returns-clause-theorem : goal.returns-clause-theorem
returns-clause-theorem c = ends_least
