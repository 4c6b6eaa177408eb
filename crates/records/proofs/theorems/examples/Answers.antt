use Rattle.records.proofs.Examples.{examples}
use Rattle.records.proofs.theorems.examples.Goals as goal

pub returns-clause-theorem : goal.returns-clause-theorem
returns-clause-theorem c = examples
