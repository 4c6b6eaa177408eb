use Rattle.patterns.proofs.Refusals.{refuses_at_longest}
use Rattle.patterns.proofs.theorems.refuses_at_longest.Goals as goal

pub returns-clause-theorem : goal.returns-clause-theorem
returns-clause-theorem g c = refuses_at_longest g.K.Kind.alphabet g.met.K.Kind.lawful
