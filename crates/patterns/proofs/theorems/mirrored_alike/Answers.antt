use Rattle.patterns.proofs.Mirrors.{mirrored_alike}
use Rattle.patterns.proofs.theorems.mirrored_alike.Goals as goal

pub returns-clause-theorem : goal.returns-clause-theorem
returns-clause-theorem c = mirrored_alike
