use Rattle.patterns.proofs.Whole.{reads_exactly}
use Rattle.patterns.proofs.theorems.reads_exactly.Goals as goal

pub returns-clause-theorem : goal.returns-clause-theorem
returns-clause-theorem g c = reads_exactly g.K.Kind.alphabet g.met.K.Kind.lawful
