use Rattle.records.proofs.Keeping.{books_stay_lawful}
use Rattle.records.proofs.theorems.books_stay_lawful.Goals as goal

pub returns-clause-theorem : goal.returns-clause-theorem
returns-clause-theorem g c = books_stay_lawful g.K.Kind.alphabet
