use Rattle.lexer.proofs.Texts.{tokens_are_the_text}
use Rattle.lexer.proofs.theorems.tokens_are_the_text.Goals as goal

pub returns-clause-theorem : goal.returns-clause-theorem
returns-clause-theorem g c = tokens_are_the_text g.K.Kind.alphabet g.met.K.Kind.lawful
