use Rattle.std.proofs.Common.{length}
use Rattle.lexer.specs.Tokens.{between_bars}
use Rattle.lexer.proofs.TokenRuns.{left_of}
use Rattle.engine.proofs.Groups.{Grouped}
use Rattle.engine.proofs.pattern.Pattern.push_group.Given as goal

-- the runs that were put there and those that are left are the group's
abbrev pub invariant-loop-rest : goal.invariant-loop-rest
invariant-loop-rest g l = Grouped g.K.Kind.alphabet l.initial.self l.self (between_bars l.group.text.now) (left_of l.rest)

abbrev pub decreases-loop-rest : goal.decreases-loop-rest
decreases-loop-rest g l = length (left_of l.rest)
