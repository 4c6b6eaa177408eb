-- The words before i have been asked about.
use Rattle.std.proofs.Common.{◌≡◌}
use Rattle.rows.proofs.Written.{chosen, Written}
use Rattle.rows.proofs.Row.retain.Given as goal

abbrev pub invariant-loop-i : goal.invariant-loop-i
invariant-loop-i g l =
    (l.self.used ≡ l.fn.self.used) × Written l.fn.self l.self.words 0 l.i (chosen (g.Q.Question.asked l.question) l.fn.self)
