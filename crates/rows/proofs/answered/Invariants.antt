-- The bits from `bit` on have been asked about.
use Rattle.std.proofs.Common.{◌≤◌}
use Rattle.rows.proofs.Questions.{Answers}
use Rattle.rows.proofs.answered.Given as goal

abbrev pub invariant-loop-bit : goal.invariant-loop-bit
invariant-loop-bit g l = (l.least ≤ l.bit) × Answers (g.Q.Question.asked l.question) l.base l.end l.bit l.on
