-- The words before i have taken on those of the other row.
use Rattle.std.proofs.Common.{◌≡◌, max}
use Rattle.rows.proofs.Written.{united, Written}
use Rattle.rows.proofs.Row.union.Given as goal

abbrev pub invariant-loop-i : goal.invariant-loop-i
invariant-loop-i l = (l.self.used ≡ max l.fn.self.used l.other.used) × Written l.fn.self l.self.words 0 l.i (united l.fn.self l.other)
