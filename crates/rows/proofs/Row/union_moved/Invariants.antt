-- The words from i on have taken on what is moved to them.
use Rattle.std.proofs.Common.{◌≡◌, ◌<◌}
use Rattle.rows.proofs.Written.{united_moved, Written}
use Rattle.rows.proofs.Row.union_moved.Given as goal

abbrev pub invariant-loop-i : goal.invariant-loop-i
invariant-loop-i l =
    (l.self.used ≡ l.fn.self.used) × (l.far < l.i) × Written l.fn.self l.self.words l.i l.fn.self.used (united_moved l.fn.self l.by)
