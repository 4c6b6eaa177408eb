-- The words from i on are moved.
use Rattle.std.proofs.Common.{◌≡◌, ◌<◌}
use Rattle.rows.proofs.Written.{shifts, Written}
use Rattle.rows.proofs.Row.shift.Given as goal

abbrev pub invariant-loop-i : goal.invariant-loop-i
invariant-loop-i l =
    (l.self.used ≡ l.initial.self.used) × (l.far < l.i) × Written l.fn.self l.self.words l.i l.initial.self.used (shifts l.fn.self l.by)
