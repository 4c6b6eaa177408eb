-- The row is moved on by each distance from 0 to `done`.
use Rattle.std.proofs.Common.{◌≡◌, ℕ, ◌+◌, ◌-◌, ◌/◌, ◌≤◌, ◌&&◌, ltb, min}
use Rattle.rows.specs.Rows.{member, some_distance}
use Rattle.rows.proofs.Row.smear.Given as goal

abbrev pub invariant-loop-done : goal.invariant-loop-done
invariant-loop-done l =
    (l.done ≤ l.reach) × (l.self.used ≡ min (l.fn.self.used + l.reach / 64 + 1) 16) × ((j : ℕ) → member l.self j ≡ (ltb j 1024 && some_distance l.fn.self 0 l.done j))

abbrev pub decreases-loop-done : goal.decreases-loop-done
decreases-loop-done l = l.reach - l.done
