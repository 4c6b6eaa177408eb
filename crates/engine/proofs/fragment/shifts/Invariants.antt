use Rattle.std.proofs.Common.{◌≡◌, ℕ, ◌+◌, ◌<◌, length}
use Rattle.patterns.specs.Fragments.{shift}
use Rattle.engine.proofs.Shifting.{Becomes}
use Rattle.engine.proofs.fragment.shifts.Given as goal

-- the distances that are left count down over the codes that are left, which make the table that of the shifts
abbrev pub invariant-loop-code : goal.invariant-loop-code
invariant-loop-code l =
    let codes = l.code-iterator.a.rest.now in
    (length l.table ≡ 256) × (l.code-iterator.b.iter.start ≡ 1) × (l.code-iterator.b.iter.end ≡ length codes + 1)
    × ((index : ℕ) → index < 256 → Becomes l.table codes (shift l.codes index) index)
