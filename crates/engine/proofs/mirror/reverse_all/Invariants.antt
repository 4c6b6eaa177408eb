use Rattle.std.proofs.Common.{◌≡◌, take}
use Rattle.engine.proofs.mirror.reverse_all.Given as goal

-- the copy has what was passed
abbrev pub invariant-loop-x : goal.invariant-loop-x
invariant-loop-x g l = l.reversed.items ≡ take l.x-index l.x-items
