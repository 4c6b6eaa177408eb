use Rattle.std.proofs.Common.{◌≡◌, map, take}
use Rattle.engine.proofs.mirror.turn_all.Given as goal

-- what was passed is turned
abbrev pub invariant-loop-x : goal.invariant-loop-x
invariant-loop-x g l = l.turned.items ≡ map (g.T.Turn.turned_in l.total) (take l.x-index l.x-items)
