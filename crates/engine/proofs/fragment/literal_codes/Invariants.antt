use Rattle.std.proofs.Common.{◌≡◌, ◌++◌, drop}
use Rattle.engine.specs.Compiling.{part_codes}
use Rattle.engine.proofs.fragment.literal_codes.Given as goal

-- the codes so far and those of the parts that are left are all
abbrev pub invariant-loop-placed : goal.invariant-loop-placed
invariant-loop-placed l =
    l.codes.items ++ part_codes (drop l.placed-index l.parts) ≡ part_codes l.parts
