use Rattle.std.proofs.Common.{map, take}
use Rattle.patterns.specs.Patterns.{group}
use Rattle.patterns.specs.Codes.{codes_of}
use Rattle.engine.specs.Stored.{run_codes}
use Rattle.engine.specs.Reaching.{Stepped}
use Rattle.engine.proofs.reach.pass_group.Given as goal

-- the runs so far have been gone through
abbrev pub invariant-loop-run : goal.invariant-loop-run
invariant-loop-run g l =
    Stepped (group (map (run_codes l.pattern.codes.items) (take l.run-index l.runs))) l.row
    (codes_of g.R.Element.Kind.alphabet (g.R.Reading.elements l.reading)) l.all
