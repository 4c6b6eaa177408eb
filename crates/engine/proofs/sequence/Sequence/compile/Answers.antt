use Rattle.engine.proofs.Searching.{limits_of, literals_of}
use Rattle.engine.specs.declared.oriented.Oriented.{Oriented}
use Rattle.engine.proofs.sequence.Sequence.compile.Goals as goal

pub fragments-requires : goal.fragments-requires
fragments-requires g c =
    let oriented : Oriented = record { reference = c.args.reference; pattern = c.read_oriented.new.self; mirror = c.read_oriented.new.mirror; accepted = ∣ c.in_ok-read_oriented.ensures.accepted ∣₁ } in
    record { within = limits_of oriented; few = literals_of oriented; empty = c.new-fragments.ensures }
