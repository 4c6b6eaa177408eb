use Rattle.std.proofs.Common.{sym, ap, ◌∙◌, subst}
use Rattle.std.specs.List.{slice_get}
use Rattle.engine.specs.Said.{said}
use Rattle.patterns.specs.Sequences.{shown}
use Rattle.engine.specs.Sequences.{HoldsSaid}
use Rattle.engine.proofs.Shows.{held_each, holds_said}
use Rattle.engine.proofs.sequence.Sequence.numbers.Goals as goal

pub returns : goal.returns
returns g c =
    let s = c.self.inside in
    let holds = holds_said s.oriented (slice_get s.fragments.items) (held_each s.oriented s.fragments.items c.self.invariant) in
    c.numbers.ensures (said s.oriented) (subst (λ l. HoldsSaid (said s.oriented) (slice_get l)) (sym c.as_slice.ensures.value) holds)
    ∙ ap (λ v. shown v c.args.fragment c.args.index) c.self.view_is
