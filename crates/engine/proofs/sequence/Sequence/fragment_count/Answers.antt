use Rattle.std.proofs.Common.{length, ap, ◌∙◌}
use Rattle.patterns.specs.Sequences.{parts_said}
use Rattle.engine.proofs.Shows.{counted}
use Rattle.engine.proofs.sequence.Sequence.fragment_count.Goals as goal

pub returns-clause-value : goal.returns-clause-value
returns-clause-value g c =
    let s = c.self.inside in
    c.len.ensures.value ∙ counted s.oriented s.fragments.items c.self.invariant ∙ ap (λ v. length (parts_said v)) c.self.view_is
