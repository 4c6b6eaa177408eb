use Rattle.std.proofs.Common.{sym, ap, ◌∙◌, subst}
use Rattle.std.specs.List.{slice_get}
use Rattle.patterns.specs.Fragments.{bodies}
use Rattle.patterns.specs.Patterns.{hits}
use Rattle.patterns.proofs.Decisions.{hits_exactly}
use Rattle.patterns.specs.Codes.{codes_of}
use Rattle.engine.specs.Said.{HoldsAt}
use Rattle.engine.proofs.Shows.{held_each}
use Rattle.engine.proofs.sequence.Sequence.hits.Goals as goal

pub returns-clause-decision : goal.returns-clause-decision
returns-clause-decision g c =
    let s = c.self.inside in
    let holds = subst (λ l. HoldsAt s.oriented (slice_get l)) (sym c.as_slice.ensures.value) (held_each s.oriented s.fragments.items c.self.invariant) in
    c.found.ensures holds
    ∙ ap (λ v. hits v.reference (bodies v.items) (codes_of g.K.Kind.alphabet (g.R.Reading.elements c.args.reading.now))) c.self.view_is

pub returns-clause-placement : goal.returns-clause-placement
returns-clause-placement g c =
    let said = c.args.self.now in
    let exact = hits_exactly said.reference (bodies said.items) (codes_of g.K.Kind.alphabet (g.R.Reading.elements c.args.reading.now)) in
    let is = returns-clause-decision g c in
    (λ y. exact.0 (sym is ∙ y), λ p. is ∙ exact.1 p)
