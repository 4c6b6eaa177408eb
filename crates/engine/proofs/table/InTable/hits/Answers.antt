use Rattle.std.proofs.Common.{sym, ap, ◌∙◌, subst}
use Rattle.patterns.specs.Fragments.{bodies}
use Rattle.patterns.specs.Patterns.{hits}
use Rattle.patterns.proofs.Decisions.{hits_exactly}
use Rattle.patterns.specs.Codes.{codes_of}
use Rattle.engine.specs.Said.{HoldsAt}
use Rattle.engine.specs.Tables.{at_slots, StandsIn}
use Rattle.engine.proofs.Shows.{holds_oriented}
use Rattle.engine.proofs.table.InTable.hits.Goals as goal

pub returns-clause-decision : goal.returns-clause-decision
returns-clause-decision g c stands =
    let s = c.self.inside in
    let table = c.args.table.now in
    let holds = holds_oriented s.oriented (at_slots table s.slots.items) (subst (λ v. StandsIn table v) (sym c.self.view_is) stands).holds in
    c.found.ensures (subst (λ l. HoldsAt s.oriented (at_slots table l)) (sym c.as_slice.ensures.value) holds)
    ∙ ap (λ v. hits v.said.reference (bodies v.said.items) (codes_of g.K.Kind.alphabet (g.R.Reading.elements c.args.reading.now))) c.self.view_is

pub returns-clause-placement : goal.returns-clause-placement
returns-clause-placement g c stands =
    let said = c.args.self.now.said in
    let exact = hits_exactly said.reference (bodies said.items) (codes_of g.K.Kind.alphabet (g.R.Reading.elements c.args.reading.now)) in
    let is = returns-clause-decision g c stands in
    (λ y. exact.0 (sym is ∙ y), λ p. is ∙ exact.1 p)
