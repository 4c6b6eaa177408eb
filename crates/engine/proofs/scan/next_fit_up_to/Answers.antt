use Rattle.std.proofs.Common.{◌≡◌, ◌+◌, ◌-◌, ◌%◌, max, length, get_or, sym, ap, refl, ◌∙◌, inl, inr, ⊎_elim, arith}
use Rattle.std.proofs.lemmas.List.{length-map}
use Rattle.std.proofs.lemmas.Bool.{cases_lt}
use Rattle.patterns.specs.Search.{first_fit}
use Rattle.patterns.specs.Codes.{codes_of}
use Rattle.engine.proofs.Fits.{code_at, code_past, found_here, found_none, found_last, found_past, moves_on, at_least_one}
use Rattle.engine.proofs.scan.next_fit_up_to.Goals as goal

pub returns-in_err-checked_sub-clause-first : goal.returns-in_err-checked_sub-clause-first
returns-in_err-checked_sub-clause-first g c table =
    let xs = g.R.Reading.elements c.args.reading.now in
    let size = length-map xs g.R.Element.Kind.alphabet.code in
    c.from_residual.ensures ∙ found_none c.args.anchor.now _ c.args.from c.args.to c.args.from refl (omega (arith, c.in_err-checked_sub.ensures))

pub returns-then-fits-clause-first : goal.returns-then-fits-clause-first
returns-then-fits-clause-first g c table =
    let xs = g.R.Reading.elements c.args.reading.now in
    found_here c.args.anchor.now (codes_of g.R.Element.Kind.alphabet xs) c.args.from c.args.to (c.loop-end.end - length c.args.anchor.now) (c.loop-end.invariant.1 table) (omega arith) (sym c.if-fits.ensures)

pub returns-in_err-beyond-clause-first : goal.returns-in_err-beyond-clause-first
returns-in_err-beyond-clause-first g c table =
    let xs = g.R.Reading.elements c.args.reading.now in
    let past = code_past g.R.Element.Kind.alphabet xs c.loop-end.end (sym c.at.ensures ∙ c.in_err-beyond.was) in
    c.from_residual-in_err-beyond.ensures
    ∙ found_last c.args.anchor.now _ c.args.from c.args.to (c.loop-end.end - length c.args.anchor.now) (c.loop-end.invariant.1 table) (sym c.if-fits.ensures) (omega (arith, c.loop-end.invariant.0))

pub loop-end-preserved : goal.loop-end-preserved
loop-end-preserved g c =
    let anchor = c.args.anchor.now in
    let xs = g.R.Reading.elements c.args.reading.now in
    let codes = codes_of g.R.Element.Kind.alphabet xs in
    let place = c.loop-end.end - length anchor in
    let ends : place + length anchor ≡ c.loop-end.end = omega (arith, c.loop-end.invariant.0) in
    let beyond = ap (λ n. get_or codes n 0) ends ∙ code_at g.R.Element.Kind.alphabet xs c.loop-end.end c.in_ok-beyond.beyond (sym c.at.ensures ∙ c.in_ok-beyond.was) ∙ sym c.code.ensures ∙ sym c.from.ensures in
    let shift = get_or c.args.shifts.now (c.from.result % 256) 0 in
    let step = c.from-in-loop-end.result + c.from-in-loop-end-2.result in
    let moved : step ≡ max shift 1 = (λ k. c.from-in-loop-end.ensures k + c.from-in-loop-end-2.ensures k) ∙ at_least_one shift in
    let next : c.loop-end.end + step - length anchor ≡ place + step = omega (arith, c.loop-end.invariant.0) in (
      omega (arith, c.loop-end.invariant.0),
      λ table.
          ap (first_fit anchor codes) next ∙ ap (λ d. first_fit anchor codes (place + d)) moved
          ∙ sym (moves_on anchor codes c.args.shifts.now place c.from.result table (sym c.if-fits.ensures) beyond)
          ∙ c.loop-end.invariant.1 table,
    )

pub returns-clause-first : goal.returns-clause-first
returns-clause-first g c table =
    let anchor = c.args.anchor.now in
    let xs = g.R.Reading.elements c.args.reading.now in
    let size = length-map xs g.R.Element.Kind.alphabet.code in
    let place = c.loop-end.end - length anchor in
    found_past anchor _ c.args.from c.args.to place (c.loop-end.invariant.1 table) (⊎_elim inl (λ within. inr (omega (arith, c.loop-end.invariant.0))) (cases_lt c.args.to place))
