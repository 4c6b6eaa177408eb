use Rattle.std.proofs.Common.{◌≡◌, ◌+◌, ◌^◌, ◌<◌, length, None, sym, ap, ◌∙◌, subst, arith}
use Rattle.std.specs.Option.{option_copied}
use Rattle.std.proofs.lemmas.List.{length-map}
use Rattle.patterns.specs.Fragments.{bodies}
use Rattle.patterns.specs.Search.{least_end}
use Rattle.patterns.specs.Codes.{codes_of}
use Rattle.engine.proofs.Searching.{first_some, first_none, first_next, come_past, come_none, come_next, come_all, come_ninth}
use Rattle.engine.proofs.search.last_end.Goals as goal

pub returns-in_err-get : goal.returns-in_err-get
returns-in_err-get g c holds =
    let xs = codes_of g.R.Element.Kind.alphabet (g.R.Reading.elements c.args.reading.now) in
    c.from_residual.ensures
    ∙ first_some c.args.sequence.now (g.F.Fragments.at c.args.fragments.now) c.args.starts xs holds (sym c.get.ensures ∙ ap option_copied c.in_err-get.was)

pub returns-in_err-end : goal.returns-in_err-end
returns-in_err-end g c holds =
    let xs = codes_of g.R.Element.Kind.alphabet (g.R.Reading.elements c.args.reading.now) in
    c.from_residual-in_err-end.ensures
    ∙ first_none c.args.sequence.now (g.F.Fragments.at c.args.fragments.now) c.args.starts xs holds c.in_ok-get.field-0.now
    (sym c.get.ensures ∙ ap option_copied c.in_ok-get.was) (λ g' k. sym c.in_err-end.was ∙ c.least_end.ensures g' k)

pub loop-number-init : goal.loop-number-init
loop-number-init g c holds =
    let xs = codes_of g.R.Element.Kind.alphabet (g.R.Reading.elements c.args.reading.now) in
    first_next c.args.sequence.now (g.F.Fragments.at c.args.fragments.now) c.args.starts xs holds c.in_ok-get.field-0.now
    (sym c.get.ensures ∙ ap option_copied c.in_ok-get.was) c.in_ok-end.end (λ g' k. sym c.in_ok-end.was ∙ c.least_end.ensures g' k)

pub returns-in_default : goal.returns-in_default
returns-in_default g c holds =
    let xs = codes_of g.R.Element.Kind.alphabet (g.R.Reading.elements c.args.reading.now) in
    come_all c.args.sequence.now (g.F.Fragments.at c.args.fragments.now) c.args.starts xs holds c.loop-number.number c.loop-number.end (c.loop-number.invariant holds)
    (sym c.get-in-loop-number.ensures ∙ ap option_copied c.in_default.is)

pub returns-in_err-from : goal.returns-in_err-from
returns-in_err-from g c holds =
    let elements = g.R.Reading.elements c.args.reading.now in
    let xs = codes_of g.R.Element.Kind.alphabet elements in
    let size : length xs ≡ length elements = simp length-map in
    let few : length xs < 2 ^ 64 = omega (arith, g.R.Reading.fits c.args.reading.now) in
    c.from_residual-in_err-from.ensures
    ∙ come_past c.args.sequence.now (g.F.Fragments.at c.args.fragments.now) c.args.starts xs holds c.loop-number.number c.loop-number.end (c.loop-number.invariant holds)
    c.in-Some.fragment.now (sym c.get-in-loop-number.ensures ∙ ap option_copied c.in-Some.is) (subst (λ n. c.loop-number.end + n < 2 ^ 64 → ⊥) c.from.ensures c.in_err-from.ensures) few

pub returns-in_err-end-2 : goal.returns-in_err-end-2
returns-in_err-end-2 g c holds =
    let xs = codes_of g.R.Element.Kind.alphabet (g.R.Reading.elements c.args.reading.now) in
    let from = c.in_ok-from.ensures.1 ∙ ap (λ n. c.loop-number.end + n) c.from.ensures in
    c.from_residual-in_err-end-2.ensures
    ∙ come_none c.args.sequence.now (g.F.Fragments.at c.args.fragments.now) c.args.starts xs holds c.loop-number.number c.loop-number.end (c.loop-number.invariant holds)
    c.in-Some.fragment.now (sym c.get-in-loop-number.ensures ∙ ap option_copied c.in-Some.is)
    (λ g' k. sym c.in_err-end-2.was ∙ c.least_end-in-loop-number.ensures g' k ∙ ap (λ n. least_end (bodies g'.body) n None xs) from)

pub loop-number-preserved : goal.loop-number-preserved
loop-number-preserved g c holds =
    let xs = codes_of g.R.Element.Kind.alphabet (g.R.Reading.elements c.args.reading.now) in
    let from = c.in_ok-from.ensures.1 ∙ ap (λ n. c.loop-number.end + n) c.from.ensures in
    come_next c.args.sequence.now (g.F.Fragments.at c.args.fragments.now) c.args.starts xs holds c.loop-number.number c.loop-number.end (c.loop-number.invariant holds)
    c.in-Some.fragment.now (sym c.get-in-loop-number.ensures ∙ ap option_copied c.in-Some.is) c.in_ok-end-2.end
    (λ g' k. sym c.in_ok-end-2.was ∙ c.least_end-in-loop-number.ensures g' k ∙ ap (λ n. least_end (bodies g'.body) n None xs) from)

pub returns : goal.returns
returns g c holds =
    let xs = codes_of g.R.Element.Kind.alphabet (g.R.Reading.elements c.args.reading.now) in
    come_ninth c.args.sequence.now (g.F.Fragments.at c.args.fragments.now) c.args.starts xs holds c.loop-number.number c.loop-number.end (c.loop-number.invariant holds) (omega arith)
