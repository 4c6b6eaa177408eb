use Rattle.std.proofs.Common.{◌≡◌, ℕ, ◌+◌, ◌<◌, ◌⊎◌, length, ap, ◌∙◌, subst, arith}
use lib.ListN.{length-map}
use Rattle.std.proofs.lemmas.Bool.{both_ways}
use Rattle.patterns.specs.Fragments.{anchor, bodies}
use Rattle.patterns.specs.Spans.{NoLess}
use Rattle.patterns.specs.Codes.{codes_of}
use Rattle.engine.specs.Stored.{placed_of}
use Rattle.engine.proofs.Least.{sides, bounds_of, useful_far, best_begins, none_begins, best_ends, next_before, best_next, best_stays, none_through}
use Rattle.engine.proofs.Openings.{unlooked}
use Rattle.engine.proofs.Smallest.{smaller_ends}
use Rattle.engine.proofs.find.least_end.Goals as goal
use Rattle.engine.proofs.find.least_end.Goals.{then-not-excludes, else-not-excludes}

pub returns-then-not-is_bounded : goal.returns-then-not-is_bounded
returns-then-not-is_bounded g c f s =
    let pattern = c.args.sequence.now.pattern in
    let xs = codes_of g.R.Element.Kind.alphabet (g.R.Reading.elements c.args.reading.now) in
    let stored = length-map pattern.parts.items (placed_of pattern.codes.items pattern.runs.items) in
    let bounds = bounds_of c.args.sequence.now c.args.fragment.now f s c.args.starts xs (length pattern.parts.items) (omega arith) in
    absurd (both_ways _ c.if-not-is_bounded.true (c.is_bounded.ensures.1 bounds))

pub returns-in_err-place : goal.returns-in_err-place
returns-in_err-place g c f s =
    let all = g.R.Reading.elements c.args.reading.now in
    let few = g.R.Reading.fits c.args.reading.now in
    let many = length-map (g.R.Reading.elements c.args.reading.now) g.R.Element.Kind.alphabet.code in
    c.from_residual.ensures
    ∙ none_begins c.args.sequence.now c.args.fragment.now f s c.args.starts (codes_of g.R.Element.Kind.alphabet all) (omega arith) c.in_err-place.ensures

pub loop-fit-init : goal.loop-fit-init
loop-fit-init g c = (
  λ f s.
      let few = g.R.Reading.fits c.args.reading.now in
      let many = length-map (g.R.Reading.elements c.args.reading.now) g.R.Element.Kind.alphabet.code in
      best_begins c.args.sequence.now c.args.fragment.now f s c.args.starts
      (codes_of g.R.Element.Kind.alphabet (g.R.Reading.elements c.args.reading.now)) c.of-opening.result c.of-opening.ensures.opening
      c.in_ok-place.place c.last_place-last.result c.in_ok-place.ensures c.last_place-last.ensures (omega arith),
  c.of-opening.ensures.opening,
  unlooked c.of-opening.result (codes_of g.R.Element.Kind.alphabet (g.R.Reading.elements c.args.reading.now)) c.of-opening.ensures.after c.of-opening.ensures.next,
  omega (arith, c.of-opening.ensures.next),
)

pub returns-in_err-place-2 : goal.returns-in_err-place-2
returns-in_err-place-2 g c f s =
    let xs = codes_of g.R.Element.Kind.alphabet (g.R.Reading.elements c.args.reading.now) in
    let codes = c.as_slice-codes.ensures.value in
    let few = g.R.Reading.fits c.args.reading.now in
    let many = length-map (g.R.Reading.elements c.args.reading.now) g.R.Element.Kind.alphabet.code in
    let before = next_before c.args.sequence.now c.args.fragment.now f s c.args.starts xs _ codes c.loop-fit.place c.loop-fit.last c.next_fit_up_to.result c.next_fit_up_to.ensures.first c.in-Some.fit c.in-Some.is (omega arith) in
    absurd (omega (arith, c.in_err-place-2.ensures))

pub loop-fit-preserved : goal.loop-fit-preserved
loop-fit-preserved g c =
    let sequence = c.args.sequence.now in
    let fragment = c.args.fragment.now in
    let starts = c.args.starts in
    let xs = codes_of g.R.Element.Kind.alphabet (g.R.Reading.elements c.args.reading.now) in
    let codes = c.as_slice-codes.ensures.value in
    let long : length c.as_slice-codes.result.now ≡ length fragment.codes.items = ap length codes in
    let known = c.loop-fit.invariant.1 in
    let on = c.in-Some.ensures.on in (
      λ f s.
          elim c.if-not-excludes.branch [
            | then-not-excludes w ↦
                let narrow = λ (q : ℕ) (past : w.last_useful-last.result < q). subst (λ n. (c.loop-fit.last < q) ⊎ NoLess w.smaller-best.result (q + n)) long (useful_far c.loop-fit.last w.smaller-best.result _ q (subst (λ n. n < q) w.last_useful-last.ensures past)) in
                rw (w.last-is, w.best-is)
                (best_next sequence fragment f s starts xs _ codes c.loop-fit.place c.loop-fit.last c.next_fit_up_to.result c.next_fit_up_to.ensures.first
                c.in-Some.fit c.in-Some.is c.loop-fit.best w.end_through.result w.smaller-best.result c.in_ok-place-2.place w.last_useful-last.result
                (λ y. w.end_through.ensures (anchor sequence.reference (bodies f.body)) (sides sequence fragment f s starts xs) y)
                (w.smaller-best.ensures ∙ smaller_ends c.loop-fit.best w.end_through.result) c.in_ok-place-2.ensures.1 narrow (c.loop-fit.invariant.0 f s))
            | else-not-excludes w ↦
                rw (w.last-is, w.best-is)
                (best_stays sequence fragment f s starts xs _ codes c.loop-fit.place c.loop-fit.last c.next_fit_up_to.result c.next_fit_up_to.ensures.first
                c.in-Some.fit c.in-Some.is c.loop-fit.best c.in_ok-place-2.place
                (none_through sequence fragment f s starts xs c.loop-fit.opening known c.in-Some.fit (c.excludes.ensures.excluded.0 w.if-not-excludes.false))
                c.in_ok-place-2.ensures.1 (c.loop-fit.invariant.0 f s))
          ],
      record {
        code = c.excludes.ensures.code ∙ known.code;
        far = c.excludes.ensures.far ∙ known.far;
      },
      c.excludes.ensures.known,
      omega (arith, c.excludes.ensures.next, c.in_ok-place-2.ensures.1),
    )

pub returns : goal.returns
returns g c f s =
    let xs = codes_of g.R.Element.Kind.alphabet (g.R.Reading.elements c.args.reading.now) in
    let codes = c.as_slice-codes.ensures.value in
    best_ends c.args.sequence.now c.args.fragment.now f s c.args.starts xs _ codes c.loop-fit.place c.loop-fit.last c.next_fit_up_to.result c.next_fit_up_to.ensures.first c.loop-fit.best c.in_default.is (c.loop-fit.invariant.0 f s)
