use Rattle.std.proofs.Common.{rules, tests, ◌≡◌, ◌+◌, length, drop, sym, subst, arith}
use lib.ListN.{length-map}
use Rattle.patterns.specs.Codes.{codes_of}
use Rattle.engine.specs.Finding.{Reached, Start, part_of}
use Rattle.engine.specs.Reading.{held}
use Rattle.engine.specs.Stored.{placed_of}
use Rattle.std.proofs.lemmas.Bool.{both_ways}
use Rattle.engine.proofs.Finding.{on_some, anchor_inside, through_no_start, through_first}
use Rattle.engine.proofs.Beside.{codes_before, codes_behind}
use Rattle.engine.proofs.find.end_through.Goals as goal

pub returns-then-not-reached : goal.returns-then-not-reached
returns-then-not-reached g c a sides stands =
    let pattern = c.args.sequence.now.pattern in
    let mirror = c.args.sequence.now.mirror in
    let alphabet = g.R.Element.Kind.alphabet in
    let elements = g.R.Reading.elements c.args.reading.now in
    let xs = codes_of alphabet elements in
    let m = c.saturating_sub.result in
    let n = c.saturating_sub-first.result in
    let size : length (held mirror) ≡ length mirror.parts.items = length-map mirror.parts.items (placed_of mirror.codes.items mirror.runs.items) in
    let before = subst (λ ys. Reached (part_of (held mirror) m n) ys c.reach-before.result) (codes_before alphabet elements c.args.place) c.reach-before.ensures in
    through_no_start (held pattern) (held mirror) c.args.fragment.now a sides xs c.args.place stands c.args.starts
    c.reach-before.result m n (omega arith) (omega arith) before
    (λ s. both_ways _ c.if-not-reached.true (c.reached.ensures.1 (subst (λ p. Start c.reach-before.result p c.args.starts) (sym c.from-3.ensures) s)))

pub returns : goal.returns
returns g c a sides stands =
    let pattern = c.args.sequence.now.pattern in
    let mirror = c.args.sequence.now.mirror in
    let f = c.args.fragment.now in
    let alphabet = g.R.Element.Kind.alphabet in
    let elements = g.R.Reading.elements c.args.reading.now in
    let xs = codes_of alphabet elements in
    let m = c.saturating_sub.result in
    let n = c.saturating_sub-first.result in
    let size : length (held mirror) ≡ length mirror.parts.items = length-map mirror.parts.items (placed_of mirror.codes.items mirror.runs.items) in
    let before = subst (λ ys. Reached (part_of (held mirror) m n) ys c.reach-before.result) (codes_before alphabet elements c.args.place) c.reach-before.ensures in
    let from : c.from-5.result + c.len-len.result ≡ f.anchor + length f.codes.items = (λ k. c.from-5.ensures k + c.len-len.ensures.value k) in
    let reached = subst (λ is. Reached is (codes_of alphabet (drop c.in_ok-base.base elements)) c.reach-behind.result) (λ k. part_of (held pattern) (from k) (c.from-6.ensures k)) c.reach-behind.ensures in
    let behind = subst (λ ys. Reached (part_of (held pattern) (f.anchor + length f.codes.items) f.end) ys c.reach-behind.result) (codes_behind alphabet elements c.in_ok-base.base) reached in
    let end = c.in_ok-base.ensures in
    through_first (held pattern) (held mirror) f a sides xs c.args.place stands c.args.starts
    c.reach-before.result c.reach-behind.result m n c.in_ok-base.base (omega arith) (omega arith) (omega arith)
    before
    (subst (λ p. Start c.reach-before.result p c.args.starts) c.from-3.ensures (c.reached.ensures.0 c.if-not-reached.false))
    behind c.first_from.result _ c.first_from.ensures (on_some _ _ _ c.first_from.result (λ k h. search (rules, tests)) c.map.ensures.cases)

pub returns-in_err-base : goal.returns-in_err-base
returns-in_err-base g c a sides stands =
    let xs = codes_of g.R.Element.Kind.alphabet (g.R.Reading.elements c.args.reading.now) in
    let inside = anchor_inside (held c.args.sequence.now.pattern) (held c.args.sequence.now.mirror) c.args.fragment.now a sides xs c.args.place stands c.args.starts in
    let few = g.R.Reading.fits c.args.reading.now in
    let many = length-map (g.R.Reading.elements c.args.reading.now) g.R.Element.Kind.alphabet.code in
    absurd (omega (arith, c.in_err-base.ensures))
