use Rattle.std.proofs.Common.{rules, tests, ◌≡◌, ℕ, Iter, ◌+◌, refl, sym, ap, ◌∙◌, arith}
use lib.ListN.{length-map}
use Rattle.std.specs.Cmp.Lexicographic.{slice_cmp}
use Rattle.std.specs.Iterator.Adapters.{copied_source, rev_source}
use Rattle.std.specs.List.{slice_get}
use Rattle.std.specs.declared.iter.Copied.{Copied}
use Rattle.std.specs.declared.iter.Rev.{Rev}
use Rattle.std.specs.Ordering.{nat_cmp}
use Rattle.std.specs.Slice.Iter.{iter_rest}
use Rattle.std.proofs.lemmas.Iterator.{YieldsList-from_range, YieldsList-from_slice}
use Rattle.std.proofs.lemmas.Iterator.Adapters.{YieldsList-from_rev_slice}
use Rattle.std.proofs.lemmas.Iterator.Consumers.{YieldsList-from_copied, YieldsList-from_filter_map}
use Rattle.std.proofs.lemmas.Iterator.Search.{cmp_from_yields_List}
use Rattle.patterns.specs.Patterns.{compared}
use Rattle.patterns.specs.declared.direction.Direction.TheVariants.{LastOn}
use Rattle.patterns.specs.Search.{stretch}
use Rattle.patterns.specs.Codes.{codes_of}
use Rattle.engine.proofs.Comparing.{compared_first, compared_last, yields_rev_range}
use Rattle.engine.proofs.reach.compare.Goals as goal

pub returns-in-FirstOn : goal.returns-in-FirstOn
returns-in-FirstOn g c =
    let all = g.R.Reading.elements c.args.reading.now in
    let xs = codes_of g.R.Element.Kind.alphabet all in
    let many = length-map all g.R.Element.Kind.alphabet.code in
    cmp_from_yields_List {U = Copied (Iter ℕ)} (λ s it. it ≡ s) c.copied.result nat_cmp _ c.cmp.ensures.ran
    (YieldsList-from_filter_map _ (slice_get xs) (YieldsList-from_range c.args.at (c.args.at + c.args.len) c.args.len (c.filter_map.ensures.source) (omega arith)) c.filter_map.ensures.closure (λ x r q k. search (rules, tests)))
    (λ it b. YieldsList-from_copied (YieldsList-from_slice c.args.run.now (ap (λ i. iter_rest (copied_source i)) {x = it} {y = c.copied.result} b ∙ ap iter_rest c.copied.ensures.source ∙ c.iter.ensures.rest)))
    (λ x y. refl)
    ∙ ap (λ ys. slice_cmp nat_cmp ys c.args.run.now) (compared_first xs c.args.at c.args.len (omega arith))
    ∙ (λ k. slice_cmp nat_cmp (compared (sym c.in-FirstOn.is k) (stretch xs c.args.at (c.args.at + c.args.len))) (compared (sym c.in-FirstOn.is k) c.args.run.now))

pub returns-in-LastOn : goal.returns-in-LastOn
returns-in-LastOn g c =
    let all = g.R.Reading.elements c.args.reading.now in
    let xs = codes_of g.R.Element.Kind.alphabet all in
    let many = length-map all g.R.Element.Kind.alphabet.code in
    cmp_from_yields_List {U = Copied (Rev (Iter ℕ))} (λ s it. it ≡ s) c.copied-in-LastOn.result nat_cmp _ c.cmp-in-LastOn.ensures.ran
    (YieldsList-from_filter_map _ (slice_get xs) (yields_rev_range c.args.at c.args.len (ap rev_source c.filter_map-in-LastOn.ensures.source ∙ c.rev.ensures.source)) c.filter_map-in-LastOn.ensures.closure (λ x r q k. search (rules, tests)))
    (λ it b. YieldsList-from_copied (YieldsList-from_rev_slice c.args.run.now (ap (λ i. iter_rest (rev_source (copied_source i))) {x = it} {y = c.copied-in-LastOn.result} b ∙ ap (λ i. iter_rest (rev_source i)) c.copied-in-LastOn.ensures.source ∙ ap iter_rest c.rev-in-LastOn.ensures.source ∙ c.iter-in-LastOn.ensures.rest)))
    (λ x y. refl)
    ∙ ap (λ ys. slice_cmp nat_cmp ys (compared LastOn c.args.run.now)) (compared_last xs c.args.at c.args.len (omega arith))
    ∙ (λ k. slice_cmp nat_cmp (compared (sym c.in-LastOn.is k) (stretch xs c.args.at (c.args.at + c.args.len))) (compared (sym c.in-LastOn.is k) c.args.run.now))
