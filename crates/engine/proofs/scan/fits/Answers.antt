use Rattle.std.proofs.Common.{rules, tests}
use Rattle.std.proofs.lemmas.Iterator.{cases_from_all, YieldsList-from_slice}
use Rattle.std.proofs.lemmas.Iterator.Consumers.{YieldsList-at, YieldsList-from_enumerate}
use Rattle.engine.proofs.Fits.{HasCode, stands_from_all}
use Rattle.engine.proofs.scan.fits.Goals as goal

pub returns : goal.returns
returns g c =
    let a = g.R.Element.Kind.alphabet in
    let xs = g.R.Reading.elements c.args.reading.now in
    let anchor = c.args.anchor.now in
    let place = c.args.place in
    let road = YieldsList-from_enumerate (YieldsList-at c.enumerate.ensures.source (YieldsList-from_slice anchor c.iter.ensures.rest)) c.enumerate.ensures.count in
    stands_from_all a xs anchor place _ c.requires
    (cases_from_all c.all.new.self _ _ (HasCode a xs place) (λ p. HasCode a xs place p → ⊥) c.all.ensures.ran road (λ x q k. search (rules, tests)) (λ x q k. search (rules, tests)))
