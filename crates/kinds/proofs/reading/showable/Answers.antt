use Rattle.std.proofs.Common.{◌≡◌, min, length, take, ap, ◌∙◌, arith}
use Rattle.std.proofs.lemmas.List.{take_min}
use Rattle.kinds.proofs.reading.showable.Goals as goal

pub returns-clause-front : goal.returns-clause-front
returns-clause-front g c =
    let all = c.args.items.now in
    let cut : c.min.result ≡ min 4294967295 (length all) = omega arith in
    ap (λ k. take k all) cut ∙ take_min 4294967295 all
