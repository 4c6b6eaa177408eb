use Rattle.std.proofs.Common.{◌+◌, ◌&&◌, length, sym, ap, ◌∙◌, ap₂, arith}
use lib.ListN.{length-map}
use Rattle.std.specs.Ordering.{is_ge, is_le, nat_cmp}
use Rattle.std.specs.Cmp.Lexicographic.{slice_cmp}
use Rattle.patterns.specs.Patterns.{compared}
use Rattle.patterns.specs.Search.{stretch}
use Rattle.patterns.specs.Codes.{codes_of}
use Rattle.engine.proofs.Comparing.{range_is}
use Rattle.engine.proofs.reach.RunRange.stands_at.Goals as goal
use Rattle.engine.proofs.reach.RunRange.stands_at.Goals.{then-is_ge, else-is_ge}

pub returns : goal.returns
returns g c =
    let r = c.args.self.now in
    let all = g.R.Reading.elements c.args.reading.now in
    let xs = codes_of g.R.Element.Kind.alphabet all in
    let many = length-map all g.R.Element.Kind.alphabet.code in
    let high = is_le (slice_cmp nat_cmp (compared r.direction (stretch xs c.args.at (c.args.at + length r.low.now))) (compared r.direction r.high.now)) in
    let low = c.is_ge.ensures ∙ ap is_ge c.compare.ensures in
    range_is r.direction r.inside r.low.now r.high.now xs c.args.at (omega arith) c.if-is_ge.between
    (elim c.if-is_ge.branch [
      | then-is_ge w ↦ w.between-is ∙ w.is_le-between.ensures ∙ ap₂ ◌&&◌ (sym w.if-is_ge.true ∙ low) (ap is_le w.compare-then-is_ge.ensures)
      | else-is_ge w ↦ w.between-is ∙ w.if-is_ge.false ∙ ap (λ b. b && high) (sym w.if-is_ge.false ∙ low)
    ])
