-- What stands before the anchor is a part of the pattern's items.
use Rattle.std.proofs.Common.{◌≡◌, ◌-◌, min, take, drop, ap, ◌∙◌, subst, sym}
use Rattle.patterns.specs.Fragments.{bodies}
use Rattle.patterns.specs.Spans.{sum_span}
use Rattle.engine.specs.Finding.{part_of}
use Rattle.engine.specs.Openings.{opening_code}
use Rattle.engine.specs.Parts.{items_in, HasParts}
use Rattle.engine.specs.Reading.{held}
use Rattle.engine.proofs.Assembling.{items_between}
use Rattle.engine.proofs.Lengths.{parts_take_within, parts_drop_within}
use Rattle.engine.proofs.opening.Opening.of.Goals as goal

pub far_of-requires : goal.far_of-requires
far_of-requires c =
    let pattern = c.args.pattern.now in
    let codes = pattern.codes.items in
    let runs = pattern.runs.items in
    let first = c.from.result in
    let slice = c.deref.result.now in
    let within = subst (HasParts pattern) (sym c.deref.ensures.0) pattern.parts_within in
    parts_take_within codes runs (c.from-2.result - first) (drop first slice) (parts_drop_within codes runs first slice within)

pub returns-clause-opening : goal.returns-clause-opening
returns-clause-opening c =
    let pattern = c.args.pattern.now in
    let codes = pattern.codes.items in
    let runs = pattern.runs.items in
    let first = c.from.result in
    let n = c.from-2.result - first in
    let front : items_in pattern (take n (drop first c.deref.result.now)) ≡ part_of (held pattern) c.args.fragment.now.first c.args.fragment.now.anchor =
    ap (λ ps. items_in pattern (take n (drop first ps))) c.deref.ensures.0 ∙ ap bodies (items_between codes runs pattern.parts.items first n) ∙ (λ k. part_of (held pattern) (c.from.ensures k) (c.from-2.ensures k)) in
    record {
      code = c.first_code.ensures pattern ∙ ap opening_code front;
      far = c.far_of.ensures ∙ ap (λ is. min 1023 (sum_span is)) front;
    }
