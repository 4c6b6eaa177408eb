use Rattle.std.proofs.Common.{◌≡◌, ◌-◌, true, [], ◌∷◌, get_or, take, drop, sym, ap, ◌∙◌, subst}
use Rattle.std.proofs.lemmas.List.{take_all, take-append-drop, take_more}
use Rattle.patterns.specs.Fragments.{bodies}
use Rattle.patterns.specs.Codes.{codes_of}
use Rattle.engine.specs.Finding.{Reached}
use Rattle.engine.specs.Stored.{item_of, items, all_parts_within}
use Rattle.engine.specs.declared.pattern.Part.TheVariants as part
use Rattle.engine.specs.declared.pattern.PlacedPart.{PlacedPart}
use Rattle.engine.proofs.Lengths.{part_at_within, parts_drop_within, parts_take_within}
use Rattle.engine.proofs.Reaching.{row_none, row_more, row_stops, bodies_append, reached_held}
use Rattle.engine.proofs.reach.reach.Goals as goal

pub loop-placed-init : goal.loop-placed-init
loop-placed-init g c = row_none (codes_of g.R.Element.Kind.alphabet (g.R.Reading.elements c.args.reading.now)) c.new-row.result c.insert.new.self c.new-row.ensures c.insert.ensures

pub returns-then-is_empty : goal.returns-then-is_empty
returns-then-is_empty g c =
    let pattern = c.args.pattern.now in
    let all = codes_of g.R.Element.Kind.alphabet (g.R.Reading.elements c.args.reading.now) in
    let codes = pattern.codes.items in
    let runs = pattern.runs.items in
    let slice = c.as_slice.result.now in
    let ps = take (c.args.to - c.args.from) (drop c.args.from slice) in
    let i = c.loop-placed.placed-index in
    reached_held pattern c.args.from c.args.to slice c.as_slice.ensures.value all c.loop-placed.row
    (subst (λ is. Reached is all c.loop-placed.row) (sym (bodies_append codes runs (take i ps) (drop i ps)) ∙ ap (λ l. bodies (items codes runs l)) (take-append-drop i ps))
    (row_stops (bodies (items codes runs (take i ps))) (bodies (items codes runs (drop i ps))) all c.loop-placed.row c.loop-placed.invariant c.if-is_empty.ensures))

pub pass_part-row-requires : goal.pass_part-row-requires
pass_part-row-requires g c =
    let pattern = c.args.pattern.now in
    let codes = pattern.codes.items in
    let runs = pattern.runs.items in
    let from = c.args.from in
    let n = c.args.to - from in
    part_at_within codes runs (take n (drop from c.as_slice.result.now)) c.loop-placed.placed-index (record { place = 0; part = part.Literal 0 })
    (subst (λ l. all_parts_within codes runs (take n (drop from l)) ≡ true) (sym c.as_slice.ensures.value)
    (parts_take_within codes runs n (drop from pattern.parts.items) (parts_drop_within codes runs from pattern.parts.items pattern.parts_within)))
    c.loop-placed-test.true

pub loop-placed-preserved : goal.loop-placed-preserved
loop-placed-preserved g c =
    let pattern = c.args.pattern.now in
    let all = codes_of g.R.Element.Kind.alphabet (g.R.Reading.elements c.args.reading.now) in
    let codes = pattern.codes.items in
    let runs = pattern.runs.items in
    let ps = take (c.args.to - c.args.from) (drop c.args.from c.as_slice.result.now) in
    let i = c.loop-placed.placed-index in
    let d : PlacedPart = record { place = 0; part = part.Literal 0 } in
    subst (λ is. Reached is all c.pass_part-row.result) (sym (ap (λ l. bodies (items codes runs l)) (take_more ps i d c.loop-placed-test.true) ∙ bodies_append codes runs (take i ps) (get_or ps i d ∷ [])))
    (row_more (bodies (items codes runs (take i ps))) (item_of codes runs (get_or ps i d).part) all c.loop-placed.row c.pass_part-row.result c.loop-placed.invariant c.pass_part-row.ensures)

pub returns-after-loop-placed : goal.returns-after-loop-placed
returns-after-loop-placed g c =
    let pattern = c.args.pattern.now in
    let all = codes_of g.R.Element.Kind.alphabet (g.R.Reading.elements c.args.reading.now) in
    let slice = c.as_slice.result.now in
    let ps = take (c.args.to - c.args.from) (drop c.args.from slice) in
    reached_held pattern c.args.from c.args.to slice c.as_slice.ensures.value all c.loop-placed.row
    (subst (λ l. Reached (bodies (items pattern.codes.items pattern.runs.items l)) all c.loop-placed.row) (take_all c.loop-placed.placed-index ps c.loop-placed-test.false) c.loop-placed.invariant)
