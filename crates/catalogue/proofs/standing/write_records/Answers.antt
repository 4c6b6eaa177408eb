use Rattle.std.proofs.Common.{◌≡◌, ◌+◌, ◌≤◌, map, length, take, ap, sym, ◌∙◌, arith, length-append}
use Rattle.records.specs.Calls.{record_with}
use Rattle.catalogue.specs.Writing.{over_from, records_of}
use Rattle.catalogue.proofs.Writing.{written_behind, records_more, records_within}
use Rattle.catalogue.proofs.standing.write_records.Goals as goal

pub write_record-place-requires-clause-room : goal.write_record-place-requires-clause-room
write_record-place-requires-clause-room g c =
    let within = records_within g.S.Standing.pair c.args.kind c.args.standing.now c.loop-entry.entry-index c.entry-item.result c.loop-entry-test.true c.entry-item.is in
    let body = ap length c.body.ensures.as_it_came in
    omega (arith, within, body, c.loop-entry.invariant.0, c.loop-entry.auto.buffer, c.requires)

pub loop-entry-preserved : goal.loop-entry-preserved
loop-entry-preserved g c =
    let kind = c.args.kind in
    let at = c.args.at in
    let before = records_of kind (map g.S.Standing.pair (take c.loop-entry.entry-index c.args.standing.now)) in
    let body = (g.S.Standing.pair c.entry-item.result).1 in
    let more = records_more g.S.Standing.pair kind c.args.standing.now c.loop-entry.entry-index c.entry-item.result c.loop-entry-test.true c.entry-item.is in
    let within = records_within g.S.Standing.pair kind c.args.standing.now c.loop-entry.entry-index c.entry-item.result c.loop-entry-test.true c.entry-item.is in
    let place : c.write_record-place.result ≡ at + length (records_of kind (map g.S.Standing.pair (take (c.loop-entry.entry-index + 1) c.args.standing.now))) =
    omega (arith, c.write_record-place.ensures.place, c.loop-entry.invariant.0, ap length more, length-append before (record_with kind body), ap length c.body.ensures.as_it_came) in
    let room : at + length before ≤ length c.args.buffer.now = omega (arith, within, c.requires) in
    let written = c.write_record-place.ensures.bytes ∙ ap (λ b. over_from c.loop-entry.place (record_with kind b) c.loop-entry.buffer) c.body.ensures.as_it_came in (
      place,
      written_behind at c.loop-entry.place before (record_with kind body) c.args.buffer.now c.loop-entry.buffer c.write_record-place.new.buffer room c.loop-entry.invariant.0 c.loop-entry.invariant.1 written
          ∙ ap (λ bs. over_from at bs c.args.buffer.now) (sym more),
    )
