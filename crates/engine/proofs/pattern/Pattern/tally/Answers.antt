use Rattle.std.proofs.Common.{◌+◌, List, get_or, drop, sym, ap, ◌∙◌, subst, arith}
use Rattle.std.proofs.lemmas.List.{at_drop_more}
use Rattle.engine.specs.Parts.{placed_in, HasParts}
use Rattle.engine.specs.Stored.{items}
use Rattle.engine.specs.Tallies.{tallied}
use Rattle.engine.specs.declared.limits.Tally.{Tally}
use Rattle.engine.specs.declared.pattern.PlacedPart.{PlacedPart}
use Rattle.engine.specs.declared.pattern.Part.TheVariants.{Literal}
use Rattle.engine.proofs.Lengths.{part_at_within}
use Rattle.engine.proofs.Tallies.{with_item_ended}
use Rattle.engine.proofs.pattern.Pattern.tally.Goals as goal

pub with_item-tally-requires : goal.with_item-tally-requires
with_item-tally-requires c =
    let p = c.args.self.now in
    let parts = c.as_slice-part-items.result.now in
    let within = subst (HasParts p) (sym c.as_slice-part-items.ensures.value) p.parts_within in
    record {
      ended = omega (arith, c.loop-part.invariant.1, c.as_slice-part-items.ensures.fits);
      inside = part_at_within p.codes.items p.runs.items parts c.loop-part.part-index _ within c.loop-part-test.true;
    }

pub loop-part-preserved : goal.loop-part-preserved
loop-part-preserved c =
    let p = c.args.self.now in
    let parts = c.as_slice-part-items.result.now in
    let i = c.loop-part.part-index in
    let on : Tally → List PlacedPart → Tally = λ t ps. tallied t (items p.codes.items p.runs.items ps) in
    let first : PlacedPart = record { place = 0; part = Literal 0 } in
    let q = placed_in p (get_or parts i first) in (
      ap (λ t. on t (drop (i + 1) parts)) c.with_item-tally.ensures
          ∙ sym (at_drop_more (on c.loop-part.tally) parts i first c.loop-part-test.true)
          ∙ c.loop-part.invariant.0,
      omega (arith, with_item_ended c.loop-part.tally q, ap (λ t. t.ended) c.with_item-tally.ensures, c.loop-part.invariant.1),
    )
