use Rattle.std.proofs.Common.{◌++◌, sym, ap, ◌∙◌}
use Rattle.std.specs.List.{flat_map}
use Rattle.engine.specs.Tables.{cleared}
use Rattle.catalogue.specs.Standing.{slots_in}
use Rattle.catalogue.proofs.Withdrawn.{cleared_append}
use Rattle.catalogue.proofs.signatures.clear_all.Goals as goal

pub loop-sequence-preserved-in-Some-sequence : goal.loop-sequence-preserved-in-Some-sequence
loop-sequence-preserved-in-Some-sequence g c =
    let t = c.loop-sequence.table in
    let v = c.in-Some-sequence.sequence in
    let rest = flat_map slots_in c.next.new.self in
    ap (λ u. cleared u rest) c.clear.ensures ∙ sym (cleared_append t v.slots rest)
    ∙ ap (λ o. cleared t (slots_in o ++ rest)) (sym c.in-Some-sequence.is)
    ∙ ap (λ l. cleared t (flat_map slots_in l)) (sym c.in-Some.ensures.steps)
    ∙ c.loop-sequence.invariant
