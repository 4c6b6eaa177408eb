use Rattle.std.proofs.Common.{[], ◌∷◌, ◌++◌, sym, ap, ◌∙◌, subst, append_assoc, arith}
use Rattle.std.proofs.lemmas.List.Sums.{sum_by-cons}
use Rattle.catalogue.specs.Entering.{fragment_count, fragment_total, MovedAll}
use Rattle.catalogue.proofs.Moving.{moved_push, moved_free}
use Rattle.catalogue.proofs.signatures.move_into.Goals as goal

pub loop-sequence-preserved : goal.loop-sequence-preserved
loop-sequence-preserved g c =
    let l = c.loop-sequence in
    let s = c.in-Some.sequence in
    let before = c.args.table.now in
    let after = c.move_one.new.table in
    let put = moved_push l.yielded before l.table after l.moved.items s c.move_one.result l.invariant.1 c.move_one.ensures in (
      append_assoc l.yielded (s ∷ []) c.next.new.self ∙ ap (λ ss. l.yielded ++ ss) (sym c.in-Some.ensures.steps) ∙ l.invariant.0,
      subst (MovedAll (l.yielded ++ s ∷ []) before after) (sym c.push.ensures.items) put,
      omega (arith, l.invariant.2, ap fragment_total c.in-Some.ensures.steps, sum_by-cons fragment_count s c.next.new.self, moved_free s l.table after c.move_one.result c.move_one.ensures),
    )
