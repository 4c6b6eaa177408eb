use Rattle.std.proofs.Common.{map, sym, ap, ◌∙◌, subst, arith}
use Rattle.engine.specs.Tables.{cleared}
use Rattle.records.proofs.Books.{map_remove}
use Rattle.catalogue.specs.Standing.{signature_pair, slots_of, SignaturesHold}
use Rattle.catalogue.proofs.Withdrawn.{removed_holds}
use Rattle.catalogue.proofs.signatures.withdraw.Goals as goal

pub returns-clause-pairs : goal.returns-clause-pairs
returns-clause-pairs g c =
    ap (map signature_pair) c.remove-withdrawn.ensures.items ∙ map_remove signature_pair c.args.signatures.now.items c.args.place

pub returns-clause-holds : goal.returns-clause-holds
returns-clause-holds g c =
    let a = g.K.Kind.alphabet in
    let es = c.args.signatures.now.items in
    let e = c.remove-withdrawn.result in
    let holds = removed_holds a es c.args.place e c.args.table.now (omega arith) c.remove-withdrawn.ensures.value c.requires.holds in
    subst (λ t. SignaturesHold a c.remove-withdrawn.new.self.items t) (sym c.clear_all.ensures)
    (subst (λ l. SignaturesHold a l (cleared c.args.table.now (slots_of e))) (sym c.remove-withdrawn.ensures.items) holds)
