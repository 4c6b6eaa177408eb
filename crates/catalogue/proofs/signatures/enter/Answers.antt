use Rattle.std.proofs.Common.{◌≡◌, T, None, ltb, map, sym, ap, ◌∙◌, subst, arith}
use Rattle.std.specs.FinMap.{is_sorted}
use Rattle.std.specs.List.{count_by, insert}
use Rattle.std.specs.Ordering.{nat_cmp}
use Rattle.records.specs.Calls.{after}
use Rattle.records.specs.Taken.{signature_in}
use Rattle.catalogue.specs.Entering.{inserted, signature_refused}
use Rattle.catalogue.specs.Standing.{signature_pair, SignaturesHold}
use Rattle.catalogue.proofs.HeldSignatures.{inserted_holds}
use Rattle.catalogue.proofs.Refusing.{fresh}
use Rattle.catalogue.proofs.Changes.{inserted_pairs, rise_inserted}
use Rattle.catalogue.proofs.signatures.enter.Goals as goal

pub unreachable-requires : goal.unreachable-requires
unreachable-requires g c =
    let es = c.args.signatures.now.items in
    let s = signature_in c.args.signature.now in
    let accepted : signature_refused g.K.Kind.alphabet es s ≡ None = subst (λ l. signature_refused g.K.Kind.alphabet l s ≡ None) c.deref.ensures.value c.in_ok-sequences.ensures.accepted in
    let new = fresh g.K.Kind.alphabet es c.args.table.now c.requires.holds s accepted in
    omega (arith, new.1, c.in-Err.ensures.full)

pub returns-clause-pairs : goal.returns-clause-pairs
returns-clause-pairs g c =
    let es = c.args.signatures.now.items in
    let s = signature_in c.args.signature.now in
    let e = c.stand-standing.result in
    let accepted : signature_refused g.K.Kind.alphabet es s ≡ None = subst (λ l. signature_refused g.K.Kind.alphabet l s ≡ None) c.deref.ensures.value c.in_ok-sequences.ensures.accepted in
    let place : c.place_of-place.result ≡ count_by (λ x. ltb (signature_pair x).0 s.id) es = c.place_of-place.ensures ∙ ap (count_by (λ x. ltb (signature_pair x).0 s.id)) c.deref-2.ensures.value in
    let put = inserted_pairs signature_pair es e s.id c.args.body.now c.stand-standing.ensures.pair in
    ap (map signature_pair) c.in-Ok.ensures.items ∙ ap (λ n. map signature_pair (insert es n e)) place ∙ put
    ∙ sym (ap (λ f. after f (map signature_pair es) (inserted (map signature_pair es) s.id c.args.body.now)) accepted)

pub returns-clause-holds : goal.returns-clause-holds
returns-clause-holds g c =
    let a = g.K.Kind.alphabet in
    let es = c.args.signatures.now.items in
    let s = signature_in c.args.signature.now in
    let e = c.stand-standing.result in
    let n = c.place_of-place.result in
    let accepted : signature_refused a es s ≡ None = subst (λ l. signature_refused a l s ≡ None) c.deref.ensures.value c.in_ok-sequences.ensures.accepted in
    let new = fresh a es c.args.table.now c.requires.holds s accepted in
    let place : n ≡ count_by (λ x. ltb (signature_pair x).0 s.id) es = c.place_of-place.ensures ∙ ap (count_by (λ x. ltb (signature_pair x).0 s.id)) c.deref-2.ensures.value in
    let put = ap (λ k. map signature_pair (insert es k e)) place ∙ inserted_pairs signature_pair es e s.id c.args.body.now c.stand-standing.ensures.pair in
    let rise = subst (λ l. T (is_sorted nat_cmp l)) (sym put) (rise_inserted (map signature_pair es) s.id c.args.body.now c.requires.holds.rise new.0) in
    subst (λ l. SignaturesHold a l c.stand-standing.new.table) (sym c.in-Ok.ensures.items)
    (inserted_holds a es c.args.table.now c.stand-standing.new.table n e c.in_ok-sequences.sequences.items c.requires.holds c.stand-standing.ensures.moved c.stand-standing.ensures.held rise)
