use Rattle.std.proofs.Common.{◌≡◌, true, false, sym, ap, ◌∙◌, arith}
use Rattle.std.specs.Option.{is_some}
use Rattle.std.proofs.lemmas.Result.{err_from_is_err_and}
use Rattle.records.specs.Taken.{signature_in}
use Rattle.catalogue.specs.Entering.{fragment_total}
use Rattle.catalogue.proofs.Refusing.{place, taken, text, many, crowded, entered}
use Rattle.catalogue.proofs.signatures.accept.Goals as goal

pub returns-then-is_some-clause-refused : goal.returns-then-is_some-clause-refused
returns-then-is_some-clause-refused g c =
    let found : is_some (place c.args.signatures.now c.args.signature.now.id) ≡ true = ap is_some (sym c.find.ensures) ∙ sym c.is_some.ensures ∙ c.if-is_some.true in
    taken g.K.Kind.alphabet c.args.signatures.now c.args.table.now c.requires (signature_in c.args.signature.now) found ∙ cc

pub returns-in_err-compiled-clause-refused : goal.returns-in_err-compiled-clause-refused
returns-in_err-compiled-clause-refused g c =
    let new : is_some (place c.args.signatures.now c.args.signature.now.id) ≡ false = ap is_some (sym c.find.ensures) ∙ sym c.is_some.ensures ∙ c.if-is_some.false in
    let p = err_from_is_err_and c.from_residual.result c.from_residual.ensures.1 in
    rw (p.1, p.2) (text g.K.Kind.alphabet c.args.signatures.now c.args.table.now c.requires (signature_in c.args.signature.now) c.in_err-compiled.field-0.0 new c.in_err-compiled.ensures.refused)

pub returns-then-signatures-ge-MOST_SIGNATURES-clause-refused : goal.returns-then-signatures-ge-MOST_SIGNATURES-clause-refused
returns-then-signatures-ge-MOST_SIGNATURES-clause-refused g c =
    let new : is_some (place c.args.signatures.now c.args.signature.now.id) ≡ false = ap is_some (sym c.find.ensures) ∙ sym c.is_some.ensures ∙ c.if-is_some.false in
    many g.K.Kind.alphabet c.args.signatures.now c.args.table.now c.requires (signature_in c.args.signature.now) new c.in_ok-compiled.ensures.compiled.accepted (omega arith) ∙ cc

pub returns-then-free_count-count_fragments-clause-refused : goal.returns-then-free_count-count_fragments-clause-refused
returns-then-free_count-count_fragments-clause-refused g c =
    let new : is_some (place c.args.signatures.now c.args.signature.now.id) ≡ false = ap is_some (sym c.find.ensures) ∙ sym c.is_some.ensures ∙ c.if-is_some.false in
    let counted = ap fragment_total c.as_slice.ensures.value in
    crowded g.K.Kind.alphabet c.args.signatures.now c.args.table.now c.requires (signature_in c.args.signature.now) c.in_ok-compiled.compiled.items c.in_ok-compiled.ensures.compiled new (omega arith) (omega (arith, counted)) ∙ cc

pub returns-clause-accepted : goal.returns-clause-accepted
returns-clause-accepted g c =
    let new : is_some (place c.args.signatures.now c.args.signature.now.id) ≡ false = ap is_some (sym c.find.ensures) ∙ sym c.is_some.ensures ∙ c.if-is_some.false in
    let counted = ap fragment_total c.as_slice.ensures.value in
    entered g.K.Kind.alphabet c.args.signatures.now c.args.table.now c.requires (signature_in c.args.signature.now) c.in_ok-compiled.compiled.items c.in_ok-compiled.ensures.compiled new (omega arith) (omega (arith, counted))
