use Rattle.std.proofs.Common.{◌≡◌, ◌==◌, length, ok_or, Some, None, Err, sym, refl, ap, ◌∙◌}
use Rattle.std.proofs.lemmas.Option.{slice_get_read}
use Rattle.std.specs.List.{position, slice_get}
use Rattle.faults.specs.Faults.{outside}
use Rattle.faults.specs.declared.fault.Cause.TheVariants.{Missing}
use Rattle.records.specs.Calls.{showing}
use Rattle.catalogue.specs.Hitting.{numbers_in}
use Rattle.catalogue.specs.Standing.{signature_pair}
use Rattle.catalogue.proofs.Asking.{shown_nowhere, shown_at}
use Rattle.catalogue.proofs.Composing.{found_entry}
use Rattle.catalogue.proofs.catalogue.Catalogue.show.Goals as goal

pub returns-in_default : goal.returns-in_default
returns-in_default g c =
    let a = g.K.Kind.alphabet in
    let entries = c.self.inside.signatures.items in
    let none : position (λ s. (signature_pair s).0 == c.args.signature) entries ≡ None = sym (c.in_default.ensures ∙ ap (position (λ s. (signature_pair s).0 == c.args.signature)) c.deref.ensures.value) in
    ap (λ f. Err f) (c.outside-missing.ensures ∙ ap (outside Missing) c.from.ensures)
    ∙ sym (shown_nowhere a c.args.sequence c.args.fragment c.args.index entries c.self.inside.formats.items c.self.inside.table c.self.invariant.0.signatures_hold c.args.signature none)
    ∙ ap (λ b. showing a b c.args.signature c.args.sequence c.args.fragment c.args.index) c.self.view_is

pub returns : goal.returns
returns g c =
    let a = g.K.Kind.alphabet in
    let entries = c.self.inside.signatures.items in
    let place = c.in-Some.place in
    let e = c.index.result.now in
    let found : position (λ s. (signature_pair s).0 == c.args.signature) entries ≡ Some place = sym (c.in-Some.ensures ∙ ap (position (λ s. (signature_pair s).0 == c.args.signature)) c.deref.ensures.value) in
    let within = (found_entry signature_pair entries c.args.signature place found).1 in
    let here : slice_get entries place ≡ Some e = slice_get_read entries (length entries) place e refl within c.index.ensures in
    c.ok_or.ensures.value ∙ ap (λ o. ok_or o c.outside-missing.result) c.numbers.ensures
    ∙ ap (ok_or (numbers_in e.sequences.items c.args.sequence c.args.fragment c.args.index)) (c.outside-missing.ensures ∙ ap (outside Missing) c.from.ensures)
    ∙ sym (shown_at a c.args.sequence c.args.fragment c.args.index entries c.self.inside.formats.items c.self.inside.table c.self.invariant.0.signatures_hold c.args.signature place e found here)
    ∙ ap (λ b. showing a b c.args.signature c.args.sequence c.args.fragment c.args.index) c.self.view_is
