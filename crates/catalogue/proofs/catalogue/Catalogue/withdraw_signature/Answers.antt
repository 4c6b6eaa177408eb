use Rattle.std.proofs.Common.{◌≡◌, ◌==◌, ◌≤◌, ℕ, List, map, Some, None, Ok, Err, sym, ap, ◌∙◌, subst}
use Rattle.std.specs.FinMap as finite
use Rattle.std.specs.FinMap.{FinMap}
use Rattle.std.specs.List.{position, find}
use Rattle.std.specs.Option.{option_map}
use Rattle.std.specs.Ordering.{nat_cmp}
use Rattle.faults.specs.Faults.{outside}
use Rattle.faults.specs.declared.fault.Cause.TheVariants.{Missing, Named}
use Rattle.records.specs.Book.{Book}
use Rattle.records.specs.Calls.{unless, after, withdrawing_signature, withdrawn_signature}
use Rattle.records.specs.Entries.{Format}
use Rattle.records.specs.Refusals.{signature_kept, signature_named}
use Rattle.records.specs.Report.{among_ids}
use Rattle.records.proofs.Keeping.{books_stay_lawful}
use Rattle.catalogue.specs.Standing.{bodies, signature_pair, formats_in, book_in}
use Rattle.catalogue.proofs.Composing.{kept_missing, kept_named, gone, smallest_standing, refused_answer, refused_leaves, holds_again}
use Rattle.catalogue.proofs.catalogue.Catalogue.withdraw_signature.Given as given
use Rattle.catalogue.proofs.catalogue.Catalogue.withdraw_signature.Goals as goal

-- no signature has the id
missing : (g : given.Over) (c : goal.After-outside g) → signature_kept (book_in c.self.inside.signatures.items c.self.inside.formats.items) c.args.id ≡ Some c.outside.result
missing g c =
    let entries = c.self.inside.signatures.items in
    let none : position (λ s. (signature_pair s).0 == c.args.id) entries ≡ None = sym (c.in_default.ensures ∙ ap (position (λ s. (signature_pair s).0 == c.args.id)) c.deref.ensures.value) in
    let fault : outside Missing c.args.id ≡ c.outside.result = sym (c.outside.ensures ∙ ap (outside Missing) c.from.ensures) in
    kept_missing signature_pair entries c.self.invariant.0.signatures_hold.rise c.args.id (signature_named (book_in c.self.inside.signatures.items c.self.inside.formats.items) c.args.id) none ∙ ap (λ f. Some f) fault

pub returns-in_default-clause-answer : goal.returns-in_default-clause-answer
returns-in_default-clause-answer g c =
    subst (λ b. Err c.outside.result ≡ withdrawing_signature b c.args.id) c.self.view_is (refused_answer _ c.outside.result c.args.id (missing g c))

pub returns-in_default-clause-stands : goal.returns-in_default-clause-stands
returns-in_default-clause-stands g c =
    subst (λ b. b ≡ withdrawn_signature b c.args.id) c.self.view_is (refused_leaves _ c.outside.result _ _ (missing g c))

-- a format names it
named : (g : given.Over) (c : goal.After-outside-in-Some-first_naming g) → signature_kept (book_in c.self.inside.signatures.items c.self.inside.formats.items) c.args.id ≡ Some c.outside-in-Some-first_naming.result
named g c =
    let entries = c.self.inside.signatures.items in
    let book = book_in c.self.inside.signatures.items c.self.inside.formats.items in
    let found : position (λ s. (signature_pair s).0 == c.args.id) entries ≡ Some c.in-Some.place = sym (c.in-Some.ensures ∙ ap (position (λ s. (signature_pair s).0 == c.args.id)) c.deref.ensures.value) in
    let smallest = smallest_standing (λ f. among_ids c.args.id f.signatures) (map signature_pair c.self.inside.signatures.items) c.self.inside.formats.items c.self.invariant.0.formats_hold in
    let first = c.in-Some-first_naming.ensures ∙ ap (λ fs. option_map (λ (f : Format). f.id) (find (λ f. among_ids c.args.id f.signatures) (formats_in fs))) c.deref-2.ensures.value in
    let fault : outside Named c.in-Some-first_naming.format ≡ c.outside-in-Some-first_naming.result = sym (c.outside-in-Some-first_naming.ensures ∙ ap (outside Named) c.from-in-Some-first_naming.ensures) in
    kept_named signature_pair entries c.self.invariant.0.signatures_hold.rise c.args.id c.in-Some.place found (signature_named book c.args.id)
    ∙ ap (option_map (outside Named)) (smallest ∙ sym first) ∙ ap (λ f. Some f) fault

pub returns-in-Some-first_naming-clause-answer : goal.returns-in-Some-first_naming-clause-answer
returns-in-Some-first_naming-clause-answer g c =
    subst (λ b. Err c.outside-in-Some-first_naming.result ≡ withdrawing_signature b c.args.id) c.self.view_is (refused_answer _ c.outside-in-Some-first_naming.result c.args.id (named g c))

pub returns-in-Some-first_naming-clause-stands : goal.returns-in-Some-first_naming-clause-stands
returns-in-Some-first_naming-clause-stands g c =
    subst (λ b. b ≡ withdrawn_signature b c.args.id) c.self.view_is (refused_leaves _ c.outside-in-Some-first_naming.result _ _ (named g c))

-- no format names it
unnamed : (g : given.Over) (c : goal.After-withdraw g) → signature_kept (book_in c.self.inside.signatures.items c.self.inside.formats.items) c.args.id ≡ None
unnamed g c =
    let entries = c.self.inside.signatures.items in
    let book = book_in entries c.self.inside.formats.items in
    let found : position (λ s. (signature_pair s).0 == c.args.id) entries ≡ Some c.in-Some.place = sym (c.in-Some.ensures ∙ ap (position (λ s. (signature_pair s).0 == c.args.id)) c.deref.ensures.value) in
    let smallest = smallest_standing (λ f. among_ids c.args.id f.signatures) (map signature_pair entries) c.self.inside.formats.items c.self.invariant.0.formats_hold in
    let none = c.in_default-first_naming.ensures ∙ ap (λ fs. option_map (λ (f : Format). f.id) (find (λ f. among_ids c.args.id f.signatures) (formats_in fs))) c.deref-2.ensures.value in
    kept_named signature_pair entries c.self.invariant.0.signatures_hold.rise c.args.id c.in-Some.place found (signature_named book c.args.id)
    ∙ ap (option_map (outside Named)) (smallest ∙ sym none)

-- the book without it
without : (g : given.Over) (c : goal.After-withdraw g) → book_in c.withdraw.new.signatures.items c.self.inside.formats.items ≡ withdrawn_signature (book_in c.self.inside.signatures.items c.self.inside.formats.items) c.args.id
without g c =
    let entries = c.self.inside.signatures.items in
    let book = book_in entries c.self.inside.formats.items in
    let found : position (λ s. (signature_pair s).0 == c.args.id) entries ≡ Some c.in-Some.place = sym (c.in-Some.ensures ∙ ap (position (λ s. (signature_pair s).0 == c.args.id)) c.deref.ensures.value) in
    let left = ap bodies c.withdraw.ensures.pairs ∙ gone signature_pair entries c.self.invariant.0.signatures_hold.rise c.args.id c.in-Some.place found in
    let with_signatures = λ (m : FinMap nat_cmp (List ℕ)). let b : Book = record { signatures = m; formats = book.formats } in b in
    ap with_signatures left ∙ sym (ap (λ o. after o book (with_signatures (finite.remove book.signatures c.args.id))) (unnamed g c))

pub invariant_of-self : goal.invariant_of-self
invariant_of-self g c = (
  holds_again g.K.Kind.alphabet c.withdraw.new.signatures.items c.self.inside.formats.items c.withdraw.new.table _ c.withdraw.ensures.holds c.self.invariant.0.formats_hold (without g c)
      ((books_stay_lawful g.K.Kind.alphabet).withdrawing_signature (book_in c.self.inside.signatures.items c.self.inside.formats.items) c.args.id c.self.invariant.0.lawful),
  subst (λ n. 24 ≤ n) (sym c.withdraw.ensures.room) c.self.invariant.1,
  c.self.invariant.2,
)

pub returns-clause-answer : goal.returns-clause-answer
returns-clause-answer g c = subst (λ b. Ok c.args.id ≡ withdrawing_signature b c.args.id) c.self.view_is (sym (ap (λ o. unless o c.args.id) (unnamed g c)))

pub returns-clause-stands : goal.returns-clause-stands
returns-clause-stands g c = without g c ∙ ap (λ b. withdrawn_signature b c.args.id) c.self.view_is
