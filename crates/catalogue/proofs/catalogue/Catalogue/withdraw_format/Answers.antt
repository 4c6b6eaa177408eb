use Rattle.std.proofs.Common.{◌≡◌, ◌==◌, ◌≤◌, ℕ, List, map, Some, None, Ok, Err, sym, ap, ◌∙◌, subst}
use Rattle.std.specs.FinMap as finite
use Rattle.std.specs.FinMap.{FinMap}
use Rattle.std.specs.List.{position, find}
use Rattle.std.specs.Option.{option_map}
use Rattle.std.specs.Ordering.{nat_cmp}
use Rattle.faults.specs.Faults.{outside}
use Rattle.faults.specs.declared.fault.Cause.TheVariants.{Missing, Named}
use Rattle.records.specs.Book.{Book}
use Rattle.records.specs.Calls.{unless, after, withdrawing_format, withdrawn_format}
use Rattle.records.specs.Entries.{Format}
use Rattle.records.specs.Refusals.{format_kept, format_named}
use Rattle.records.specs.Report.{among_ids}
use Rattle.records.proofs.Books.{map_remove}
use Rattle.records.proofs.Keeping.{books_stay_lawful}
use Rattle.catalogue.specs.Standing.{bodies, signature_pair, format_pair, formats_in, book_in}
use Rattle.catalogue.proofs.Composing.{kept_missing, kept_named, gone, smallest_standing, refused_answer, refused_leaves, holds_again}
use Rattle.catalogue.proofs.catalogue.Catalogue.withdraw_format.Given as given
use Rattle.catalogue.proofs.catalogue.Catalogue.withdraw_format.Goals as goal

-- no format has the id
missing : (g : given.Over) (c : goal.After-outside g) → format_kept (book_in c.self.inside.signatures.items c.self.inside.formats.items) c.args.id ≡ Some c.outside.result
missing g c =
    let entries = c.self.inside.formats.items in
    let none : position (λ s. (format_pair s).0 == c.args.id) entries ≡ None = sym (c.in_default.ensures ∙ ap (position (λ s. (format_pair s).0 == c.args.id)) c.deref.ensures.value) in
    let fault : outside Missing c.args.id ≡ c.outside.result = sym (c.outside.ensures ∙ ap (outside Missing) c.from.ensures) in
    kept_missing format_pair entries c.self.invariant.0.formats_hold.rise c.args.id (format_named (book_in c.self.inside.signatures.items c.self.inside.formats.items) c.args.id) none ∙ ap (λ f. Some f) fault

pub returns-in_default-clause-answer : goal.returns-in_default-clause-answer
returns-in_default-clause-answer g c =
    subst (λ b. Err c.outside.result ≡ withdrawing_format b c.args.id) c.self.view_is (refused_answer _ c.outside.result c.args.id (missing g c))

pub returns-in_default-clause-stands : goal.returns-in_default-clause-stands
returns-in_default-clause-stands g c =
    subst (λ b. b ≡ withdrawn_format b c.args.id) c.self.view_is (refused_leaves _ c.outside.result _ _ (missing g c))

-- a format outranks it
named : (g : given.Over) (c : goal.After-outside-in-Some-first_outranking g) → format_kept (book_in c.self.inside.signatures.items c.self.inside.formats.items) c.args.id ≡ Some c.outside-in-Some-first_outranking.result
named g c =
    let entries = c.self.inside.formats.items in
    let book = book_in c.self.inside.signatures.items c.self.inside.formats.items in
    let found : position (λ s. (format_pair s).0 == c.args.id) entries ≡ Some c.in-Some.place = sym (c.in-Some.ensures ∙ ap (position (λ s. (format_pair s).0 == c.args.id)) c.deref.ensures.value) in
    let smallest = smallest_standing (λ f. among_ids c.args.id f.outranked) (map signature_pair c.self.inside.signatures.items) c.self.inside.formats.items c.self.invariant.0.formats_hold in
    let first = c.in-Some-first_outranking.ensures ∙ ap (λ fs. option_map (λ (f : Format). f.id) (find (λ f. among_ids c.args.id f.outranked) (formats_in fs))) c.deref-2.ensures.value in
    let fault : outside Named c.in-Some-first_outranking.above ≡ c.outside-in-Some-first_outranking.result = sym (c.outside-in-Some-first_outranking.ensures ∙ ap (outside Named) c.from-in-Some-first_outranking.ensures) in
    kept_named format_pair entries c.self.invariant.0.formats_hold.rise c.args.id c.in-Some.place found (format_named book c.args.id)
    ∙ ap (option_map (outside Named)) (smallest ∙ sym first) ∙ ap (λ f. Some f) fault

pub returns-in-Some-first_outranking-clause-answer : goal.returns-in-Some-first_outranking-clause-answer
returns-in-Some-first_outranking-clause-answer g c =
    subst (λ b. Err c.outside-in-Some-first_outranking.result ≡ withdrawing_format b c.args.id) c.self.view_is (refused_answer _ c.outside-in-Some-first_outranking.result c.args.id (named g c))

pub returns-in-Some-first_outranking-clause-stands : goal.returns-in-Some-first_outranking-clause-stands
returns-in-Some-first_outranking-clause-stands g c =
    subst (λ b. b ≡ withdrawn_format b c.args.id) c.self.view_is (refused_leaves _ c.outside-in-Some-first_outranking.result _ _ (named g c))

-- no format outranks it
unnamed : (g : given.Over) (c : goal.After-withdraw g) → format_kept (book_in c.self.inside.signatures.items c.self.inside.formats.items) c.args.id ≡ None
unnamed g c =
    let entries = c.self.inside.formats.items in
    let book = book_in c.self.inside.signatures.items entries in
    let found : position (λ s. (format_pair s).0 == c.args.id) entries ≡ Some c.in-Some.place = sym (c.in-Some.ensures ∙ ap (position (λ s. (format_pair s).0 == c.args.id)) c.deref.ensures.value) in
    let smallest = smallest_standing (λ f. among_ids c.args.id f.outranked) (map signature_pair c.self.inside.signatures.items) entries c.self.invariant.0.formats_hold in
    let none = c.in_default-first_outranking.ensures ∙ ap (λ fs. option_map (λ (f : Format). f.id) (find (λ f. among_ids c.args.id f.outranked) (formats_in fs))) c.deref-2.ensures.value in
    kept_named format_pair entries c.self.invariant.0.formats_hold.rise c.args.id c.in-Some.place found (format_named book c.args.id)
    ∙ ap (option_map (outside Named)) (smallest ∙ sym none)

-- the book without it
without : (g : given.Over) (c : goal.After-withdraw g) → book_in c.self.inside.signatures.items c.withdraw.new.formats.items ≡ withdrawn_format (book_in c.self.inside.signatures.items c.self.inside.formats.items) c.args.id
without g c =
    let entries = c.self.inside.formats.items in
    let book = book_in c.self.inside.signatures.items entries in
    let found : position (λ s. (format_pair s).0 == c.args.id) entries ≡ Some c.in-Some.place = sym (c.in-Some.ensures ∙ ap (position (λ s. (format_pair s).0 == c.args.id)) c.deref.ensures.value) in
    let left = ap (λ fs. bodies (map format_pair fs)) c.withdraw.ensures.items ∙ ap bodies (map_remove format_pair entries c.in-Some.place) ∙ gone format_pair entries c.self.invariant.0.formats_hold.rise c.args.id c.in-Some.place found in
    let with_formats = λ (m : FinMap nat_cmp (List ℕ)). let b : Book = record { signatures = book.signatures; formats = m } in b in
    ap with_formats left ∙ sym (ap (λ o. after o book (with_formats (finite.remove book.formats c.args.id))) (unnamed g c))

pub invariant_of-self : goal.invariant_of-self
invariant_of-self g c = (
  holds_again g.K.Kind.alphabet c.self.inside.signatures.items c.withdraw.new.formats.items c.self.inside.table _ c.self.invariant.0.signatures_hold c.withdraw.ensures.holds (without g c)
      ((books_stay_lawful g.K.Kind.alphabet).withdrawing_format (book_in c.self.inside.signatures.items c.self.inside.formats.items) c.args.id c.self.invariant.0.lawful),
  c.self.invariant.1,
  subst (λ n. 48 ≤ n) (sym c.withdraw.ensures.capacity) c.self.invariant.2,
)

pub returns-clause-answer : goal.returns-clause-answer
returns-clause-answer g c = subst (λ b. Ok c.args.id ≡ withdrawing_format b c.args.id) c.self.view_is (sym (ap (λ o. unless o c.args.id) (unnamed g c)))

pub returns-clause-stands : goal.returns-clause-stands
returns-clause-stands g c = without g c ∙ ap (λ b. withdrawn_format b c.args.id) c.self.view_is
