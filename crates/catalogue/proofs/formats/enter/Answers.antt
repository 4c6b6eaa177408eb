use Rattle.std.proofs.Common.{◌≡◌, None, Some, map, ltb, sym, refl, ◌∙◌, ap, subst, arith}
use Rattle.std.specs.List.{insert, count_by}
use Rattle.records.specs.Book as book
use Rattle.records.specs.Refusals.{format_refused}
use Rattle.records.specs.Taken.{format_in}
use Rattle.catalogue.specs.Entering.{inserted, with_entry}
use Rattle.catalogue.specs.Standing.{format_pair, book_of, FormatHeld, FormatsHold}
use Rattle.catalogue.specs.declared.formats.StandingFormat.{StandingFormat}
use Rattle.catalogue.proofs.Changes.{formats_entered, inserted_pairs}
use Rattle.catalogue.proofs.Held.{accepted, len-bodies}
use Rattle.catalogue.proofs.formats.enter.Goals as goal

pub unreachable-requires-in-Err : goal.unreachable-requires-in-Err
unreachable-requires-in-Err g c =
    let formats = c.args.formats.now in
    let book = book_of (map g.S.Standing.pair c.args.signatures.now) (map format_pair formats.items) in
    let none : format_refused book (format_in c.args.format) ≡ None = cc in
    let room = (accepted book (format_in c.args.format) none).1 in
    let few = len-bodies format_pair formats.items c.requires.holds.rise in
    omega (arith, room, few, formats.ok.0, c.in-Err.ensures.full)

pub returns-clause-pairs : goal.returns-clause-pairs
returns-clause-pairs g c =
    let formats = c.args.formats.now.items in
    let book = book_of (map g.S.Standing.pair c.args.signatures.now) (map format_pair formats) in
    let none : format_refused book (format_in c.args.format) ≡ None = cc in
    let entry : StandingFormat = record { format = c.args.format; body = c.in-Ok.body } in
    let place : c.place_of-place.result ≡ count_by (λ (s : StandingFormat). ltb s.format.id c.args.format.id) formats = cc in
    let stands : c.insert.new.self.items ≡ insert formats (count_by (λ (s : StandingFormat). ltb s.format.id c.args.format.id) formats) entry = c.in-Ok-insert.ensures.items ∙ ap (λ i. insert formats i entry) place in
    subst
    (λ o. map format_pair c.insert.new.self.items ≡ with_entry o (map format_pair formats) c.args.format.id c.args.body.now)
    (sym none)
    (ap (map format_pair) stands ∙ inserted_pairs format_pair formats entry c.args.format.id c.in-Ok.body.items refl ∙ ap (inserted (map format_pair formats) c.args.format.id) c.in-Ok.ensures.0)

pub returns-clause-holds : goal.returns-clause-holds
returns-clause-holds g c =
    let formats = c.args.formats.now.items in
    let pairs = map g.S.Standing.pair c.args.signatures.now in
    let none : format_refused (book_of pairs (map format_pair formats)) (format_in c.args.format) ≡ None = cc in
    let entry : StandingFormat = record { format = c.args.format; body = c.in-Ok.body } in
    let place : c.place_of-place.result ≡ count_by (λ (s : StandingFormat). ltb s.format.id c.args.format.id) formats = cc in
    let stands : c.insert.new.self.items ≡ insert formats (count_by (λ (s : StandingFormat). ltb s.format.id c.args.format.id) formats) entry = c.in-Ok-insert.ensures.items ∙ ap (λ i. insert formats i entry) place in
    let held : FormatHeld entry = subst (λ b. book.format_in b ≡ Some (format_in c.args.format)) (sym c.in-Ok.ensures.0) c.requires.reads in
    subst FormatsHold (sym stands) (formats_entered pairs formats entry c.requires.holds held none)
