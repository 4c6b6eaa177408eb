use Rattle.std.proofs.Common.{◌≡◌, ◌≤◌, length, map, subst, sym, ap, ◌∙◌, arith}
use Rattle.std.specs.List.{filter}
use Rattle.patterns.specs.Codes.{codes_of}
use Rattle.records.specs.Calls.{unless, after, over, identifying, identified, question_refused, report_on}
use Rattle.records.specs.Refusals.{hits_short}
use Rattle.records.specs.Report.{Report, report_by}
use Rattle.catalogue.specs.Hitting.{hitting_of, standing_hits}
use Rattle.catalogue.specs.Reporting.{found_in, hitting_in}
use Rattle.catalogue.specs.Standing.{formats_in, book_in, SignaturesHold}
use Rattle.catalogue.proofs.Asking.{few_signatures, few_formats, question_allowed, report_found}
use Rattle.catalogue.proofs.catalogue.Catalogue.identify_lent.Given as given
use Rattle.catalogue.proofs.catalogue.Catalogue.identify_lent.Goals as goal

pub hitting_signatures-hitting-requires : goal.hitting_signatures-hitting-requires
hitting_signatures-hitting-requires g c =
    let signatures = c.self.inside.signatures.items in
    let few = few_signatures g.K.Kind.alphabet signatures c.self.inside.formats.items c.self.inside.table c.self.invariant.0 in
    let holds = subst (λ l. SignaturesHold g.K.Kind.alphabet l c.self.inside.table) (sym c.deref.ensures.value) c.self.invariant.0.signatures_hold in
    (omega arith, (subst (λ l. length l ≤ 24) (sym c.deref.ensures.value) few, holds))

pub report-found-requires : goal.report-found-requires
report-found-requires g c =
    subst (λ l. length l ≤ 48) (sym c.deref-3.ensures.value)
    (few_formats g.K.Kind.alphabet c.self.inside.signatures.items c.self.inside.formats.items c.self.inside.table c.self.invariant.0)

-- what is found is the report of the book
reports : (g : given.Over) (c : goal.After-hits-1 g)
    → found_in c.report-found.result ≡ report_on g.K.Kind.alphabet (book_in c.self.inside.signatures.items c.self.inside.formats.items) (g.R.Reading.elements c.args.reading.now) c.args.label.now
reports g c =
    let a = g.K.Kind.alphabet in
    let signatures = c.self.inside.signatures.items in
    let codes = codes_of a (g.R.Reading.elements c.args.reading.now) in
    let hits : c.deref-2.result.now ≡ map hitting_of (filter (standing_hits codes) signatures) = c.deref-2.ensures.0 ∙ c.hitting_signatures-hitting.ensures ∙ ap (λ l. map hitting_of (filter (standing_hits codes) l)) c.deref.ensures.value in
    c.report-found.ensures ∙ ap (λ fs. report_by (hitting_in c.deref-2.result.now) (formats_in fs) c.args.label.now) c.deref-3.ensures.value
    ∙ report_found a signatures c.self.inside.formats.items c.self.inside.table codes c.args.label.now c.deref-2.result.now c.self.invariant.0 hits

-- the question is refused only where the list is too short for that report
allowed : (g : given.Over) (c : goal.After-hits-1 g) (r : Report)
    → question_refused (length (g.R.Reading.elements c.args.reading.now)) (length c.args.hits.now) r ≡ hits_short (length c.args.hits.now) (length r.hits)
allowed g c r = question_allowed (length (g.R.Reading.elements c.args.reading.now)) (length c.args.hits.now) r (omega (arith, c.len.ensures))

pub returns-clause-answer : goal.returns-clause-answer
returns-clause-answer g c =
    let n = length (g.R.Reading.elements c.args.reading.now) in
    let room = length c.args.hits.now in
    let found = found_in c.report-found.result in
    c.copy_hits.ensures.answer
    ∙ ap (λ o. unless o (found.status, length found.hits)) (sym (allowed g c found))
    ∙ ap (λ (r : Report). unless (question_refused n room r) (r.status, length r.hits)) (reports g c)
    ∙ ap (λ b. identifying g.K.Kind.alphabet b (g.R.Reading.elements c.args.reading.now) c.args.label.now room) c.self.view_is

pub returns-clause-listed : goal.returns-clause-listed
returns-clause-listed g c =
    let n = length (g.R.Reading.elements c.args.reading.now) in
    let old = c.args.hits.now in
    let found = found_in c.report-found.result in
    c.copy_hits.ensures.hits
    ∙ ap (λ o. after o old (over found.hits old)) (sym (allowed g c found))
    ∙ ap (λ (r : Report). after (question_refused n (length old) r) old (over r.hits old)) (reports g c)
    ∙ ap (λ b. identified g.K.Kind.alphabet b (g.R.Reading.elements c.args.reading.now) c.args.label.now old) c.self.view_is
