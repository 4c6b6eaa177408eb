use Rattle.std.proofs.Common.{◌≡◌, ◌+◌, ◌≤◌, ℕ, List, length, map, Err, subst, sym, ap, ◌∙◌, arith}
use Rattle.records.specs.Calls.{unless, after, over, written, writing, wrote}
use Rattle.records.specs.Refusals.{buffer_short}
use Rattle.catalogue.specs.Standing.{signature_pair, format_pair, book_in, Holds}
use Rattle.catalogue.specs.Writing.{records_of}
use Rattle.catalogue.specs.declared.catalogue.Catalogue.TheInside.{Inside}
use Rattle.catalogue.specs.declared.formats.StandingFormat.{StandingFormat}
use Rattle.catalogue.specs.declared.signatures.StandingSignature.{StandingSignature}
use Rattle.catalogue.proofs.Asking.{few_signatures, few_formats, length-written, written_over, short_refused, long_allowed}
use Rattle.catalogue.proofs.catalogue.Catalogue.write.Given as given
use Rattle.catalogue.proofs.catalogue.Catalogue.write.Goals as goal

pub written_len-requires : goal.written_len-requires
written_len-requires g c =
    let few = few_signatures g.K.Kind.alphabet c.self.inside.signatures.items c.self.inside.formats.items c.self.inside.table c.self.invariant.0 in
    subst (λ l. length l ≤ 48) (sym c.deref.ensures.value) (omega arith)

pub written_len-requires-2 : goal.written_len-requires-2
written_len-requires-2 g c =
    subst (λ l. length l ≤ 48) (sym c.deref-2.ensures.value)
    (few_formats g.K.Kind.alphabet c.self.inside.signatures.items c.self.inside.formats.items c.self.inside.table c.self.invariant.0)

pub overflow_add-len : goal.overflow_add-len
overflow_add-len g c =
    let signatures = few_signatures g.K.Kind.alphabet c.self.inside.signatures.items c.self.inside.formats.items c.self.inside.table c.self.invariant.0 in
    let formats = few_formats g.K.Kind.alphabet c.self.inside.signatures.items c.self.inside.formats.items c.self.inside.table c.self.invariant.0 in
    omega (arith, ap (λ l. length l) c.deref.ensures.value, ap (λ l. length l) c.deref-2.ensures.value, c.written_len.ensures.short, c.written_len-2.ensures.short)

-- the length that is compared, by what it was computed from
total : (g : given.Over) (inside : Inside g.row.K.Denot) (ss : List (StandingSignature g.row.K.Denot)) (fs : List StandingFormat) (n m : ℕ)
    → Holds g.K.Kind.alphabet inside.signatures.items inside.formats.items inside.table → ss ≡ inside.signatures.items → fs ≡ inside.formats.items
    → ((kind : ℕ) → n ≡ length (records_of kind (map signature_pair ss))) → ((kind : ℕ) → m ≡ length (records_of kind (map format_pair fs)))
    → n + m ≡ length (written g.K.Kind.alphabet (book_in inside.signatures.items inside.formats.items))
total g inside ss fs n m holds ss_are fs_are n_is m_is =
    length-written g.K.Kind.alphabet inside.signatures.items inside.formats.items holds.signatures_hold.rise holds.formats_hold.rise ss fs ss_are fs_are n m n_is m_is

pub returns-then-buffer-len-clause-answer : goal.returns-then-buffer-len-clause-answer
returns-then-buffer-len-clause-answer g c =
    let a = g.K.Kind.alphabet in
    let room = length c.args.buffer.now in
    let len = c.written_len.result + c.written_len-2.result in
    let is = total g c.self.inside c.deref.result.now c.deref-2.result.now c.written_len.result c.written_len-2.result c.self.invariant.0 c.deref.ensures.value c.deref-2.ensures.value c.written_len.ensures.records c.written_len-2.ensures.records in
    ap (λ f. Err f) c.outside.ensures ∙ sym (ap (λ o. unless o len) (short_refused room len c.if-buffer-len.true))
    ∙ ap (λ n. unless (buffer_short room n) n) is ∙ ap (λ b. writing a b room) c.self.view_is

pub returns-then-buffer-len-clause-written : goal.returns-then-buffer-len-clause-written
returns-then-buffer-len-clause-written g c =
    let a = g.K.Kind.alphabet in
    let old = c.args.buffer.now in
    let all = written a (book_in c.self.inside.signatures.items c.self.inside.formats.items) in
    let len = c.written_len.result + c.written_len-2.result in
    let is = total g c.self.inside c.deref.result.now c.deref-2.result.now c.written_len.result c.written_len-2.result c.self.invariant.0 c.deref.ensures.value c.deref-2.ensures.value c.written_len.ensures.records c.written_len-2.ensures.records in
    sym (ap (λ o. after o old (over all old)) (short_refused (length old) len c.if-buffer-len.true))
    ∙ ap (λ n. after (buffer_short (length old) n) old (over all old)) is ∙ ap (λ b. wrote a b old) c.self.view_is

pub returns-clause-answer : goal.returns-clause-answer
returns-clause-answer g c =
    let a = g.K.Kind.alphabet in
    let room = length c.args.buffer.now in
    let len = c.written_len.result + c.written_len-2.result in
    let is = total g c.self.inside c.deref.result.now c.deref-2.result.now c.written_len.result c.written_len-2.result c.self.invariant.0 c.deref.ensures.value c.deref-2.ensures.value c.written_len.ensures.records c.written_len-2.ensures.records in
    sym (ap (λ o. unless o len) (long_allowed room len c.if-buffer-len.false))
    ∙ ap (λ n. unless (buffer_short room n) n) is ∙ ap (λ b. writing a b room) c.self.view_is

pub returns-clause-written : goal.returns-clause-written
returns-clause-written g c =
    let a = g.K.Kind.alphabet in
    let old = c.args.buffer.now in
    let book = book_in c.self.inside.signatures.items c.self.inside.formats.items in
    let all = written a book in
    let len = c.written_len.result + c.written_len-2.result in
    let holds = c.self.invariant.0 in
    let is = total g c.self.inside c.deref.result.now c.deref-2.result.now c.written_len.result c.written_len-2.result holds c.deref.ensures.value c.deref-2.ensures.value c.written_len.ensures.records c.written_len-2.ensures.records in
    let room : length all ≤ length old = omega (arith, is) in
    written_over a c.self.inside.signatures.items c.self.inside.formats.items holds.signatures_hold.rise holds.formats_hold.rise c.deref-3.result.now c.deref-4.result.now c.deref-3.ensures.value c.deref-4.ensures.value
    c.signature_record.result c.format_record.result c.write_records-behind.result old c.write_records-behind.new.buffer c.write_records.new.buffer
    c.signature_record.ensures c.format_record.ensures room c.write_records-behind.ensures.place c.write_records-behind.ensures.bytes c.write_records.ensures.bytes
    ∙ sym (ap (λ o. after o old (over all old)) (long_allowed (length old) len c.if-buffer-len.false))
    ∙ ap (λ n. after (buffer_short (length old) n) old (over all old)) is ∙ ap (λ b. wrote a b old) c.self.view_is
