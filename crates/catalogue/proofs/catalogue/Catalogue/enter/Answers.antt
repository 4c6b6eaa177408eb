use Rattle.std.proofs.Common.{◌≡◌, ℕ, Fits, w8, List, get_or, Ok, map, sym, ap, ◌∙◌, subst}
use Rattle.records.specs.Calls.{unless, entry_read, entered, entering}
use Rattle.records.specs.Entries.{signature, format}
use Rattle.records.specs.Refusals.{format_refused}
use Rattle.records.specs.Taken.{entry_in, signature_in, format_in}
use Rattle.records.specs.Lawful.{Lawful}
use Rattle.records.proofs.Bounds.{bytes_below}
use Rattle.records.proofs.Keeping.{books_stay_lawful}
use Rattle.catalogue.specs.Entering.{with_entry}
use Rattle.catalogue.specs.Standing.{signature_pair, format_pair, book_of, book_in}
use Rattle.catalogue.specs.declared.formats.StandingFormat.{StandingFormat}
use Rattle.catalogue.specs.declared.signatures.StandingSignature.{StandingSignature}
use Rattle.catalogue.proofs.Composing.{signature_entered, format_entered, entering_read, holds_again}
use Rattle.catalogue.proofs.catalogue.Catalogue.enter.Given as given
use Rattle.catalogue.proofs.catalogue.Catalogue.enter.Goals as goal

-- the book is lawful then
lawful_then : (g : given.Over) (signatures : List (StandingSignature g.row.K.Denot)) (formats : List StandingFormat) (bytes : List ℕ) → Lawful g.K.Kind.alphabet (book_in signatures formats)
    → ((i : ℕ) → Fits w8 (get_or bytes i 0)) → Lawful g.K.Kind.alphabet (entered g.K.Kind.alphabet (book_in signatures formats) bytes)
lawful_then g signatures formats bytes lawful fits = (books_stay_lawful g.K.Kind.alphabet).entering (book_in signatures formats) bytes (bytes_below bytes fits) lawful

-- the book with a signature more
with_signature : (g : given.Over) (c : goal.After-enter g) → book_in c.enter.new.signatures.items c.self.inside.formats.items ≡ entered g.K.Kind.alphabet (book_in c.self.inside.signatures.items c.self.inside.formats.items) c.args.bytes.now
with_signature g c =
    let a = g.K.Kind.alphabet in
    let s = signature_in c.in-Signature.signature in
    let read : entry_read a c.args.bytes.now ≡ Ok (signature s) = sym c.in_ok-entry.ensures.entry ∙ ap (λ e. Ok (entry_in e)) c.in-Signature.is in
    signature_entered a (map signature_pair c.self.inside.signatures.items) (map format_pair c.self.inside.formats.items) c.args.bytes.now c.in_ok-entry.body.now s (map signature_pair c.enter.new.signatures.items) read c.in_ok-entry.ensures.body c.self.invariant.0.signatures_hold.rise c.enter.ensures.pairs

pub invariant_of-self : goal.invariant_of-self
invariant_of-self g c = (
  holds_again g.K.Kind.alphabet c.enter.new.signatures.items c.self.inside.formats.items c.enter.new.table _
      c.enter.ensures.holds c.self.invariant.0.formats_hold (with_signature g c) (lawful_then g c.self.inside.signatures.items c.self.inside.formats.items c.args.bytes.now c.self.invariant.0.lawful c.type_inv.bytes),
  c.enter.ensures.room,
  c.self.invariant.2,
)

pub returns-in-Signature-clause-stands : goal.returns-in-Signature-clause-stands
returns-in-Signature-clause-stands g c = with_signature g c ∙ ap (λ b. entered g.K.Kind.alphabet b c.args.bytes.now) c.self.view_is

-- the signatures are lent as they stand
lent : (g : given.Over) (c : goal.After-enter-in-Format g) → map signature_pair c.deref.result.now ≡ map signature_pair c.self.inside.signatures.items
lent g c = ap (map signature_pair) c.deref.ensures.value

-- the record reads as a format
reads_format : (g : given.Over) (c : goal.After-enter-in-Format g) → entry_read g.K.Kind.alphabet c.args.bytes.now ≡ Ok (format (format_in c.in-Format.format))
reads_format g c = sym c.in_ok-entry.ensures.entry ∙ ap (λ e. Ok (entry_in e)) c.in-Format.is

-- the book with a format more
with_format : (g : given.Over) (c : goal.After-enter-in-Format g) → book_in c.self.inside.signatures.items c.enter-in-Format.new.formats.items ≡ entered g.K.Kind.alphabet (book_in c.self.inside.signatures.items c.self.inside.formats.items) c.args.bytes.now
with_format g c =
    let old = map format_pair c.self.inside.formats.items in
    let new = map format_pair c.enter-in-Format.new.formats.items in
    let f = format_in c.in-Format.format in
    let pairs = subst (λ signatures. new ≡ with_entry (format_refused (book_of signatures old) f) old f.id c.in_ok-entry.body.now) (lent g c) c.enter-in-Format.ensures.pairs in
    format_entered g.K.Kind.alphabet (map signature_pair c.self.inside.signatures.items) old c.args.bytes.now c.in_ok-entry.body.now f new (reads_format g c) c.in_ok-entry.ensures.body c.self.invariant.0.formats_hold.rise pairs

pub invariant_of-self-in-Format : goal.invariant_of-self-in-Format
invariant_of-self-in-Format g c = (
  holds_again g.K.Kind.alphabet c.self.inside.signatures.items c.enter-in-Format.new.formats.items c.self.inside.table _
      c.self.invariant.0.signatures_hold c.enter-in-Format.ensures.holds (with_format g c) (lawful_then g c.self.inside.signatures.items c.self.inside.formats.items c.args.bytes.now c.self.invariant.0.lawful c.type_inv.bytes),
  c.self.invariant.1,
  c.enter-in-Format.ensures.room,
)

pub returns-in-Format-clause-answer : goal.returns-in-Format-clause-answer
returns-in-Format-clause-answer g c =
    let old = map format_pair c.self.inside.formats.items in
    let f = format_in c.in-Format.format in
    let answer = subst (λ signatures. c.enter-in-Format.result ≡ unless (format_refused (book_of signatures old) f) f.id) (lent g c) c.enter-in-Format.ensures.answer in
    answer ∙ sym (entering_read g.K.Kind.alphabet (map signature_pair c.self.inside.signatures.items) old c.args.bytes.now (format f) (reads_format g c))
    ∙ ap (λ b. entering g.K.Kind.alphabet b c.args.bytes.now) c.self.view_is

pub returns-in-Format-clause-stands : goal.returns-in-Format-clause-stands
returns-in-Format-clause-stands g c = with_format g c ∙ ap (λ b. entered g.K.Kind.alphabet b c.args.bytes.now) c.self.view_is
