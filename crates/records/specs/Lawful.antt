-- Books that entering can have made.
use Rattle.std.specs.Prelude.{◌≡◌, ℕ, ◌<◌, ◌≤◌, List, Some, None}
use Rattle.std.specs.FinMap as map
use Rattle.std.specs.List.{AllByRecursion}
use Rattle.kinds.specs.Alphabet.{Alphabet}
use Rattle.records.specs.Book.{Book, empty, signature_in, format_in, fragments_standing}
use Rattle.records.specs.Calls.{entered, withdrawn_signature, withdrawn_format}
use Rattle.records.specs.Entries.{Signature, Format}
use Rattle.records.specs.Refusals.{text_refused, missing_id, most_signatures, most_fragments, most_formats}

-- A body stands under the id of its signature, and no text of it is refused.
pub record SignatureStands {E : Type 0} (a : Alphabet E) (e : ℕ × List ℕ) : Type 0 where
  pub entry : Signature
  pub reads : signature_in e.1 ≡ Some entry
  pub id : entry.id ≡ e.0
  pub texts : text_refused a entry ≡ None
  pub bytes : AllByRecursion (λ b. b < 256) e.1

-- A body stands under the id of its format, and what it names stands.
pub record FormatStands (book : Book) (e : ℕ × List ℕ) : Type 0 where
  pub entry : Format
  pub reads : format_in e.1 ≡ Some entry
  pub id : entry.id ≡ e.0
  pub named : missing_id book entry ≡ None
  pub bytes : AllByRecursion (λ b. b < 256) e.1

-- Each body stands so, and there is room for all.
pub record Lawful {E : Type 0} (a : Alphabet E) (book : Book) : Type 0 where
  pub signatures : AllByRecursion (SignatureStands a) (map.entries book.signatures)
  pub formats : AllByRecursion (FormatStands book) (map.entries book.formats)
  pub few_signatures : map.len book.signatures ≤ most_signatures
  pub few_fragments : fragments_standing a book ≤ most_fragments
  pub few_formats : map.len book.formats ≤ most_formats

-- The theorem: the empty book is lawful, and each call that changes a lawful book leaves a lawful one.
pub record BooksStayLawful {E : Type 0} (a : Alphabet E) : Type 0 where
  pub none : Lawful a empty
  pub entering :
      (book : Book) (bytes : List ℕ) → AllByRecursion (λ b. b < 256) bytes → Lawful a book
      → Lawful a (entered a book bytes)
  pub withdrawing_signature : (book : Book) (id : ℕ) → Lawful a book → Lawful a (withdrawn_signature book id)
  pub withdrawing_format : (book : Book) (id : ℕ) → Lawful a book → Lawful a (withdrawn_format book id)
