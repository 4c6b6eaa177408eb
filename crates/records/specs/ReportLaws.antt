-- What a report says, in the words of the subject: placements, formats that hit, formats that outrank others, labels.
use Rattle.std.specs.Prelude.{◌≡◌, ℕ, true, ◌↔◌, List, [], map, Some, Contains}
use Rattle.std.specs.List.{AllByRecursion}
use Rattle.kinds.specs.Alphabet.{Alphabet}
use Rattle.patterns.specs.Sequences.{Said, PlacementIn}
use Rattle.records.specs.Book.{Book, said_by, signatures_of, formats_of}
use Rattle.records.specs.Entries.{Sequence, Signature, Format, Rising}
use Rattle.records.specs.Lawful.{Lawful}
use Rattle.records.specs.Report.{folded, hit_of, tentative_of, report, specific}
use Rattle.records.specs.declared.report.Hit.{Hit}
use Rattle.records.specs.declared.report.Status.TheVariants.{Positive, Tentative, Negative}

-- a format outranks another: it names it
abbrev pub Outranks : Format → Format → Type 0
Outranks f g = Contains f.outranked g.id

-- a format has a label that equals the given one, A-Z read as a-z
abbrev pub Labelled : List ℕ → Format → Type 0
Labelled given f = Contains f.labels (map folded given)

module _ {E : Type 0} (a : Alphabet E) (book : Book) (codes : List ℕ) where
  -- a sequence hits: it has a placement
  abbrev pub SequenceHits : Sequence → Type 0
  SequenceHits q = (s : Said) × (said_by a q ≡ Some s) × PlacementIn s codes

  -- a standing signature hits: all its sequences do
  abbrev pub SignatureHits : Signature → Type 0
  SignatureHits s = Contains (signatures_of book) s × AllByRecursion SequenceHits s.sequences

  -- a standing format hits: a signature that it names does
  abbrev pub FormatHits : Format → Type 0
  FormatHits f = Contains (formats_of book) f × ((s : Signature) × Contains f.signatures s.id × SignatureHits s)

  -- one that hits outranks it
  abbrev pub Struck : Format → Type 0
  Struck g = (f : Format) × FormatHits f × Outranks f g

  -- it is listed in a positive report
  abbrev pub Listed : Format → Type 0
  Listed f = FormatHits f × ¬ (Struck f)

  -- it is listed in a tentative report
  abbrev pub Keyed : List ℕ → Format → Type 0
  Keyed label f = Contains (formats_of book) f × Labelled label f

  -- a hit is that of some format
  abbrev pub HitOf : (Format → Hit) → (Format → Type 0) → Hit → Type 0
  HitOf hit Is h = (f : Format) × Is f × (h ≡ hit f)

  pub record ReportLaws (label : List ℕ) : Type 0 where
    -- the report is positive exactly when a format hits, and negative exactly when it is empty
    pub positive : ((report a book codes label).status ≡ Positive) ↔ ((f : Format) × FormatHits f)
    pub negative : ((report a book codes label).status ≡ Negative) ↔ ((report a book codes label).hits ≡ [])
    -- a positive report lists the formats that hit and are not struck, and no others
    pub listed :
        (report a book codes label).status ≡ Positive
        → (h : Hit) → Contains (report a book codes label).hits h ↔ HitOf (hit_of a book codes label) Listed h
    -- a format is specific exactly when a specific signature that it names hits
    pub specifically :
        (f : Format) → (specific a book codes f ≡ true)
        ↔ ((s : Signature) × Contains f.signatures s.id × SignatureHits s × (s.specific ≡ true))
    -- a tentative report lists the formats that have an equal label, and no others
    pub keyed :
        (report a book codes label).status ≡ Tentative
        → (h : Hit) → Contains (report a book codes label).hits h ↔ HitOf tentative_of (Keyed label) h

-- The theorem: each report says this, and where the book is lawful its ids rise.
pub record ReportsRight {E : Type 0} (a : Alphabet E) : Type 0 where
  pub laws : (book : Book) (codes label : List ℕ) → ReportLaws a book codes label
  pub rise :
      (book : Book) (codes label : List ℕ) → Lawful a book
      → Rising (map (λ (h : Hit). h.id) (report a book codes label).hits)
