-- What a report says is what the rules say.
use Rattle.std.proofs.Common.{◌≡◌, ℕ, suc, ◌<◌, ◌≤◌, Bool, true, false, not, cond, eqb, ◌⊎◌, ◌↔◌, List, [], ◌∷◌, map, length, Some, None, Decides, Option, sym, refl, ap, ◌∙◌, subst, inl, inr, ⊎_elim, arith}
use Rattle.std.proofs.lemmas.Bool.{false≢true, cases_lt, not_from_false, ne_eqb, cond-true, cond-false}
use Rattle.std.proofs.lemmas.Bool.Decides.{Decides-like, Decides-not, Decides-and}
use Rattle.std.specs.FinMap as map
use Rattle.std.specs.List.{Contains}
use Rattle.kinds.specs.Alphabet.{Alphabet}
use Rattle.patterns.specs.Sequences.{Said, hits_in, PlacementIn}
use Rattle.patterns.proofs.Decisions.{hits_exactly, same_decides}
use Rattle.records.specs.Book.{Book, said_by, format_in, signatures_of, formats_of}
use Rattle.records.specs.Entries.{Sequence, Signature, Format}
use Rattle.records.specs.Report.{folded, equals_label, labelled, names, tentative, tentative_of, Report, sequence_hits, signature_hits, hitting, format_hits, specific, formats_hitting, struck, unstruck, hit_of, report}
use Rattle.records.specs.ReportLaws.{Outranks, Labelled, SequenceHits, SignatureHits, FormatHits, Struck, Listed, Keyed, HitOf, ReportLaws}
use Rattle.records.specs.declared.report.Hit.{Hit}
use Rattle.records.specs.declared.report.Status.TheVariants.{Positive, Tentative, Negative}
use Rattle.records.proofs.Bodies.{Ranked, format_in_ranked}
use Rattle.records.proofs.Members.{contains_nil, contains_here, contains_there, contains_cases, contains_filter, contains_map, contains_filter_map, holds_of, any_decides, all_decides, among_decides}

-- a test decides whether a Bool is true
itself : (b : Bool) → Decides b (b ≡ true)
itself b = (λ e. e, λ e. e)

-- a compiled sequence hits, if there is one
said_decides : (o : Option Said) (codes : List ℕ) → Decides (elim o [ Some s ↦ hits_in s codes | None ↦ false ]) ((s : Said) × (o ≡ Some s) × PlacementIn s codes)
said_decides (Some s) codes =
    Decides-like _ (λ p. (s, refl, p)) (λ h. let is : h.0 ≡ s = cc in subst (λ r. PlacementIn r codes) is h.2) (hits_exactly s.reference _ codes)
said_decides None codes = (λ e. absurd (false≢true e), λ h. cc)

-- a list has an element, or is empty
some_or_none : {X : Type 0} (xs : List X) → ((x : X) × Contains xs x × (not (eqb (length xs) 0) ≡ true)) ⊎ ((xs ≡ []) × (not (eqb (length xs) 0) ≡ false))
some_or_none [] = inr (refl, refl)
some_or_none (x ∷ xs) = inl (x, contains_here x xs, not_from_false _ (ne_eqb (suc (length xs)) 0 (λ e. omega arith)))

-- of two formats the one with the greater id
greater : (f g : Format) → (h : Format) × ((h ≡ f) ⊎ (h ≡ g)) × (f.id ≤ h.id) × (g.id ≤ h.id)
greater f g = ⊎_elim (λ lt. (g, inr refl, omega arith, omega arith)) (λ le. (f, inl refl, omega arith, omega arith)) (cases_lt f.id g.id)

-- a list of formats with one in it has one with the greatest id
greatest : (f : Format) (fs : List Format) → (h : Format) × Contains (f ∷ fs) h × ((g : Format) → Contains (f ∷ fs) g → g.id ≤ h.id)
greatest f [] =
    (f, contains_here f [], λ g k. ⊎_elim (λ is. let same : f.id ≡ g.id = ap (λ (x : Format). x.id) is in omega arith) (λ none. absurd (contains_nil g none)) (contains_cases f [] g k))
greatest f (e ∷ fs) =
    let most = greatest e fs in
    let h = greater f most.0 in
    let inside = λ (x : Format). Contains (f ∷ e ∷ fs) x in (
      h.0,
      ⊎_elim (λ is. subst inside (sym is) (contains_here f (e ∷ fs))) (λ is. subst inside (sym is) (contains_there f (e ∷ fs) most.0 most.1)) h.1,
      λ g k. ⊎_elim (λ is. let same : f.id ≡ g.id = ap (λ (x : Format). x.id) is in omega (arith, h.2)) (λ there. omega (arith, h.3, most.2 g there)) (contains_cases f (e ∷ fs) g k),
    )

-- the same of any list with a format in it
greatest_in : (fs : List Format) (f : Format) → Contains fs f → (h : Format) × Contains fs h × ((g : Format) → Contains fs g → g.id ≤ h.id)
greatest_in [] f here = absurd (contains_nil f here)
greatest_in (e ∷ fs) f here = greatest e fs

-- a label of a format equals the given one
labelled_decides : (given : List ℕ) (f : Format) → Decides (labelled given f) (Labelled given f)
labelled_decides given f =
    Decides-like
    _
    (λ h. subst (λ l. Contains f.labels l) (sym h.2) h.1)
    (λ h. (map folded given, h, refl))
    (any_decides (equals_label given) (λ l. map folded given ≡ l) (λ l. same_decides (map folded given) l) f.labels)

-- a report is the first of three where the first list has an element, the second where only the second list has one
abbrev pub Chosen : List Format → List Format → Report → Report → Report → Report → Type 0
Chosen fs ts r first second third =
    ((f : Format) × Contains fs f × (r ≡ first)) ⊎ (((fs ≡ []) × ((f : Format) × Contains ts f) × (r ≡ second)) ⊎ ((fs ≡ []) × (ts ≡ []) × (r ≡ third)))

-- so a choice by the lengths of the lists chooses
chosen : (fs ts : List Format) (first second third : Report)
    → Chosen fs ts (cond (not (eqb (length fs) 0)) first (cond (not (eqb (length ts) 0)) second third)) first second third
chosen fs ts first second third =
    ⊎_elim
    (λ f. inl (f.0, f.1, cond-true _ _ _ f.2))
    (λ none. ⊎_elim
    (λ t. inr (inl (none.0, (t.0, t.1), cond-false _ _ _ none.1 ∙ cond-true _ _ _ t.2)))
    (λ n. inr (inr (none.0, n.0, cond-false _ _ _ none.1 ∙ cond-false _ _ _ n.1)))
    (some_or_none ts))
    (some_or_none fs)

-- no status is another
apart_statuses : (Positive ≡ Tentative → ⊥) × (Positive ≡ Negative → ⊥) × (Tentative ≡ Negative → ⊥)
apart_statuses = (λ e. cc, λ e. cc, λ e. cc)

module _ {E : Type 0} (a : Alphabet E) (book : Book) (codes : List ℕ) where
  -- a sequence hits
  sequence_decides : (q : Sequence) → Decides (sequence_hits a book codes q) (SequenceHits a book codes q)
  sequence_decides q = said_decides (said_by a q) codes

  -- a signature that stands hits
  hitting_exactly : (s : Signature) → Contains (hitting a book codes) s ↔ SignatureHits a book codes s
  hitting_exactly s =
      let here = contains_filter (signature_hits a book codes) (signatures_of book) s in
      let hits = all_decides (sequence_hits a book codes) (SequenceHits a book codes) sequence_decides s.sequences in
      (λ h. let k = here.0 h in (k.0, hits.0 k.1), λ h. here.1 (h.0, hits.1 h.1))

  -- a signature that a format names hits
  named_decides : (f : Format) → Decides (format_hits a book codes f) ((s : Signature) × Contains f.signatures s.id × SignatureHits a book codes s)
  named_decides f =
      Decides-like
      _
      (λ h. (h.0, h.2, (hitting_exactly h.0).0 h.1))
      (λ h. (h.0, (hitting_exactly h.0).1 h.2, h.1))
      (any_decides (names f) (λ s. Contains f.signatures s.id) (λ s. among_decides s.id f.signatures) (hitting a book codes))

  -- a specific one does
  specific_decides : (f : Format)
      → Decides (specific a book codes f) ((s : Signature) × Contains f.signatures s.id × SignatureHits a book codes s × (s.specific ≡ true))
  specific_decides f =
      Decides-like
      _
      (λ h. (h.0, h.2.0, (hitting_exactly h.0).0 h.1, h.2.1))
      (λ h. (h.0, (hitting_exactly h.0).1 h.2, (h.1, h.3)))
      (any_decides _ (λ s. Contains f.signatures s.id × (s.specific ≡ true)) (λ s. Decides-and _ _ (among_decides s.id f.signatures) (itself s.specific)) (hitting a book codes))

  -- a format that stands hits
  formats_exactly : (f : Format) → Contains (formats_hitting a book codes) f ↔ FormatHits a book codes f
  formats_exactly f =
      let here = contains_filter (format_hits a book codes) (formats_of book) f in
      (λ h. let k = here.0 h in (k.0, (named_decides f).0 k.1), λ h. here.1 (h.0, (named_decides f).1 h.1))

  -- one that hits outranks a format
  struck_decides : (g : Format) → Decides (struck a book codes g) (Struck a book codes g)
  struck_decides g =
      Decides-like
      _
      (λ h. (h.0, (formats_exactly h.0).0 h.1, h.2))
      (λ h. (h.0, (formats_exactly h.0).1 h.1, h.2))
      (any_decides _ (λ f. Outranks f g) (λ f. among_decides g.id f.outranked) (formats_hitting a book codes))

  -- what a positive report lists
  unstruck_exactly : (f : Format) → Contains (unstruck a book codes) f ↔ Listed a book codes f
  unstruck_exactly f =
      let here = contains_filter (λ g. not (struck a book codes g)) (formats_hitting a book codes) f in
      let free = Decides-not _ (struck_decides f) in
      (λ h. let k = here.0 h in ((formats_exactly f).0 k.0, free.0 k.1), λ h. here.1 ((formats_exactly f).1 h.0, free.1 h.1))

  -- what a tentative report lists
  tentative_exactly : (label : List ℕ) (f : Format) → Contains (tentative book label) f ↔ Keyed a book codes label f
  tentative_exactly label f =
      let here = contains_filter (labelled label) (formats_of book) f in
      (λ h. let k = here.0 h in (k.0, (labelled_decides label f).0 k.1), λ h. here.1 (h.0, (labelled_decides label f).1 h.1))

  -- formats that stand outrank only lower ids
  standing_ranked : (f : Format) → Contains (formats_of book) f → Ranked f
  standing_ranked f here = let body = (contains_filter_map format_in (map.values book.formats) f).0 here in format_in_ranked body.0 f body.2

  -- of the formats that hit, the one with the greatest id is not struck
  pub some_listed : (f : Format) → FormatHits a book codes f → (g : Format) × Listed a book codes g
  some_listed f hits =
      let most = greatest_in (formats_hitting a book codes) f ((formats_exactly f).1 hits) in
      let free : ¬ (Struck a book codes most.0) = λ struck.
      let above = most.2 struck.0 ((formats_exactly struck.0).1 struck.1) in
      let below = holds_of (λ id. id < struck.0.id) struck.0.outranked most.0.id (standing_ranked struck.0 struck.1.0) struck.2 in
      omega arith in
      (most.0, ((formats_exactly most.0).0 most.1, free))

  -- the report is one of the three
  pub answer : (label : List ℕ) → Chosen (formats_hitting a book codes) (tentative book label) (report a book codes label)
      (record { status = Positive; hits = map (hit_of a book codes label) (unstruck a book codes) })
      (record { status = Tentative; hits = map tentative_of (tentative book label) })
      (record { status = Negative; hits = [] })
  answer label = chosen (formats_hitting a book codes) (tentative book label) _ _ _

  -- what a report lists is not nothing if a format is listed
  not_empty : (hit : Format → Hit) (fs : List Format) (f : Format) → Contains fs f → map hit fs ≡ [] → ⊥
  not_empty hit fs f here none = contains_nil (hit f) (subst (λ hs. Contains hs (hit f)) none ((contains_map hit fs (hit f)).1 (f, here, refl)))

  -- what is listed of formats is what is given of each
  listed_as : (hit : Format → Hit) (fs : List Format) (Is : Format → Type 0) → ((f : Format) → Contains fs f ↔ Is f)
      → (r : Report) → r.hits ≡ map hit fs → (h : Hit) → Contains r.hits h ↔ HitOf a book codes hit Is h
  listed_as hit fs Is exactly r is h =
      let here = contains_map hit fs h in (
        λ k. let l = here.0 (subst (λ hs. Contains hs h) is k) in (l.0, (exactly l.0).0 l.1, l.2),
        λ k. subst (λ hs. Contains hs h) (sym is) (here.1 (k.0, (exactly k.0).1 k.1, k.2)),
      )

  -- where the list is empty, no format hits
  no_hits : formats_hitting a book codes ≡ [] → ((f : Format) × FormatHits a book codes f) → ⊥
  no_hits none hits = contains_nil hits.0 (subst (λ fs. Contains fs hits.0) none ((formats_exactly hits.0).1 hits.1))

  module _ (label : List ℕ) where
    -- where a format hits
    laws_positive : (f : Format) → Contains (formats_hitting a book codes) f
        → report a book codes label ≡ record { status = Positive; hits = map (hit_of a book codes label) (unstruck a book codes) } → ReportLaws a book codes label
    laws_positive f here is =
        let status = ap (λ (r : Report). r.status) is in
        let hits = ap (λ (r : Report). r.hits) is in
        let some = some_listed f ((formats_exactly f).0 here) in
        record {
          positive = (λ _. (f, (formats_exactly f).0 here), λ _. status);
          negative = (
            λ e. absurd (apart_statuses.1 (sym status ∙ e)),
            λ none. absurd (not_empty (hit_of a book codes label) (unstruck a book codes) some.0 ((unstruck_exactly some.0).1 some.1) (sym hits ∙ none)),
          );
          listed = λ _ h. listed_as (hit_of a book codes label) (unstruck a book codes) (Listed a book codes) unstruck_exactly (report a book codes label) hits h;
          specifically = λ f. specific_decides f;
          keyed = λ e. absurd (apart_statuses.0 (sym status ∙ e));
        }

    -- where none hits, and some have an equal label
    laws_tentative : formats_hitting a book codes ≡ [] → (f : Format) → Contains (tentative book label) f
        → report a book codes label ≡ record { status = Tentative; hits = map tentative_of (tentative book label) } → ReportLaws a book codes label
    laws_tentative none f here is =
        let status = ap (λ (r : Report). r.status) is in
        let hits = ap (λ (r : Report). r.hits) is in
        record {
          positive = (λ e. absurd (apart_statuses.0 (sym e ∙ status)), λ h. absurd (no_hits none h));
          negative = (
            λ e. absurd (apart_statuses.2 (sym status ∙ e)),
            λ empty. absurd (not_empty tentative_of (tentative book label) f here (sym hits ∙ empty)),
          );
          listed = λ e. absurd (apart_statuses.0 (sym e ∙ status));
          specifically = λ f. specific_decides f;
          keyed = λ _ h. listed_as tentative_of (tentative book label) (Keyed a book codes label) (tentative_exactly label) (report a book codes label) hits h;
        }

    -- and where neither
    laws_negative : formats_hitting a book codes ≡ [] → report a book codes label ≡ record { status = Negative; hits = [] } → ReportLaws a book codes label
    laws_negative none is =
        let status = ap (λ (r : Report). r.status) is in
        record {
          positive = (λ e. absurd (apart_statuses.1 (sym e ∙ status)), λ h. absurd (no_hits none h));
          negative = (λ _. ap (λ (r : Report). r.hits) is, λ _. status);
          listed = λ e. absurd (apart_statuses.1 (sym e ∙ status));
          specifically = λ f. specific_decides f;
          keyed = λ e. absurd (apart_statuses.2 (sym e ∙ status));
        }

    -- a report says what the rules say
    pub laws : ReportLaws a book codes label
    laws =
        ⊎_elim
        (λ p. laws_positive p.0 p.1 p.2)
        (⊎_elim (λ t. laws_tentative t.0 t.1.0 t.1.1 t.2) (λ n. laws_negative n.0 n.2))
        (answer label)
