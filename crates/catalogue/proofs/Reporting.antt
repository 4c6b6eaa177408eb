-- How a report comes about: flags of formats, and loops that list some of them.
use Rattle.std.proofs.Common.{◌≡◌, ℕ, suc, Bool, true, false, cond, not, ◌&&◌, ◌||◌, ◌==◌, List, [], ◌∷◌, map, filter, length, Bor, sym, refl, ap, ◌∙◌, arith}
use Rattle.std.proofs.lemmas.Bool.Decides.{nat_tests}
use Rattle.std.specs.Prelude.{if◌then◌else◌}
use Rattle.std.specs.List.{list_any, zip}
use Rattle.kinds.specs.Alphabet.{Alphabet}
use Rattle.records.specs.Book.{Book, formats_of}
use Rattle.records.specs.Entries.{Signature, Format}
use Rattle.records.specs.Report.{among_ids, hit_by, hit_of_by, hitting, names, outranks, report, report_by, tentative_among, tentative_of, those_hit_by, unstruck_by, warned, Report}
use Rattle.records.specs.Taken.{format_in}
use Rattle.records.specs.declared.report.Hit.{Hit}
use Rattle.records.specs.declared.report.HitStatus.TheVariants.{Specific, Generic}
use Rattle.records.specs.declared.report.Status.{Status}
use Rattle.records.specs.declared.report.Status.TheVariants.{Positive, Tentative, Negative}
use Rattle.records.proofs.Labels.{list_any-map}
use Rattle.catalogue.specs.Reporting.{bare, flagged, hitting_in}
use Rattle.catalogue.specs.Standing.{formats_in}
use Rattle.catalogue.specs.declared.formats.StandingFormat.{StandingFormat}
use Rattle.catalogue.specs.declared.hitting.Hitting.{Hitting}

-- some flagged element passes a test
pub any_flagged : {X Y : Type 0} (p : Y → Bool) (g : X → Y) (xs : List X) (flags : List Bool) → list_any (λ (x : X × Bool). x.1 && p (g x.0)) (zip xs flags) ≡ list_any p (flagged (map g xs) flags)
any_flagged p g [] [] = refl
any_flagged p g [] (b ∷ flags) = refl
any_flagged p g (x ∷ xs) [] = refl
any_flagged p g (x ∷ xs) (true ∷ flags) = ap (λ b. p (g x) || b) (any_flagged p g xs flags)
any_flagged p g (x ∷ xs) (false ∷ flags) = any_flagged p g xs flags

-- the elements that are flagged by a test are those that pass it
pub flagged-map : {X : Type 0} (p : X → Bool) (xs : List X) → flagged xs (map p xs) ≡ filter p xs
flagged-map p [] = refl
flagged-map p (x ∷ xs) = ap (λ ys. cond (p x) (x ∷ ys) ys) (flagged-map p xs)

-- a list with an element is not empty
not_empty : (n : ℕ) → (suc n == 0) ≡ false
not_empty n = grind (arith, nat_tests)

-- a flag is set where some element passes
pub any_flag : {X : Type 0} (p : X → Bool) (xs : List X) → list_any (λ b. b) (map p xs) ≡ not (length (filter p xs) == 0)
any_flag p [] = refl
any_flag p (x ∷ xs) =
    elim (p x) as (λ (b : Bool). (b || list_any (λ c. c) (map p xs)) ≡ not (length (cond b (x ∷ filter p xs) (filter p xs)) == 0)) [
      | true ↦ sym (ap not (not_empty (length (filter p xs))))
      | false ↦ any_flag p xs
    ]

-- what is listed of the flagged elements that pass a test
pub list_flagged : {X Y Z : Type 0} (f : Y → Z) (p : Y → Bool) (g : X → Y) (xs : List X) (flags : List Bool)
    → map (λ (x : X × Bool). f (g x.0)) (filter (λ (x : X × Bool). x.1 && p (g x.0)) (zip xs flags)) ≡ map f (filter p (flagged (map g xs) flags))
list_flagged f p g [] [] = refl
list_flagged f p g [] (b ∷ flags) = refl
list_flagged f p g (x ∷ xs) [] = refl
list_flagged {X} {Y} f p g (x ∷ xs) (true ∷ flags) =
    let rest = list_flagged f p g xs flags in
    elim (p (g x)) as (λ (b : Bool). map (λ (y : X × Bool). f (g y.0)) (cond b ((x, true) ∷ filter (λ (y : X × Bool). y.1 && p (g y.0)) (zip xs flags)) (filter (λ (y : X × Bool). y.1 && p (g y.0)) (zip xs flags))) ≡ map f (cond b (g x ∷ filter p (flagged (map g xs) flags)) (filter p (flagged (map g xs) flags)))) [
      | true ↦ ap (λ zs. f (g x) ∷ zs) rest
      | false ↦ rest
    ]
list_flagged f p g (x ∷ xs) (false ∷ flags) = list_flagged f p g xs flags

-- what is listed of the elements that pass a test, by a view of them
pub list_filtered : {X Y Z : Type 0} (f : Y → Z) (p : Y → Bool) (g : X → Y) (xs : List X) → map (λ x. f (g x)) (filter (λ x. p (g x)) xs) ≡ map f (filter p (map g xs))
list_filtered f p g [] = refl
list_filtered f p g (x ∷ xs) =
    let rest = list_filtered f p g xs in
    elim (p (g x)) as (λ (b : Bool). map (λ y. f (g y)) (cond b (x ∷ filter (λ y. p (g y)) xs) (filter (λ y. p (g y)) xs)) ≡ map f (cond b (g x ∷ filter p (map g xs)) (filter p (map g xs)))) [
      | true ↦ ap (λ zs. f (g x) ∷ zs) rest
      | false ↦ rest
    ]

-- what a loop over formats and flags lists is what a positive report lists
pub list_unstruck : (hitting : List Signature) (formats : List StandingFormat) (flags : List Bool) (label : List ℕ) (pairs : List (Bor StandingFormat × Bor Bool))
    → flags ≡ map (hit_by hitting) (formats_in formats)
    → map (λ (p : Bor StandingFormat × Bor Bool). (p.0.now, p.1.now)) pairs ≡ zip formats flags
    → map (λ (p : Bor StandingFormat × Bor Bool). hit_of_by hitting label (format_in p.0.now.format)) (filter (λ (p : Bor StandingFormat × Bor Bool). p.1.now && not (list_any (λ (f : Format). among_ids p.0.now.format.id f.outranked) (flagged (formats_in formats) flags))) pairs)
    ≡ map (hit_of_by hitting label) (unstruck_by hitting (formats_in formats))
list_unstruck hitting formats flags label pairs flags_are pairs_are =
    let hit = hit_of_by hitting label in
    let kept = λ (fs : List Format) (g : Format). not (list_any (λ (f : Format). among_ids g.id f.outranked) fs) in
    let flagged_formats = flagged (formats_in formats) flags in
    let those_hit : flagged_formats ≡ filter (hit_by hitting) (formats_in formats) = ap (flagged (formats_in formats)) flags_are ∙ flagged-map (hit_by hitting) (formats_in formats) in
    list_filtered (λ (x : StandingFormat × Bool). hit (format_in x.0.format)) (λ (x : StandingFormat × Bool). x.1 && kept flagged_formats (format_in x.0.format)) (λ (p : Bor StandingFormat × Bor Bool). (p.0.now, p.1.now)) pairs
    ∙ ap (λ (xs : List (StandingFormat × Bool)). map (λ (x : StandingFormat × Bool). hit (format_in x.0.format)) (filter (λ (x : StandingFormat × Bool). x.1 && kept flagged_formats (format_in x.0.format)) xs)) pairs_are
    ∙ list_flagged hit (kept flagged_formats) (λ (e : StandingFormat). format_in e.format) formats flags
    ∙ ap (λ (fs : List Format). map hit (filter (kept fs) fs)) those_hit

-- a report where a format hits
pub positive_report : (hitting : List Signature) (formats : List Format) (label : List ℕ) (hits : List Hit) → not (length (those_hit_by hitting formats) == 0) ≡ true
    → hits ≡ map (hit_of_by hitting label) (unstruck_by hitting formats) → ◌≡◌ {A = Report} (record { status = Positive; hits = hits }) (report_by hitting formats label)
positive_report hitting formats label hits some listed = rw (some, listed) refl

-- a report where no format hits
pub other_report : (hitting : List Signature) (formats : List Format) (label : List ℕ) (hits : List Hit) (status : Status) → not (length (those_hit_by hitting formats) == 0) ≡ false
    → hits ≡ map tentative_of (tentative_among formats label) → status ≡ (if length hits == 0 then Negative else Tentative)
    → ◌≡◌ {A = Report} (record { status = status; hits = hits }) (report_by hitting formats label)
other_report hitting formats label hits status none listed is = rw (none, is, listed) (by_length (tentative_among formats label))
  where
    by_length : (fs : List Format) → ◌≡◌ {A = Report} (record { status = if length (map tentative_of fs) == 0 then Negative else Tentative; hits = map tentative_of fs })
        (if not (length fs == 0) then record { status = Tentative; hits = map tentative_of fs } else record { status = Negative; hits = [] })
    by_length [] = refl
    by_length (f ∷ fs) = rw (not_empty (length (map tentative_of fs)), not_empty (length fs)) refl

-- a signature as far as a report reads it
abbrev pub bared : Signature → Signature
bared s = bare s.id s.specific

-- a report by which formats hit, and which of them are specific
abbrev by_tests : (Format → Bool) → (Format → Bool) → List Format → List ℕ → Report
by_tests hits is_specific formats label =
    if not (length (filter hits formats) == 0) then record {
      status = Positive;
      hits = map (λ (f : Format). record { id = f.id; status = if is_specific f then Specific else Generic; mismatch = warned label f }) (filter (λ g. not (list_any (λ f. outranks f g) (filter hits formats))) (filter hits formats));
    } else if not (length (tentative_among formats label) == 0) then record { status = Tentative; hits = map tentative_of (tentative_among formats label) } else record { status = Negative; hits = [] }

-- a report reads no more of the signatures that hit
pub report_by-bared : (hitting : List Signature) (formats : List Format) (label : List ℕ) → report_by (map bared hitting) formats label ≡ report_by hitting formats label
report_by-bared hitting formats label = λ i. by_tests (λ f. list_any-map (names f) bared hitting i) (λ f. list_any-map (λ (s : Signature). names f s && s.specific) bared hitting i) formats label

-- so the report of the signatures that hit and the formats that stand is that of their book
pub reported : {E : Type 0} (a : Alphabet E) (book : Book) (codes label : List ℕ) (hits : List Hitting) (formats : List StandingFormat)
    → hitting_in hits ≡ map bared (hitting a book codes) → formats_in formats ≡ formats_of book
    → report_by (hitting_in hits) (formats_in formats) label ≡ report a book codes label
reported a book codes label hits formats hits_are formats_are =
    ap (λ (ss : List Signature). report_by ss (formats_in formats) label) hits_are ∙ report_by-bared (hitting a book codes) (formats_in formats) label
    ∙ ap (λ (fs : List Format). report_by (hitting a book codes) fs label) formats_are
