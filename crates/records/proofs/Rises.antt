-- The ids of what stands in a lawful book rise, and so do those of a report.
use Rattle.std.proofs.Common.{◌≡◌, ℕ, ◌<◌, Bool, true, false, cond, T, List, [], ◌∷◌, map, Option, sym, refl, ap, ◌∙◌, subst, ⊎_elim, arith}
use Rattle.std.specs.FinMap as map
use Rattle.std.specs.Ordering.{nat_cmp}
use Rattle.std.specs.List.{filter, filter_map, cons_option, AllByRecursion}
use Rattle.kinds.specs.Alphabet.{Alphabet}
use Rattle.records.specs.Book.{Book, format_in, formats_of}
use Rattle.records.specs.Entries.{Format, Rising}
use Rattle.records.specs.Lawful.{Lawful, FormatStands}
use Rattle.records.specs.Report.{labelled, tentative, tentative_of, Report, format_hits, formats_hitting, unstruck, hit_of, report}
use Rattle.records.specs.declared.report.Hit.{Hit}
use Rattle.records.proofs.Books.{sorted_parts}
use Rattle.records.proofs.Reports.{answer}

-- a number below rising ones goes before them
pub rising_cons : (m : ℕ) (ns : List ℕ) → AllByRecursion (λ n. m < n) ns → Rising ns → Rising (m ∷ ns)
rising_cons m [] above rises = tt
rising_cons m (n ∷ ns) above rises = (above.0, rises)

-- the others of rising numbers rise
pub rising_tail : (m : ℕ) (ns : List ℕ) → Rising (m ∷ ns) → Rising ns
rising_tail m [] rises = tt
rising_tail m (n ∷ ns) rises = rises.1

-- the first is below all others
pub rising_head : (m : ℕ) (ns : List ℕ) → Rising (m ∷ ns) → AllByRecursion (λ n. m < n) ns
rising_head m [] rises = tt
rising_head m (n ∷ []) rises = (rises.0, tt)
rising_head m (n ∷ o ∷ ns) rises = (rises.0, rising_head m (o ∷ ns) (let lt : m < o = omega arith in (lt, rises.1.1)))

-- the ids of some formats
abbrev ids : List Format → List ℕ
ids fs = map (λ (f : Format). f.id) fs

-- what is above a number is so after a filter
above_filter : (m : ℕ) (p : Format → Bool) (fs : List Format) → AllByRecursion (λ n. m < n) (ids fs) → AllByRecursion (λ n. m < n) (ids (filter p fs))
above_filter m p [] above = tt
above_filter m p (f ∷ fs) above =
    let rest = above_filter m p fs above.1 in
    elim (p f) as (λ (b : Bool). AllByRecursion (λ n. m < n) (ids (cond b (f ∷ filter p fs) (filter p fs)))) [ true ↦ (above.0, rest) | false ↦ rest ]

-- ids that rise rise after a filter
rising_filter : (p : Format → Bool) (fs : List Format) → Rising (ids fs) → Rising (ids (filter p fs))
rising_filter p [] rises = tt
rising_filter p (f ∷ fs) rises =
    let rest = rising_filter p fs (rising_tail f.id (ids fs) rises) in
    elim (p f) as (λ (b : Bool). Rising (ids (cond b (f ∷ filter p fs) (filter p fs)))) [
      | true ↦ rising_cons f.id (ids (filter p fs)) (above_filter f.id p fs (rising_head f.id (ids fs) rises)) rest
      | false ↦ rest
    ]

-- keys above a number
keys_above : (k : ℕ) (es : List (ℕ × List ℕ)) → AllByRecursion (λ e. k < e.0) es → AllByRecursion (λ n. k < n) (map (λ e. e.0) es)
keys_above k [] above = tt
keys_above k (e ∷ es) above = (above.0, keys_above k es above.1)

-- keys that are in order rise
keys_rise : (es : List (ℕ × List ℕ)) → T (map.is_sorted nat_cmp es) → Rising (map (λ e. e.0) es)
keys_rise [] sorted = tt
keys_rise (e ∷ es) sorted =
    let parts = (sorted_parts e es).0 sorted in
    rising_cons e.0 (map (λ f. f.0) es) (keys_above e.0 es parts.0) (keys_rise es parts.1)

-- formats that stand have their keys for ids
ids_standing : (book : Book) (es : List (ℕ × List ℕ)) → AllByRecursion (FormatStands book) es → ids (filter_map format_in (map (λ e. e.1) es)) ≡ map (λ e. e.0) es
ids_standing book [] stand = refl
ids_standing book (e ∷ es) stand =
    let first = ap (λ (o : Option Format). ids (cons_option o (filter_map format_in (map (λ f. f.1) es)))) stand.0.reads in
    first ∙ (λ i. stand.0.id i ∷ ids_standing book es stand.1 i)

-- a report on formats has their ids
ids_of_hits : (hit : Format → Hit) → ((f : Format) → (hit f).id ≡ f.id) → (fs : List Format) → map (λ (h : Hit). h.id) (map hit fs) ≡ ids fs
ids_of_hits hit same [] = refl
ids_of_hits hit same (f ∷ fs) = λ i. same f i ∷ ids_of_hits hit same fs i

module _ {E : Type 0} (a : Alphabet E) (book : Book) (lawful : Lawful a book) where
  -- the ids of the formats that stand rise
  pub formats_rise : Rising (ids (formats_of book))
  formats_rise = subst Rising (sym (ids_standing book (map.entries book.formats) lawful.formats)) (keys_rise (map.entries book.formats) (map.entries_sorted book.formats))

  -- the ids of a report rise
  pub report_rises : (codes label : List ℕ) → Rising (map (λ (h : Hit). h.id) (report a book codes label).hits)
  report_rises codes label =
      let hit_ids = λ (r : Report). map (λ (h : Hit). h.id) r.hits in
      let rises = λ (p : Format → Bool). rising_filter p (formats_of book) formats_rise in
      ⊎_elim
      (λ p. subst Rising (sym (ap hit_ids p.2 ∙ ids_of_hits (hit_of a book codes label) (λ f. refl) (unstruck a book codes))) (rising_filter _ (formats_hitting a book codes) (rises (format_hits a book codes))))
      (⊎_elim
      (λ t. subst Rising (sym (ap hit_ids t.2 ∙ ids_of_hits tentative_of (λ f. refl) (tentative book label))) (rises (labelled label)))
      (λ n. subst Rising (sym (ap hit_ids n.2)) tt))
      (answer a book codes label)
