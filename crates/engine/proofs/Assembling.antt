-- Compiled fragments, one by one and together.
use Rattle.std.proofs.Common.{◌≡◌, ℕ, ◌+◌, ◌-◌, ◌<◌, ◌≤◌, List, [], ◌∷◌, ◌++◌, length, take, drop, Some, None, Option, sym, refl, ap, ◌∙◌, subst, arith, length-append, length-drop, length-take}
use lib.ListN.{length-map}
use Rattle.std.proofs.lemmas.List.{append_assoc, drop-drop, take-map, drop-map, take_rest}
use Rattle.engine.specs.AnchorCodes.{Cells}
use Rattle.patterns.specs.Fragments as spec
use Rattle.patterns.specs.Fragments.{Anchor, anchor, bodies, cut_from, sum_least, lead, shift}
use Rattle.patterns.specs.Grammar.{Placed}
use Rattle.patterns.specs.Patterns.{Item}
use Rattle.patterns.specs.declared.reference.Reference.{Reference}
use Rattle.engine.specs.Compiled.{literal_codes, anchor_at, Holds, Hold}
use Rattle.engine.specs.Compiling.{part_codes, part_items, Anchors, Cuts}
use Rattle.engine.specs.Codes.{ShiftsOf}
use Rattle.engine.specs.Reading.{held}
use Rattle.engine.specs.Stored.{items, placed_of}
use Rattle.engine.specs.declared.fragment.FirstCut.{FirstCut}
use Rattle.engine.specs.declared.fragment.Fragment.{Fragment}
use Rattle.engine.specs.declared.pattern.PlacedPart.{PlacedPart}
use Rattle.engine.specs.declared.pattern.Pattern.{Pattern}
use Rattle.engine.specs.declared.pattern.Run.{Run}
use Rattle.engine.proofs.Bodies.{part_codes_are, part_items_length, part_items_take, part_items_drop}

module _ (codes : List ℕ) (runs : List Run) (ps : List PlacedPart) where
  -- the items of the parts from one place to another
  pub items_between : (first n : ℕ) → items codes runs (take n (drop first ps)) ≡ take n (drop first (items codes runs ps))
  items_between first n = sym (take-map (placed_of codes runs) n (drop first ps)) ∙ ap (take n) (sym (drop-map (placed_of codes runs) first ps))

  -- the items of the parts from a place on
  items_from : (first : ℕ) (slice : List PlacedPart) → slice ≡ ps → items codes runs (take (length slice - first) (drop first slice)) ≡ drop first (items codes runs ps)
  items_from first slice same = ap (items codes runs) (take_rest slice first ∙ ap (drop first) same) ∙ sym (drop-map (placed_of codes runs) first ps)

  -- a cut of the parts from a place on is one of the items
  cuts_from : (first : ℕ) (slice : List PlacedPart) → slice ≡ ps → (end : ℕ) (next : Option (ℕ × ℕ)) → Cuts (items codes runs (take (length slice - first) (drop first slice))) end next → Cuts (drop first (items codes runs ps)) end next
  cuts_from first slice same end next = subst (λ qs. Cuts qs end next) (items_from first slice same)

  module _ (r : Reference) (first end : ℕ) (ordered : first ≤ end) (inside : end ≤ length ps) (body : List PlacedPart) (body_is : body ≡ take (end - first) (drop first ps))
      (start len : ℕ) (found : Anchors r (part_items codes runs body) start len) where
    -- the body's items
    abbrev is : List Item
    is = part_items codes runs body

    -- the fragment that the definition gives
    abbrev g : ℕ → spec.Fragment
    g gap = record { break = gap; body = take (end - first) (drop first (items codes runs ps)) }

    -- their items are the same
    same : (gap : ℕ) → is ≡ bodies (g gap).body
    same gap = ap bodies (ap (items codes runs) body_is ∙ items_between first (end - first))

    -- how many items the body has
    body_length : length is ≡ end - first
    body_length =
        let long = length-take (end - first) (drop first ps) in
        let left = length-drop first ps in
        let counted = part_items_length codes runs body in
        let cut = ap length body_is in
        omega arith

    -- the anchor stands within the body
    pub anchor_within : first + start + len ≤ end
    anchor_within = let h = found.literals.inside in let long = body_length in omega arith

    -- a fragment that is put together from its numbers
    pub assembled : (gap n : ℕ) (stored : Cells) (table : List ℕ)
        → n ≡ sum_least (part_items codes runs (take start body))
        → stored.items ≡ part_codes (take (start + len - start) (drop start body))
        → ShiftsOf table stored.items
        → Holds r (items codes runs ps) (record { first = first; end = end; anchor = first + start; codes = stored; break_before = gap; lead = n; shifts = table }) (g gap)
    assembled gap n stored table n_is stored_is table_is =
        let moved : first + start - first ≡ start = omega arith in
        let at : anchor r (bodies (g gap).body) ≡ anchor_at is start len = ap (anchor r) (sym (same gap)) ∙ found.anchored in
        let whole : start + len - start ≡ len = omega arith in
        let long = body_length in
        let counted = part_items_length codes runs body in
        let fits = found.literals.inside in
        let literals : part_items codes runs (take (start + len - start) (drop start body)) ≡ take len (drop start is) =
        part_items_take codes runs (start + len - start) (drop start body) ∙ ap (take (start + len - start)) (part_items_drop codes runs start body) ∙ ap (λ k. take k (drop start is)) whole in
        let kept : stored.items ≡ literal_codes (take len (drop start is)) = stored_is ∙ part_codes_are codes runs (take (start + len - start) (drop start body)) ∙ ap literal_codes literals in
        let many : length stored.items ≡ len = ap length kept ∙ found.literals.all in
        record {
          ordered = (omega arith, omega (arith, anchor_within), simp length-map inside);
          body = refl;
          break = refl;
          anchored = ap (anchor r) (sym (same gap)) ∙ found.anchored ∙ (λ k. anchor_at (same gap k) (sym moved k) (sym many k));
          codes = kept ∙ sym (ap (λ (a : Anchor). a.codes) at);
          leads = n_is ∙ ap sum_least (part_items_take codes runs start body) ∙ sym (ap lead at);
          shifts = λ index h. table_is index h ∙ ap (λ cs. shift cs index) (kept ∙ sym (ap (λ (a : Anchor). a.codes) at));
        }

-- a body ends within the items
cut_within : (qs : List Placed) (end : ℕ) (next : Option (ℕ × ℕ)) → Cuts qs end next → end ≤ length qs
cut_within qs end None cuts = cuts.0
cut_within qs end (Some next) cuts = let h = cuts.0 in let i = cuts.1 in omega arith

-- a fragment ends within the parts
end_within : (qs : List Placed) (n first end : ℕ) (next : Option (ℕ × ℕ)) → n ≡ length qs → first ≤ n → Cuts (drop first qs) end next → first + end ≤ n
end_within qs n first end next e h cuts = let left = length-drop first qs in let inside = cut_within (drop first qs) end next cuts in omega arith

-- the next fragment starts later, and within the parts
next_within : (qs : List Placed) (n first end start between : ℕ) → n ≡ length qs → Cuts (drop first qs) end (Some (start, between)) → (first < first + start) × (first + start < n)
next_within qs n first end start between e cuts = let left = length-drop first qs in let h = cuts.0 in let i = cuts.1 in (omega arith, omega arith)

module _ (r : Reference) (qs : List Placed) where
  -- fragments that hold what is left hold the whole, behind those that were compiled
  abbrev pub Completes : ℕ → ℕ → List Fragment → List spec.Fragment → Type 0
  Completes first gap done whole = (fs : List Fragment) → Hold r qs fs (cut_from gap [] [] (drop first qs)) → Hold r qs (done ++ fs) whole

  module _ (first end gap : ℕ) (f : Fragment) (holds : Holds r qs f (record { break = gap; body = take (first + end - first) (drop first qs) })) (done : List Fragment) (whole : List spec.Fragment) (so_far : Completes first gap done whole) where
    -- the body, by its length
    cut_body : Holds r qs f (record { break = gap; body = take end (drop first qs) })
    cut_body =
        let n : first + end - first ≡ end = omega arith in
        subst (λ k. Holds r qs f (record { break = gap; body = take k (drop first qs) })) n holds

    -- one fragment more
    completes_more : (start between : ℕ) → Cuts (drop first qs) end (Some (start, between)) → Completes (first + start) between (done ++ f ∷ []) whole
    completes_more start between cuts fs rest =
        let on : drop start (drop first qs) ≡ drop (first + start) qs = drop-drop start first qs in
        let left = subst (λ xs. Hold r qs fs (cut_from between [] [] xs)) (sym on) rest in
        subst (λ xs. Hold r qs xs whole) (sym (append_assoc done (f ∷ []) fs))
        (so_far (f ∷ fs) (subst (Hold r qs (f ∷ fs)) (sym (cuts.2 gap)) (cut_body, left)))

    -- the last fragment
    completes_last : Cuts (drop first qs) end None → Hold r qs (done ++ f ∷ []) whole
    completes_last cuts = so_far (f ∷ []) (subst (Hold r qs (f ∷ [])) (sym (cuts.1 gap)) (cut_body, tt))

-- a turn of the loop over the fragments: the parts from a place on were cut
module _ (p : Pattern) (slice : List PlacedPart) (slice_is : slice ≡ p.parts.items) (first : ℕ) (inside : first ≤ length slice) (cut : FirstCut)
    (cuts_all : (codes : List ℕ) (runs : List Run) → Cuts (items codes runs (take (length slice - first) (drop first slice))) cut.end cut.next) where
  -- the slice is as long as the items
  as_long : length slice ≡ length (held p)
  as_long = ap length slice_is ∙ sym (length-map p.parts.items (placed_of p.codes.items p.runs.items))

  -- the items that are left are cut so
  cuts : Cuts (drop first (held p)) cut.end cut.next
  cuts = cuts_from p.codes.items p.runs.items p.parts.items first slice slice_is cut.end cut.next (cuts_all p.codes.items p.runs.items)

  -- the fragment ends within the parts
  pub ends_within : first + cut.end ≤ length slice
  ends_within = end_within (held p) (length slice) first cut.end cut.next as_long inside cuts

  module _ (start between : ℕ) (next_is : cut.next ≡ Some (start, between)) where
    -- another fragment follows
    cuts_some : Cuts (drop first (held p)) cut.end (Some (start, between))
    cuts_some = subst (Cuts (drop first (held p)) cut.end) next_is cuts

    -- it starts later, and within the parts
    pub starts_within : (first < first + start) × (first + start < length slice)
    starts_within = next_within (held p) (length slice) first cut.end start between as_long cuts_some

    -- the fragment is pushed, and another follows
    pub pushed_more : (r : Reference) (gap : ℕ) (f : Fragment) → Holds r (held p) f (record { break = gap; body = take (first + cut.end - first) (drop first (held p)) })
        → (done more : List Fragment) (whole : List spec.Fragment) → Completes r (held p) first gap done whole → more ≡ done ++ f ∷ [] → Completes r (held p) (first + start) between more whole
    pushed_more r gap f holds done more whole so_far e =
        subst (λ fs. Completes r (held p) (first + start) between fs whole) (sym e) (completes_more r (held p) first cut.end gap f holds done whole so_far start between cuts_some)

    -- there is room for the others, as there was for all
    pub counted_more : (gap : ℕ) (f : Fragment) (done more : List Fragment) → length done + length (cut_from gap [] [] (drop first (held p))) ≤ 8 → more ≡ done ++ f ∷ []
        → length more + length (cut_from between [] [] (drop (first + start) (held p))) ≤ 8
    counted_more gap f done more room e =
        let on : drop start (drop first (held p)) ≡ drop (first + start) (held p) = drop-drop start first (held p) in
        let split = ap length (cuts_some.2 gap) in
        let rest = ap (λ qs. length (cut_from between [] [] qs)) on in
        let long = ap length e ∙ length-append done (f ∷ []) in
        omega arith

  -- the last fragment is pushed
  pub pushed_last : cut.next ≡ None → (r : Reference) (gap : ℕ) (f : Fragment) → Holds r (held p) f (record { break = gap; body = take (first + cut.end - first) (drop first (held p)) })
      → (done more : List Fragment) (whole : List spec.Fragment) → Completes r (held p) first gap done whole → more ≡ done ++ f ∷ [] → Hold r (held p) more whole
  pushed_last none r gap f holds done more whole so_far e =
      subst (λ fs. Hold r (held p) fs whole) (sym e) (completes_last r (held p) first cut.end gap f holds done whole so_far (subst (Cuts (drop first (held p)) cut.end) none cuts))
