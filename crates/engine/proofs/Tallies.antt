-- The tally of a pattern's items gives what its fragments give.
use Rattle.std.proofs.Common.{◌≡◌, ℕ, suc, ◌+◌, ◌-◌, ◌^◌, ◌≤◌, min, Bool, true, false, cond, ◌||◌, ltb, leb, List, [], ◌∷◌, ◌++◌, length, Some, None, Option, unwrap_or, sym, refl, ap, ◌∙◌, subst, ap₂, append_assoc, add-one, arith}
use Rattle.std.proofs.lemmas.Bool.Decides.{nat_tests}
use Rattle.std.specs.Option.{option_or}
use Rattle.patterns.specs.Fragments.{least, span, sum, some, is_gap, endless, wrong, least_with, is_literal, Fragment, cut_from, fragments, wrong_place, first_place, fragment_place, bare_place}
use Rattle.patterns.specs.Grammar.{Placed}
use Rattle.patterns.specs.Patterns.{Item}
use Rattle.patterns.specs.Limits.{refusal}
use Rattle.engine.specs.Tallies.{empty, single, joined, initial, smallest_with, closed, judged, with_gap, begun, extended, with_thing, with_item, tallied}
use Rattle.faults.specs.declared.fault.Cause.{Cause}
use Rattle.faults.specs.declared.fault.Cause.TheVariants.{Limit, NoLiteral}
use Rattle.engine.specs.declared.limits.Section.{Section}
use Rattle.engine.specs.declared.limits.Tally.{Tally}

-- Smallest places.

-- two places are found in either order
least_with_swap : (found : Option ℕ) (m n : ℕ) → least_with (least_with found m) n ≡ least_with (least_with found n) m
least_with_swap None m n = ap Some (omega arith)
least_with_swap (Some k) m n = ap Some (omega arith)

-- the same where the first may not be beyond a limit
smallest_swap : (found : Option ℕ) (beyond : Bool) (m n : ℕ) → least_with (smallest_with found beyond m) n ≡ smallest_with (least_with found n) beyond m
smallest_swap found true m n = least_with_swap found m n
smallest_swap found false m n = refl

-- a place may be found before the wrong items or after them
wrong_place_with : (found : Option ℕ) (n : ℕ) (qs : List Placed) → wrong_place (least_with found n) qs ≡ least_with (wrong_place found qs) n
wrong_place_with found n [] = refl
wrong_place_with found n (q ∷ qs) =
    ap (λ f. wrong_place f qs) (sym (smallest_swap found (wrong q.item) q.place n)) ∙ wrong_place_with (smallest_with found (wrong q.item) q.place) n qs

-- the same of a place that may not be beyond a limit
wrong_place_smallest : (found : Option ℕ) (beyond : Bool) (n : ℕ) (qs : List Placed) → wrong_place (smallest_with found beyond n) qs ≡ smallest_with (wrong_place found qs) beyond n
wrong_place_smallest found true n qs = wrong_place_with found n qs
wrong_place_smallest found false n qs = refl

-- What is kept of items.

-- where items begin
abbrev pub start_of : List Placed → Option ℕ
start_of [] = None
start_of (q ∷ qs) = Some q.place

-- a fragment begins where its items do
start_first : (qs : List Placed) → unwrap_or (start_of qs) 0 ≡ first_place qs
start_first [] = refl
start_first (q ∷ qs) = refl

-- items and those behind them begin where the first of them do
start_append : (ps qs : List Placed) → start_of (ps ++ qs) ≡ option_or (start_of ps) (start_of qs)
start_append [] qs = refl
start_append (p ∷ ps) qs = refl

-- a sum over items and those behind them
sum_append : (f : Item → ℕ) (ps qs : List Placed) → sum f (ps ++ qs) ≡ sum f ps + sum f qs
sum_append f [] qs = omega arith
sum_append f (p ∷ ps) qs = let h = sum_append f ps qs in omega arith

-- the order of brackets does not matter
or_assoc : (a b c : Bool) → (a || b || c) ≡ (a || (b || c))
or_assoc true b c = refl
or_assoc false b c = refl

-- a test of items and those behind them
some_append : (p : Item → Bool) (ps qs : List Placed) → some p (ps ++ qs) ≡ (some p ps || some p qs)
some_append p [] qs = refl
some_append p (x ∷ ps) qs = ap (λ b. p x.item || b) (some_append p ps qs) ∙ sym (or_assoc (p x.item) (some p ps) (some p qs))

-- A stretch keeps what counts of some items. A span counts up to the greatest that fits.
pub record Keeps (s : Section) (qs : List Placed) : Type 0 where
  pub start : s.start ≡ start_of qs
  pub spans : min s.span (2 ^ 32 - 1) ≡ min (sum span qs) (2 ^ 32 - 1)
  pub literals : s.literal ≡ some is_literal qs
  pub ends : s.endless ≡ some endless qs

-- no items are kept as nothing
keeps_empty : Keeps empty []
keeps_empty = record { start = refl; spans = refl; literals = refl; ends = refl }

-- a test, and none more
or_false : (b : Bool) → b ≡ (b || false)
or_false true = refl
or_false false = refl

-- one item is kept
keeps_single : (q : Placed) → Keeps (single q) (q ∷ [])
keeps_single q =
    record { start = refl; spans = omega arith; literals = or_false (is_literal q.item); ends = or_false (endless q.item) }

-- items and those behind them are kept
keeps_joined : (a b : Section) (ps qs : List Placed) → Keeps a ps → Keeps b qs → Keeps (joined a b) (ps ++ qs)
keeps_joined a b ps qs h k =
    record {
      start = ap₂ option_or h.start k.start ∙ sym (start_append ps qs);
      spans = (let e = sum_append span ps qs in let m = h.spans in let n = k.spans in omega arith);
      literals = ap₂ ◌||◌ h.literals k.literals ∙ sym (some_append is_literal ps qs);
      ends = ap₂ ◌||◌ h.ends k.ends ∙ sym (some_append endless ps qs);
    }

-- what is kept passes the limit of a span where the items do
over_alike : (s : Section) (qs : List Placed) → Keeps s qs → ltb 1024 s.span ≡ ltb 1024 (sum span qs)
over_alike s qs h = let e = h.spans in grind (arith, nat_tests)

-- what is kept begins where the fragment does
first_alike : (s : Section) (qs : List Placed) → Keeps s qs → unwrap_or s.start 0 ≡ first_place qs
first_alike s qs h = ap (λ o. unwrap_or o 0) h.start ∙ start_first qs

-- What a tally gives.

-- A tally gives what some fragments give, from a number of fragments, a smallest place beyond a limit and the place of a
-- fragment without a literal on.
pub record Gives (r : Tally) (ended : ℕ) (limit bare : Option ℕ) (fs : List Fragment) : Type 0 where
  pub count : r.ended ≡ ended + length fs
  pub limits : r.limit ≡ fragment_place ended limit fs
  pub bares : r.bare ≡ option_or bare (bare_place fs)

-- a fragment without a literal is found before those that follow
bare_on : (b : Bool) (found rest : Option ℕ) (n : ℕ) → option_or (cond b found (option_or found (Some n))) rest ≡ option_or found (cond b rest (Some n))
bare_on true found rest n = refl
bare_on false None rest n = refl
bare_on false (Some m) rest n = refl

-- nothing more is found
or_none : (found : Option ℕ) → found ≡ option_or found None
or_none None = refl
or_none (Some n) = refl

-- a fragment that has ended is in front of those that follow
ended_gives : (t : Tally) (break : ℕ) (body : List Placed) → Keeps t.body body → (qs : List Placed) (r : Tally) (fs : List Fragment)
    → Gives r (closed t).ended (wrong_place (closed t).limit qs) (closed t).bare fs
    → Gives r t.ended (wrong_place t.limit qs) t.bare (record { break = break; body = body } ∷ fs)
ended_gives t break body k qs r fs h =
    let found = wrong_place t.limit qs in
    let beyond = leb 8 t.ended || ltb 1024 t.body.span in
    record {
      count = (let e = h.count in omega arith);
      limits =
          h.limits
          ∙ ap₂ (λ n f. fragment_place n f fs) (add-one t.ended) (wrong_place_smallest t.limit beyond (unwrap_or t.body.start 0) qs)
          ∙ ap₂ (λ b n. fragment_place (suc t.ended) (smallest_with found (leb 8 t.ended || b) n) fs) (over_alike t.body body k) (first_alike t.body body k);
      bares =
          h.bares
          ∙ bare_on t.body.literal t.bare (bare_place fs) (unwrap_or t.body.start 0)
          ∙ ap₂ (λ b n. option_or t.bare (cond b (bare_place fs) (Some n))) k.literals (first_alike t.body body k);
    }

-- what a tally gives of the items to come, whatever came before
abbrev GivesOn : List Placed → Type 0
GivesOn qs =
    (t : Tally) (break : ℕ) (body spacing : List Placed)
    → Keeps t.body body → Keeps t.spacing spacing → Gives (closed (tallied t qs)) t.ended (wrong_place t.limit qs) t.bare (cut_from break body spacing qs)

-- the fragments, where a thing begins one or not
abbrev divided : Bool → ℕ → List Placed → List Placed → Placed → List Placed → List Fragment
divided cuts break body spacing q qs =
    elim cuts [
      | true ↦ record { break = break; body = body } ∷ cut_from (sum least spacing) (q ∷ []) [] qs
      | false ↦ cut_from break (body ++ (spacing ++ q ∷ [])) [] qs
    ]

-- one item, and what is given of those behind it
module _ (q : Placed) (qs : List Placed) (later : GivesOn qs) (t : Tally) (break : ℕ) (body spacing : List Placed) (k : Keeps t.body body) (l : Keeps t.spacing spacing) where
  -- a thing, which begins a fragment or not
  thing_gives : (cuts : Bool)
      → Gives (closed (tallied (cond cuts (begun t (single q)) (extended t (single q))) qs)) t.ended (wrong_place t.limit qs) t.bare (divided cuts break body spacing q qs)
  thing_gives true =
      ended_gives t break body k qs _ (cut_from (sum least spacing) (q ∷ []) [] qs) (later _ (sum least spacing) (q ∷ []) [] (keeps_single q) keeps_empty)
  thing_gives false =
      let all = keeps_joined _ (single q) (body ++ spacing) (q ∷ []) (keeps_joined t.body t.spacing body spacing k l) (keeps_single q) in
      later _ break (body ++ (spacing ++ q ∷ [])) [] (subst (Keeps _) (append_assoc body spacing (q ∷ [])) all) keeps_empty

  -- a gap or a thing
  item_gives : (gap : Bool)
      → Gives
      (closed (tallied (cond gap (with_gap t (single q)) (with_thing t (single q))) qs))
      t.ended (wrong_place t.limit qs) t.bare
      (elim gap [ true ↦ cut_from break body (spacing ++ q ∷ []) qs | false ↦ divided (some endless spacing) break body spacing q qs ])
  item_gives true = later _ break body (spacing ++ q ∷ []) k (keeps_joined t.spacing (single q) spacing (q ∷ []) l (keeps_single q))
  item_gives false =
      subst
      (λ b. Gives (closed (tallied (with_thing t (single q)) qs)) t.ended (wrong_place t.limit qs) t.bare (divided b break body spacing q qs))
      l.ends
      (thing_gives t.spacing.endless)

-- a tally gives what the fragments give, whatever came before
gives_on : (qs : List Placed) → GivesOn qs
gives_on [] t break body spacing k l =
    ended_gives t break body k [] (closed t) [] (record { count = omega arith; limits = refl; bares = or_none (closed t).bare })
gives_on (q ∷ qs) t break body spacing k l = item_gives q qs (gives_on qs) (judged t q) break body spacing k l (is_gap q.item)

-- The tally of all items gives their limit, their first fragment without a literal and the number of their fragments.
pub tally_gives : (qs : List Placed) → Gives (closed (tallied initial qs)) 0 (wrong_place None qs) None (fragments 0 qs)
tally_gives qs = gives_on qs initial 0 [] [] keeps_empty keeps_empty

-- a thing ends at most one fragment
thing_ended : (b : Bool) (t : Tally) (s : Section) → (cond b (begun t s) (extended t s)).ended ≤ t.ended + 1
thing_ended true t s = omega arith
thing_ended false t s = omega arith

-- and a gap none
item_ended : (b : Bool) (t : Tally) (s : Section) → (cond b (with_gap t s) (with_thing t s)).ended ≤ t.ended + 1
item_ended true t s = omega arith
item_ended false t s = thing_ended t.spacing.endless t s

-- an item ends at most one fragment
pub with_item_ended : (t : Tally) (q : Placed) → (with_item t q).ended ≤ t.ended + 1
with_item_ended t q = item_ended (is_gap q.item) (judged t q) (single q)

-- a limit comes before a missing literal
abbrev pub answer : Option ℕ → Option ℕ → Option (Cause × ℕ)
answer limit bare = elim limit [ Some n ↦ Some (Limit, n) | None ↦ elim bare [ Some n ↦ Some (NoLiteral, n) | None ↦ None ] ]

-- the tally of all items answers as the definition does
pub tally_answers : (t : Tally) (qs : List Placed) → t ≡ closed (tallied initial qs) → answer t.limit t.bare ≡ refusal qs
tally_answers t qs e = let g = tally_gives qs in ap₂ answer (ap (λ u. u.limit) e ∙ g.limits) (ap (λ u. u.bare) e ∙ g.bares)

-- and counts their fragments
pub tally_counts : (t : Tally) (qs : List Placed) → t ≡ closed (tallied initial qs) → t.ended ≡ length (fragments 0 qs)
tally_counts t qs e = let g = (tally_gives qs).count in let f = ap (λ u. u.ended) e in omega arith
