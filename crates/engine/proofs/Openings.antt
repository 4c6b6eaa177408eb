-- What follows where the literal that a fragment begins with does not stand before an anchor.
use Rattle.std.proofs.Common.{◌≡◌, ℕ, zero, suc, ◌-◌, ◌<◌, List, [], ◌∷◌, ◌++◌, length, take, drop, Some, None, sym, ap, ◌∙◌, subst, arith}
use Rattle.std.specs.List.{AllByRecursion as All, slice_get}
use Rattle.std.proofs.lemmas.Option.{none-some}
use Rattle.patterns.specs.Fragments.{Anchor}
use Rattle.patterns.specs.Patterns.{literal, Cut, Item}
use Rattle.patterns.specs.Search.{stretch}
use Rattle.patterns.specs.Spans.{Bounded, sum_span}
use Rattle.patterns.proofs.Anchors.{code_literal, spans_at_most}
use Rattle.engine.specs.Finding.{LeastThrough}
use Rattle.engine.specs.Openings.{opening_code, Excluded, Known, OpeningOf}
use Rattle.engine.specs.declared.opening.Opening.{Opening}
use Rattle.engine.specs.declared.starts.Starts.{Starts}

-- where the first of some elements from a place on is known, it stands at that place
first_of : (xs : List ℕ) (s n c : ℕ) (rest : List ℕ) → take n (drop s xs) ≡ c ∷ rest → (0 < n) × (slice_get xs s ≡ Some c)
first_of [] zero zero c rest e = absurd (omega (arith, ap length e))
first_of [] zero (suc n) c rest e = absurd (omega (arith, ap length e))
first_of [] (suc s) zero c rest e = absurd (omega (arith, ap length e))
first_of [] (suc s) (suc n) c rest e = absurd (omega (arith, ap length e))
first_of (x ∷ xs) zero zero c rest e = absurd (omega (arith, ap length e))
first_of (x ∷ xs) zero (suc n) c rest e = let there : x ≡ c = cc in (omega arith, ap Some there)
first_of (x ∷ xs) (suc s) n c rest e = first_of xs s n c rest e

-- items that begin with the literal of a code
opens : (items : List Item) (c : ℕ) → opening_code items ≡ Some c → (others : List Item) × (items ≡ literal c ∷ others)
opens [] c e = absurd (none-some c e)
opens (i ∷ is) c e = (is, ap (λ x. x ∷ is) (code_literal i c e))

-- where the literal that the items before an anchor begin with does not stand near enough before a place, nothing ends through an
-- anchor there
pub through_excluded : (a : Anchor) (starts : Starts) (xs : List ℕ) (p : ℕ) (o : Opening) → OpeningOf a.front o → All Bounded a.front → sum_span a.front < 1024
    → Excluded o xs p → LeastThrough a starts xs p None
through_excluded a starts xs p o opening bounded short (c, is, none) e h =
    let begins = h.before.begins in
    let spans = h.before.spans in
    let near = spans_at_most a.front xs begins p bounded spans in
    let (others, begin) = opens a.front c (sym opening.code ∙ is) in
    let (run, rest, parts, here, more) = subst (λ items. Cut items (stretch xs begins p)) begin spans.cut in
    let (some, stands) = first_of xs begins (p - begins) c rest (parts ∙ ap (λ l. l ++ rest) here) in
    none begins (omega (arith, opening.far)) (omega arith) stands

-- before the first look nothing is known, and nothing need be
pub unlooked : (o : Opening) (xs : List ℕ) → o.after ≡ 0 → o.next ≡ 0 → Known o xs
unlooked o xs after next code is = record { inside = omega arith; last = λ some. absurd (omega arith); none = λ q l m. absurd (omega arith) }
