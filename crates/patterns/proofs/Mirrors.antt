-- The mirrored pattern cuts the reversed list, and hits the reversed reading.
use Rattle.std.proofs.Common.{◌≡◌, ℕ, ◌≤◌, true, false, ◌↔◌, List, [], ◌∷◌, ◌++◌, reverse, length, sym, refl, ap, ◌∙◌, subst, subst₂, inl, inr}
use mathlib.Core.Path.{transport, transport⁻¹}
use Rattle.std.proofs.lemmas.List.{append-nil, append_assoc, reverse-append, reverse-reverse, length-reverse}
use Rattle.std.proofs.lemmas.Bool.Decides.{Decides-like, same_from_decides}
use Rattle.patterns.specs.Patterns.{Item, literal, any, group, range, other, gap, compared, Between, Among, AtMost, Matches, Cut, Allowed, Placement, UpTo}
use Rattle.patterns.specs.Patterns.{hits, turned, reversed_runs, mirrored_item, mirrored, turned_reference, MirroredAlike}
use Rattle.patterns.specs.declared.direction.Direction.{Direction}
use Rattle.patterns.specs.declared.direction.Direction.TheVariants.{FirstOn, LastOn}
use Rattle.patterns.specs.declared.reference.Reference.{Reference}
use Rattle.patterns.specs.declared.reference.Reference.TheVariants.{Front, Back, Anywhere}
use Rattle.patterns.proofs.Decisions.{InTwo, hits_exactly}

-- What is mirrored twice is as it was.

-- the direction
pub turned_twice : (d : Direction) → turned (turned d) ≡ d
turned_twice FirstOn = refl
turned_twice LastOn = refl

-- the side that is counted from
pub turned_reference_twice : (r : Reference) → turned_reference (turned_reference r) ≡ r
turned_reference_twice (Front least most) = refl
turned_reference_twice (Back least most) = refl
turned_reference_twice Anywhere = refl

-- the runs of a group
pub reversed_runs_twice : (runs : List (List ℕ)) → reversed_runs (reversed_runs runs) ≡ runs
reversed_runs_twice [] = refl
reversed_runs_twice (run ∷ runs) = λ i. reverse-reverse run i ∷ reversed_runs_twice runs i

-- an item
pub mirrored_item_twice : (i : Item) → mirrored_item (mirrored_item i) ≡ i
mirrored_item_twice (literal c) = refl
mirrored_item_twice any = refl
mirrored_item_twice (group runs) = ap group (reversed_runs_twice runs)
mirrored_item_twice (range d inside low high) = λ i. range (turned_twice d i) inside (reverse-reverse low i) (reverse-reverse high i)
mirrored_item_twice (other run) = ap other (reverse-reverse run)
mirrored_item_twice (gap least most) = refl

-- the parts of a mirrored pattern change places
pub mirrored_append : (is js : List Item) → mirrored (is ++ js) ≡ mirrored js ++ mirrored is
mirrored_append [] js = sym (append-nil (mirrored js))
mirrored_append (i ∷ is) js = ap (λ l. l ++ (mirrored_item i ∷ [])) (mirrored_append is js) ∙ append_assoc (mirrored js) (mirrored is) (mirrored_item i ∷ [])

-- the items
pub mirrored_twice : (items : List Item) → mirrored (mirrored items) ≡ items
mirrored_twice [] = refl
mirrored_twice (i ∷ is) = mirrored_append (mirrored is) (mirrored_item i ∷ []) ∙ (λ k. mirrored_item_twice i k ∷ mirrored_twice is k)

-- Cuts of a pattern in two parts.

-- what one item matches, it cuts
pub cut_one : (i : Item) (xs : List ℕ) → Matches i xs → Cut (i ∷ []) xs
cut_one i xs m = (xs, [], sym (append-nil xs), m, refl)

-- two cuts, one behind the other
pub cut_joined : (is js : List Item) (front rest : List ℕ) → Cut is front → Cut js rest → Cut (is ++ js) (front ++ rest)
cut_joined [] js front rest a b = subst (λ l. Cut js (l ++ rest)) (sym a) b
cut_joined (i ∷ is) js front rest (first, more, e, m, c) b =
    (first, more ++ rest, ap (λ l. l ++ rest) e ∙ append_assoc first more rest, m, cut_joined is js more rest c b)

-- what two parts of a pattern cut is two lists, one behind the other
cut_parted : (is js : List Item) (xs : List ℕ) → Cut (is ++ js) xs → InTwo (Cut is) (Cut js) xs
cut_parted [] js xs c = ([], xs, refl, refl, c)
cut_parted (i ∷ is) js xs (first, more, e, m, c) =
    let (front, rest, d, a, b) = cut_parted is js more c in
    (first ++ front, rest, e ∙ ap (λ l. first ++ l) d ∙ sym (append_assoc first front rest), (first, front, refl, m, a), b)

-- two parts of a pattern cut a list exactly when it is two lists, cut by the one and by the other
pub cut_append : (is js : List Item) (xs : List ℕ) → Cut (is ++ js) xs ↔ InTwo (Cut is) (Cut js) xs
cut_append is js xs =
    (cut_parted is js xs, λ h. subst (Cut (is ++ js)) (sym h.2) (cut_joined is js h.0 h.1 h.3 h.4))

-- Items and their mirrors.

-- compared from the other end, a reversed list is the list
pub compared_turned : (d : Direction) (xs : List ℕ) → compared (turned d) (reverse xs) ≡ compared d xs
compared_turned FirstOn xs = reverse-reverse xs
compared_turned LastOn xs = refl

-- so a reversed list lies in the mirrored range where the list lies in the range
between_turned : (d : Direction) (low high xs : List ℕ) → Between (turned d) (reverse low) (reverse high) (reverse xs) ≡ Between d low high xs
between_turned d low high xs = λ i. UpTo (compared_turned d low i) (compared_turned d xs i) × UpTo (compared_turned d xs i) (compared_turned d high i)

-- one of some runs, reversed, is one of the reversed runs
among_reversed : (xs : List ℕ) (runs : List (List ℕ)) → Among xs runs → Among (reverse xs) (reversed_runs runs)
among_reversed xs [] h = h
among_reversed xs (run ∷ runs) (inl e) = inl (ap reverse e)
among_reversed xs (run ∷ runs) (inr h) = inr (among_reversed xs runs h)

-- reversed lists are as long as one another where the lists are
same_length : (xs ys : List ℕ) → length xs ≡ length ys → length (reverse xs) ≡ length (reverse ys)
same_length xs ys e = length-reverse xs ∙ e ∙ sym (length-reverse ys)

-- what an item matches, its mirror matches reversed
pub matches_mirrored : (i : Item) (xs : List ℕ) → Matches i xs → Matches (mirrored_item i) (reverse xs)
matches_mirrored (literal c) xs e = ap reverse e
matches_mirrored any xs e = length-reverse xs ∙ e
matches_mirrored (group runs) xs h = among_reversed xs runs h
matches_mirrored (range d true low high) xs h = (same_length xs low h.0, transport⁻¹ (between_turned d low high xs) h.1)
matches_mirrored (range d false low high) xs h = (same_length xs low h.0, λ b. h.1 (transport (between_turned d low high xs) b))
matches_mirrored (other run) xs h =
    (same_length xs run h.0, λ e. h.1 (sym (reverse-reverse xs) ∙ ap reverse e ∙ reverse-reverse run))
matches_mirrored (gap least most) xs h = subst (λ n. (least ≤ n) × AtMost most n) (sym (length-reverse xs)) h

-- what the items cut, the mirrored items cut reversed
pub cut_mirrored : (items : List Item) (xs : List ℕ) → Cut items xs → Cut (mirrored items) (reverse xs)
cut_mirrored [] xs e = ap reverse e
cut_mirrored (i ∷ is) xs (front, rest, e, m, c) =
    subst
    (Cut (mirrored (i ∷ is)))
    (sym (ap reverse e ∙ reverse-append front rest))
    (cut_joined (mirrored is) (mirrored_item i ∷ []) (reverse rest) (reverse front) (cut_mirrored is rest c) (cut_one (mirrored_item i) (reverse front) (matches_mirrored i front m)))

-- The placements of a sequence and of its mirror.

-- what stands before, seen from the other end, stands after
allowed_turned : (r : Reference) (before after : ℕ) → Allowed r before after → Allowed (turned_reference r) after before
allowed_turned (Front least most) before after h = h
allowed_turned (Back least most) before after h = h
allowed_turned Anywhere before after h = h

-- a placement, seen from the other end
pub placement_mirrored : (r : Reference) (items : List Item) (xs : List ℕ)
    → Placement r items xs → Placement (turned_reference r) (mirrored items) (reverse xs)
placement_mirrored r items xs p =
    let before = p.before in
    let stretch = p.stretch in
    let after = p.after in
    record {
      before = reverse after;
      stretch = reverse stretch;
      after = reverse before;
      whole =
          ap reverse p.whole
          ∙ reverse-append before (stretch ++ after)
          ∙ ap (λ l. l ++ reverse before) (reverse-append stretch after)
          ∙ append_assoc (reverse after) (reverse stretch) (reverse before);
      allowed =
          allowed_turned
          r
          (length (reverse before))
          (length (reverse after))
          (subst₂ (Allowed r) (sym (length-reverse before)) (sym (length-reverse after)) p.allowed);
      cut = cut_mirrored items stretch p.cut;
    }

-- a placement of the mirror, seen from the first end again
pub placement_mirrored_back : (r : Reference) (items : List Item) (xs : List ℕ)
    → Placement (turned_reference r) (mirrored items) (reverse xs) → Placement r items xs
placement_mirrored_back r items xs p =
    transport
    (λ i. Placement (turned_reference_twice r i) (mirrored_twice items i) (reverse-reverse xs i))
    (placement_mirrored (turned_reference r) (mirrored items) (reverse xs) p)

-- the mirrored sequence hits the reversed reading exactly when the sequence hits the reading
pub mirrored_alike : MirroredAlike
mirrored_alike r items xs =
    let mirror = turned_reference r in
    same_from_decides
    (hits mirror (mirrored items) (reverse xs))
    (hits r items xs)
    (Decides-like _ (placement_mirrored_back r items xs) (placement_mirrored r items xs) (hits_exactly mirror (mirrored items) (reverse xs)))
    (hits_exactly r items xs)
