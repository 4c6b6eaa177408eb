-- The decision of a pattern agrees with its rule: each test is true exactly when its relation holds.
use Rattle.std.proofs.Common.{◌≡◌, ℕ, ◌≤◌, Bool, true, false, leb, ◌⊎◌, ◌↔◌, List, [], ◌∷◌, ◌++◌, length, Some, None, Decides, Option, sym, refl, ap, ◌∙◌, subst, inl, inr, ⊎_elim, arith}
use Rattle.std.proofs.lemmas.Slice.Eq.{compares_Decides}
use Rattle.std.proofs.lemmas.Bool.{false≢true, leb-true, le-leb}
use Rattle.std.proofs.lemmas.Bool.Decides.{Decides-eqb, Decides-ltb, Decides-like, Decides-not, Decides-and, Decides-or}
use Rattle.kinds.specs.Alphabet.{within}
use Rattle.patterns.specs.Patterns.{Item, literal, any, group, range, other, gap, compared, UpTo, Between, Among, AtMost, Matches, Cut, Allowed, Placement}
use Rattle.patterns.specs.Patterns.{same, up_to, between, among, at_most, matches, split, cuts, before_allowed, after_allowed, hits, HitsExactly}
use Rattle.patterns.specs.declared.direction.Direction.{Direction}
use Rattle.patterns.specs.declared.reference.Reference.{Reference}
use Rattle.patterns.specs.declared.reference.Reference.TheVariants.{Front, Back, Anywhere}

-- what is never true decides what never holds
decides_never : Decides false ⊥
decides_never = (λ e. absurd (false≢true e), λ h. absurd h)

-- what is always true decides what always holds
decides_always : Decides true (Unit {0})
decides_always = (λ _. tt, λ _. refl)

-- the order of two numbers
decides_leb : (a b : ℕ) → Decides (leb a b) (a ≤ b)
decides_leb a b = (leb-true a b, le-leb a b)

-- equal lists
pub same_decides : (xs ys : List ℕ) → Decides (same xs ys) (xs ≡ ys)
same_decides = compares_Decides same (record { empty = refl; shorter = λ _ _. refl; longer = λ _ _. refl; heads = λ _ _ _ _. refl })

-- the order of lists
pub up_to_decides : (xs ys : List ℕ) → Decides (up_to xs ys) (UpTo xs ys)
up_to_decides [] ys = decides_always
up_to_decides (x ∷ xs) [] = decides_never
up_to_decides (x ∷ xs) (y ∷ ys) = Decides-or _ _ (Decides-ltb x y) (Decides-and _ _ (Decides-eqb x y) (up_to_decides xs ys))

-- the range from low to high
pub between_decides : (d : Direction) (low high xs : List ℕ) → Decides (between d low high xs) (Between d low high xs)
between_decides d low high xs = Decides-and _ _ (up_to_decides (compared d low) (compared d xs)) (up_to_decides (compared d xs) (compared d high))

-- one of some runs
pub among_decides : (xs : List ℕ) (runs : List (List ℕ)) → Decides (among xs runs) (Among xs runs)
among_decides xs [] = decides_never
among_decides xs (run ∷ runs) = Decides-or _ _ (same_decides xs run) (among_decides xs runs)

-- the greatest length of a gap
pub at_most_decides : (most : Option ℕ) (n : ℕ) → Decides (at_most most n) (AtMost most n)
at_most_decides None n = decides_always
at_most_decides (Some most) n = decides_leb n most

-- one item
pub matches_decides : (i : Item) (xs : List ℕ) → Decides (matches i xs) (Matches i xs)
matches_decides (literal c) xs = same_decides xs (c ∷ [])
matches_decides any xs = Decides-eqb (length xs) 1
matches_decides (group runs) xs = among_decides xs runs
matches_decides (range d true low high) xs = Decides-and _ _ (Decides-eqb (length xs) (length low)) (between_decides d low high xs)
matches_decides (range d false low high) xs =
    Decides-and _ _ (Decides-eqb (length xs) (length low)) (Decides-not _ (between_decides d low high xs))
matches_decides (other run) xs = Decides-and _ _ (Decides-eqb (length xs) (length run)) (Decides-not _ (same_decides xs run))
matches_decides (gap least most) xs = Decides-and _ _ (decides_leb least (length xs)) (at_most_decides most (length xs))

-- a list is cut in two, P of its front and Q of its rest
abbrev pub InTwo : (List ℕ → Type 0) → (List ℕ → Type 0) → List ℕ → Type 0
InTwo P Q xs = (front : List ℕ) × (rest : List ℕ) × (xs ≡ front ++ rest) × P front × Q rest

-- a cut of the empty list is of two empty lists
in_two_empty : (P Q : List ℕ → Type 0) (front rest : List ℕ) → [] ≡ front ++ rest → P front → Q rest → P [] × Q []
in_two_empty P Q [] rest e p q = (p, subst Q (sym e) q)
in_two_empty P Q (x ∷ front) rest e p q = grind arith

-- the front of a cut is empty, or it has the first element
in_two_more : (P Q : List ℕ → Type 0) (x : ℕ) (xs front rest : List ℕ)
    → x ∷ xs ≡ front ++ rest → P front → Q rest → (P [] × Q (x ∷ xs)) ⊎ InTwo (λ l. P (x ∷ l)) Q xs
in_two_more P Q x xs [] rest e p q = inl (p, subst Q (sym e) q)
in_two_more P Q x xs (y ∷ front) rest e p q =
    let first : y ≡ x = cc in inr (front, rest, cc, subst (λ z. P (z ∷ front)) first p, q)

-- some cut in two, from the tests of the two parts
pub split_decides : {P Q : List ℕ → Type 0} (p q : List ℕ → Bool)
    → ((l : List ℕ) → Decides (p l) (P l)) → ((l : List ℕ) → Decides (q l) (Q l)) → (xs : List ℕ) → Decides (split p q xs) (InTwo P Q xs)
split_decides {P} {Q} p q each_front each_rest [] =
    Decides-like _ (λ h. ([], [], refl, h.0, h.1)) (λ h. in_two_empty P Q h.0 h.1 h.2 h.3 h.4) (Decides-and _ _ (each_front []) (each_rest []))
split_decides {P} {Q} p q each_front each_rest (x ∷ xs) =
    Decides-like
    _
    (⊎_elim (λ h. ([], x ∷ xs, refl, h.0, h.1)) (λ h. (x ∷ h.0, h.1, ap (λ l. x ∷ l) h.2, h.3, h.4)))
    (λ h. in_two_more P Q x xs h.0 h.1 h.2 h.3 h.4)
    (Decides-or
    _
    _
    (Decides-and _ _ (each_front []) (each_rest (x ∷ xs)))
    (split_decides (λ l. p (x ∷ l)) q (λ l. each_front (x ∷ l)) each_rest xs))

-- the items of a pattern
pub cuts_decides : (items : List Item) (xs : List ℕ) → Decides (cuts items xs) (Cut items xs)
cuts_decides [] xs = same_decides xs []
cuts_decides (i ∷ is) xs = split_decides (matches i) (cuts is) (matches_decides i) (cuts_decides is) xs

-- a number from lo to hi
within_decides : (lo hi n : ℕ) → Decides (within lo hi n) ((lo ≤ n) × (n ≤ hi))
within_decides lo hi n = Decides-and _ _ (decides_leb lo n) (decides_leb n hi)

-- what may stand before and after is what the tests of the two sides let through
allowed_exactly : (r : Reference) (before after : ℕ)
    → ((before_allowed r before ≡ true) × (after_allowed r after ≡ true)) ↔ Allowed r before after
allowed_exactly (Front lo hi) before after = (λ h. (within_decides lo hi before).0 h.0, λ h. ((within_decides lo hi before).1 h, refl))
allowed_exactly (Back lo hi) before after = (λ h. (within_decides lo hi after).0 h.1, λ h. (refl, (within_decides lo hi after).1 h))
allowed_exactly Anywhere before after = (λ _. tt, λ _. (refl, refl))

-- a placement as two cuts: what stands before and the rest, and of the rest the stretch and what stands after
abbrev TwoCuts : Reference → List Item → List ℕ → Type 0
TwoCuts r items =
    InTwo (λ before. before_allowed r (length before) ≡ true) (InTwo (Cut items) (λ after. after_allowed r (length after) ≡ true))

-- the two cuts are a placement
placed : (r : Reference) (items : List Item) (xs : List ℕ) → TwoCuts r items xs → Placement r items xs
placed r items xs (before, rest, e, ok, (stretch, after, d, cut, fits)) =
    record {
      before = before;
      stretch = stretch;
      after = after;
      whole = e ∙ ap (λ l. before ++ l) d;
      allowed = (allowed_exactly r (length before) (length after)).0 (ok, fits);
      cut = cut;
    }

-- and a placement is the two cuts
two_cuts : (r : Reference) (items : List Item) (xs : List ℕ) → Placement r items xs → TwoCuts r items xs
two_cuts r items xs p =
    let sides = (allowed_exactly r (length p.before) (length p.after)).1 p.allowed in
    (p.before, p.stretch ++ p.after, p.whole, sides.0, (p.stretch, p.after, refl, p.cut, sides.1))

-- a sequence hits exactly when a placement exists
pub hits_exactly : HitsExactly
hits_exactly r items xs =
    Decides-like
    (hits r items xs)
    (placed r items xs)
    (two_cuts r items xs)
    (split_decides _ _ (λ _. (λ e. e, λ e. e)) (split_decides _ _ (cuts_decides items) (λ _. (λ e. e, λ e. e))) xs)
