-- Members moved on by some distance of a range: what `some-distance` says, and ranges joined and added.
use Rattle.std.proofs.Common.{◌≡◌, ℕ, zero, suc, ◌+◌, ◌-◌, ◌*◌, ◌/◌, ◌<◌, ◌≤◌, min, Bool, true, false, ◌&&◌, ◌||◌, ltb, leb, ◌⊎◌, Decides, sym, refl, ap, ◌∙◌, ap₂, inl, inr, ⊎_elim, zero-add, arith}
use Rattle.std.proofs.lemmas.Bool.{and_from, and_parts, and_right, both_ways, cases_Bool, cases_eq, cases_lt, le-leb, le-ltb, leb-true, lt-ltb, or_cases, or_left, or_right}
use Rattle.std.proofs.lemmas.Bool.Decides.{Decides-like, Decides-or, same_from_decides}
use Rattle.rows.specs.declared.Row.{Row}
use Rattle.rows.specs.Rows.{member, moved, some_distance}
use Rattle.rows.proofs.Members.{member_past, member_unused, same_members}

-- some distance from `least` to `most` leads from a member to j
abbrev pub Reached : Row → ℕ → ℕ → ℕ → Type 0
Reached row least most j = (d : ℕ) × (least ≤ d) × (d ≤ most) × (d ≤ j) × (member row (j - d) ≡ true)

-- a distance that the test takes
at_distance : (row : Row) (least d j : ℕ) → (leb least d && moved row d j) ≡ true → (least ≤ d) × (d ≤ j) × (member row (j - d) ≡ true)
unfolding moved
at_distance row least d j e =
    let outer = and_parts (leb least d) (leb d j && member row (j - d)) e in
    let inner = and_parts (leb d j) (member row (j - d)) outer.1 in
    (leb-true least d outer.0, leb-true d j inner.0, inner.1)

-- and the other way
distance_at : (row : Row) (least d j : ℕ) → least ≤ d → d ≤ j → member row (j - d) ≡ true → (leb least d && moved row d j) ≡ true
unfolding moved
distance_at row least d j l h m =
    and_from (leb least d) (leb d j && member row (j - d)) (le-leb least d l)
    (and_from (leb d j) (member row (j - d)) (le-leb d j h) m)

-- what the test says where it is true
pub reached : (row : Row) (least most j : ℕ) → some_distance row least most j ≡ true → Reached row least most j
unfolding some_distance
reached row least zero j e = let p = at_distance row least 0 j e in (0, p.0, omega arith, p.1, p.2)
reached row least (suc most) j e =
    ⊎_elim
    (λ t. let p = at_distance row least (suc most) j t in (suc most, p.0, omega arith, p.1, p.2))
    (λ t. let p = reached row least most j t in (p.0, p.1, omega arith, p.3, p.4))
    (or_cases (leb least (suc most) && moved row (suc most) j) (some_distance row least most j) e)

-- the test is true where a distance leads to j
pub from_reached : (row : Row) (least most j : ℕ) → Reached row least most j → some_distance row least most j ≡ true
unfolding some_distance
from_reached row least zero j (d, l, h, s, m) =
    let e : d ≡ 0 = omega arith in
    distance_at row least 0 j (omega arith) (omega arith) (ap (λ n. member row (j - n)) (sym e) ∙ m)
from_reached row least (suc most) j (d, l, h, s, m) =
    ⊎_elim
    (λ e.
    or_left (leb least (suc most) && moved row (suc most) j) (some_distance row least most j)
    (distance_at row least (suc most) j (omega arith) (omega arith) (ap (λ n. member row (j - n)) (sym e) ∙ m)))
    (λ ne.
    or_right (leb least (suc most) && moved row (suc most) j) (some_distance row least most j)
    (from_reached row least most j (d, l, omega arith, s, m)))
    (cases_eq d (suc most))

-- the test decides whether some distance leads to j
pub decides_distance : (row : Row) (least most j : ℕ) → Decides (some_distance row least most j) (Reached row least most j)
decides_distance row least most j = (reached row least most j, from_reached row least most j)

-- one distance alone
pub one_distance : (row : Row) (d j : ℕ) → moved row d j ≡ some_distance row d d j
unfolding moved
one_distance row d j =
    same_from_decides (leb d j && member row (j - d)) (some_distance row d d j) (there, back) (decides_distance row d d j)
  where
    there : (leb d j && member row (j - d)) ≡ true → Reached row d d j
    there e = let p = and_parts (leb d j) (member row (j - d)) e in (d, omega arith, omega arith, leb-true d j p.0, p.1)

    back : Reached row d d j → (leb d j && member row (j - d)) ≡ true
    back (n, l, h, s, m) =
        let e : n ≡ d = omega arith in
        and_from (leb d j) (member row (j - d)) (le-leb d j (omega arith)) (ap (λ k. member row (j - k)) (sym e) ∙ m)

-- no distance, where the most is below the least
pub no_distance : (row : Row) (least most j : ℕ) → most < least → some_distance row least most j ≡ false
no_distance row least most j h =
    ⊎_elim (λ e. let p = reached row least most j e in absurd (omega arith)) (λ e. e) (cases_Bool (some_distance row least most j))

-- two ranges of distances that leave none out between them are one
pub distances_joined : (row : Row) (least m n most j : ℕ) → least ≤ n → n ≤ m + 1 → m ≤ most
    → (some_distance row least m j || some_distance row n most j) ≡ some_distance row least most j
distances_joined row least m n most j ln nm mm =
    same_from_decides (some_distance row least m j || some_distance row n most j) (some_distance row least most j)
    (Decides-like (some_distance row least m j || some_distance row n most j) there back
    (Decides-or (some_distance row least m j) (some_distance row n most j) (decides_distance row least m j) (decides_distance row n most j)))
    (decides_distance row least most j)
  where
    there : Reached row least m j ⊎ Reached row n most j → Reached row least most j
    there (inl (d, l, h, s, e)) = (d, l, omega arith, s, e)
    there (inr (d, l, h, s, e)) = (d, omega arith, h, s, e)

    back : Reached row least most j → Reached row least m j ⊎ Reached row n most j
    back (d, l, h, s, e) = ⊎_elim (λ k. inl (d, l, omega arith, s, e)) (λ k. inr (d, omega arith, h, s, e)) (cases_lt d (m + 1))

-- distances from 1,024 on lead to no offset below 1,024
pub distances_capped : (row : Row) (least most j : ℕ) → j < 1024
    → some_distance row least (min most 1023) j ≡ some_distance row least most j
distances_capped row least most j h =
    same_from_decides (some_distance row least (min most 1023) j) (some_distance row least most j)
    (Decides-like (some_distance row least (min most 1023) j)
    (λ p. (p.0, p.1, omega arith, p.3, p.4)) (λ p. (p.0, p.1, omega arith, p.3, p.4))
    (decides_distance row least (min most 1023) j))
    (decides_distance row least most j)

-- a row spread over one range and then over another is spread over the sums of their distances
pub distances_added : (row more : Row) (a b c d : ℕ) → a ≤ b → c ≤ d
    → ((i : ℕ) → member more i ≡ (ltb i 1024 && some_distance row a b i))
    → (j : ℕ) → j < 1024 → some_distance more c d j ≡ some_distance row (a + c) (b + d) j
distances_added row more a b c d ab cd is j h =
    same_from_decides (some_distance more c d j) (some_distance row (a + c) (b + d) j)
    (Decides-like (some_distance more c d j) there back (decides_distance more c d j)) (decides_distance row (a + c) (b + d) j)
  where
    there : Reached more c d j → Reached row (a + c) (b + d) j
    there (n, l, k, s, m) =
        let p = reached row a b (j - n) (and_parts (ltb (j - n) 1024) (some_distance row a b (j - n)) (sym (is (j - n)) ∙ m)).1 in
        let e : j - (p.0 + n) ≡ j - n - p.0 = omega arith in
        (p.0 + n, omega arith, omega arith, omega arith, ap (member row) e ∙ p.4)

    split : (n second : ℕ) → n ≤ j → second ≤ n → member row (j - n) ≡ true → a ≤ n - second → n - second ≤ b
        → c ≤ second → second ≤ d → Reached more c d j
    split n second s t m an nb cs sd =
        let e : j - second - (n - second) ≡ j - n = omega arith in
        let p = from_reached row a b (j - second) (n - second, an, nb, omega arith, ap (member row) e ∙ m) in
        (second, cs, sd, omega arith, is (j - second) ∙ and_from (ltb (j - second) 1024) (some_distance row a b (j - second)) (lt-ltb (j - second) 1024 (omega arith)) p)

    back : Reached row (a + c) (b + d) j → Reached more c d j
    back (n, l, k, s, m) =
        ⊎_elim
        (λ q. split n c s (omega arith) m (omega arith) (omega arith) (omega arith) (omega arith))
        (λ q. split n (n - b) s (omega arith) m (omega arith) (omega arith) (omega arith) (omega arith))
        (cases_lt n (b + c))

-- an equation of members below 1,024, where both sides are tested for that
within : (x y : ℕ → Bool) → ((j : ℕ) → j < 1024 → x j ≡ y j) → (j : ℕ) → (ltb j 1024 && x j) ≡ (ltb j 1024 && y j)
within x y same j =
    ⊎_elim (λ h. ap (λ t. ltb j 1024 && t) (same j h)) (λ h. let e = le-ltb j 1024 h in ap (λ t. t && x j) e ∙ sym (ap (λ t. t && y j) e))
    (cases_lt j 1024)

-- a row moved on by one distance, as a range of one
pub spread_one : (row more : Row) (d : ℕ) → ((j : ℕ) → member more j ≡ (ltb j 1024 && moved row d j))
    → (j : ℕ) → member more j ≡ (ltb j 1024 && some_distance row d d j)
spread_one row more d is j = is j ∙ ap (λ t. ltb j 1024 && t) (one_distance row d j)

-- a row itself is moved on by 0
pub moved_none : (row : Row) (j : ℕ) → member row j ≡ (ltb j 1024 && moved row 0 j)
unfolding moved
moved_none row j = ⊎_elim below (λ h. member_past row j h ∙ sym (ap (λ t. t && moved row 0 j) (le-ltb j 1024 h))) (cases_lt j 1024)
  where
    below : j < 1024 → member row j ≡ (ltb j 1024 && moved row 0 j)
    below h =
        let e : j - 0 ≡ j = omega arith in
        sym (ap₂ (λ s t. s && (t && member row (j - 0))) (lt-ltb j 1024 h) (le-leb 0 j (omega arith)) ∙ ap (member row) e)

-- and so is a row of the same words by each distance from 0 to 0
pub smear_none : (row same : Row) → same.words ≡ row.words → (j : ℕ) → member same j ≡ (ltb j 1024 && some_distance row 0 0 j)
smear_none row same e j = same_members same row e j ∙ spread_one row row 0 (moved_none row) j

-- a row moved on by 0 to `done`, joined with that moved on by `step` more
pub smear_more : (row all more : Row) (done step : ℕ) → step ≤ done + 1
    → ((j : ℕ) → member all j ≡ (ltb j 1024 && some_distance row 0 done j))
    → ((j : ℕ) → member more j ≡ (member all j || (ltb j 1024 && moved all step j)))
    → (j : ℕ) → member more j ≡ (ltb j 1024 && some_distance row 0 (done + step) j)
smear_more row all more done step h alls mores j =
    mores j ∙ ap₂ ◌||◌ (alls j) (ap (λ t. ltb j 1024 && t) (one_distance all step j)) ∙ both (ltb j 1024) (some_distance row 0 done j) (some_distance all step step j)
    ∙ within (λ i. some_distance row 0 done i || some_distance all step step i) (some_distance row 0 (done + step)) same j
  where
    both : (t x y : Bool) → ((t && x) || (t && y)) ≡ (t && (x || y))
    both true x y = refl
    both false x y = refl

    same : (i : ℕ) → i < 1024 → (some_distance row 0 done i || some_distance all step step i) ≡ some_distance row 0 (done + step) i
    same i l =
        ap (λ t. some_distance row 0 done i || t)
        (distances_added row all 0 done step step (omega arith) (omega arith) alls i l ∙ ap (λ n. some_distance row n (done + step) i) (zero-add step))
        ∙ distances_joined row 0 done step (done + step) i (omega arith) h (omega arith)

-- nothing comes to stand past the words in use and `reach`
pub smear_past : (row all : Row) (reach done step j : ℕ) → done + step ≤ reach
    → ((i : ℕ) → member all i ≡ (ltb i 1024 && some_distance row 0 done i))
    → 64 * (row.used + reach / 64 + 1) ≤ j → moved all step j ≡ false
unfolding moved
smear_past row all reach done step j h alls far =
    ⊎_elim (λ e. absurd (held e)) (λ e. e) (cases_Bool (leb step j && member all (j - step)))
  where
    held : (leb step j && member all (j - step)) ≡ true → ⊥
    held e =
        let parts = and_parts (leb step j) (member all (j - step)) e in
        let on = leb-true step j parts.0 in
        let back = reached row 0 done (j - step) (and_parts (ltb (j - step) 1024) (some_distance row 0 done (j - step)) (sym (alls (j - step)) ∙ parts.1)).1 in
        let near = back.2 in
        both_ways (member row (j - step - back.0)) (member_unused row (j - step - back.0) (omega arith)) back.4

-- so that only the words before `end` need be joined
pub smear_short : (row all : Row) (reach done step end : ℕ) → done + step ≤ reach
    → ((i : ℕ) → member all i ≡ (ltb i 1024 && some_distance row 0 done i)) → end ≡ min (row.used + reach / 64 + 1) 16
    → (j : ℕ) → (member all j || (ltb j (64 * end) && moved all step j)) ≡ (member all j || (ltb j 1024 && moved all step j))
smear_short row all reach done step end h alls is j =
    ap (λ t. member all j || t) (⊎_elim before (λ l. ⊎_elim (past l) beyond (cases_lt j 1024)) (cases_lt j (64 * end)))
  where
    Same : Type 0
    Same = (ltb j (64 * end) && moved all step j) ≡ (ltb j 1024 && moved all step j)

    before : j < 64 * end → Same
    before l = ap (λ t. t && moved all step j) (lt-ltb j (64 * end) l ∙ sym (lt-ltb j 1024 (omega arith)))

    past : 64 * end ≤ j → j < 1024 → Same
    past l k =
        let none_here = smear_past row all reach done step j h alls (omega arith) in
        and_right (ltb j (64 * end)) (moved all step j) none_here ∙ sym (and_right (ltb j 1024) (moved all step j) none_here)

    beyond : 1024 ≤ j → Same
    beyond k = ap (λ t. t && moved all step j) (le-ltb j (64 * end) (omega arith) ∙ sym (le-ltb j 1024 k))

-- a row moved on by `least`, and that by each distance from 0 to the rest of the range that is below 1,024
pub spread_more : (row moved_on more : Row) (least most reach : ℕ) → least ≤ most → reach ≡ min (most - least) 1023
    → ((j : ℕ) → member moved_on j ≡ (ltb j 1024 && moved row least j))
    → ((j : ℕ) → member more j ≡ (ltb j 1024 && some_distance moved_on 0 reach j))
    → (j : ℕ) → member more j ≡ (ltb j 1024 && some_distance row least most j)
spread_more row moved_on more least most reach h cap ons mores j =
    mores j ∙ within (some_distance moved_on 0 reach) (some_distance row least most) same j
  where
    same : (j : ℕ) → j < 1024 → some_distance moved_on 0 reach j ≡ some_distance row least most j
    same j l =
        let e : least + 0 ≡ least = omega arith in
        let f : least + (most - least) ≡ most = omega arith in
        ap (λ n. some_distance moved_on 0 n j) cap ∙ distances_capped moved_on 0 (most - least) j l
        ∙ distances_added row moved_on least least 0 (most - least) (omega arith) (omega arith) (spread_one row moved_on least ons) j l
        ∙ ap₂ (λ m n. some_distance row m n j) e f
