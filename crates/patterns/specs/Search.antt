-- The search by fragments: what it is to find, and the theorem that it decides as the rule does.
use Rattle.std.specs.Prelude.{◌≡◌, ℕ, zero, suc, ◌+◌, ◌-◌, Bool, true, false, ◌&&◌, List, [], ◌∷◌, reverse, length, take, drop, is_some, Some, None, Option, nat_le}
use Rattle.patterns.specs.Fragments.{Fragment, fragments, bodies, limit_place, mirrored_placed}
use Rattle.patterns.specs.Grammar.{Placed, Ordered, start}
use Rattle.patterns.specs.Patterns.{Item, at_most, cuts, hits, same}
use Rattle.patterns.specs.declared.reference.Reference.TheVariants.{Front, Back, Anywhere}

-- the elements from one place to before another
abbrev pub stretch : List ℕ → ℕ → ℕ → List ℕ
stretch xs s e = take (e - s) (drop s xs)

-- Some start from `from` to `until`, which may be no bound, has a placement of the items that ends at e. The starts are
-- tried from e down: k is how many of them are left.
abbrev pub ends_at : List Item → ℕ → Option ℕ → List ℕ → ℕ → ℕ → Bool
ends_at items from until xs e zero = false
ends_at items from until xs e (suc k) =
    elim ((nat_le from k && at_most until k) && cuts items (stretch xs k e)) [ true ↦ true | false ↦ ends_at items from until xs e k ]

-- the least end of a placement that starts from `from` to `until`, or none: ends are tried from e on, k of them
abbrev pub least_end_from : List Item → ℕ → Option ℕ → List ℕ → ℕ → ℕ → Option ℕ
least_end_from items from until xs e zero = None
least_end_from items from until xs e (suc k) =
    elim (ends_at items from until xs e (suc e)) [ true ↦ Some e | false ↦ least_end_from items from until xs (suc e) k ]

-- the least end of such a placement in a list, or none
abbrev pub least_end : List Item → ℕ → Option ℕ → List ℕ → Option ℕ
least_end items from until xs = least_end_from items from until xs 0 (suc (length xs))

-- Each fragment is looked for behind the least end of the one before it and its break; only the first has a bound on its
-- start. The end of the last one, or none where one is not found.
abbrev pub search_end : List Fragment → ℕ → Option ℕ → List ℕ → Option ℕ
search_end [] at until xs = Some at
search_end (f ∷ fs) at until xs =
    elim (least_end (bodies f.body) (at + f.break) until xs) [ None ↦ None | Some e ↦ search_end fs e None xs ]

-- all fragments are found
abbrev pub found : List Fragment → ℕ → Option ℕ → List ℕ → Bool
found fs at until xs = is_some (search_end fs at until xs)

-- The theorem: within the limits, the search by fragments ends at the least end of a placement of all items.
abbrev pub EndsLeast : Type 0
EndsLeast =
    (qs : List Placed) (least : ℕ) (until : Option ℕ) (xs : List ℕ)
    → Ordered start qs → limit_place qs ≡ None
    → search_end (fragments least qs) 0 until xs ≡ least_end (bodies qs) least until xs

-- The theorem: within the limits, searching by fragments decides as the rule does.
abbrev pub FoundExactly : Type 0
FoundExactly =
    (qs : List Placed) (least most : ℕ) (xs : List ℕ)
    → Ordered start qs → limit_place qs ≡ None
    → (found (fragments least qs) 0 (Some most) xs ≡ hits (Front least most) (bodies qs) xs)
    × (found (fragments 0 qs) 0 None xs ≡ hits Anywhere (bodies qs) xs)

-- The theorem: searching the mirrored fragments in the reversed reading decides as the rule does from the back.
abbrev pub FoundFromBack : Type 0
FoundFromBack =
    (qs : List Placed) (least most : ℕ) (xs : List ℕ)
    → Ordered start qs → limit_place qs ≡ None
    → found (fragments least (mirrored_placed qs)) 0 (Some most) (reverse xs) ≡ hits (Back least most) (bodies qs) xs

-- The anchor.

-- codes stand at a place
abbrev pub stands_at : List ℕ → List ℕ → ℕ → Bool
stands_at codes xs place = nat_le (place + length codes) (length xs) && same (stretch xs place (place + length codes)) codes

-- the first place, from one on, where codes stand: k places are left to try
abbrev pub first_fit_from : List ℕ → List ℕ → ℕ → ℕ → Option ℕ
first_fit_from codes xs place zero = None
first_fit_from codes xs place (suc k) = elim (stands_at codes xs place) [ true ↦ Some place | false ↦ first_fit_from codes xs (suc place) k ]

-- the first place, from one on, where codes stand in a list
abbrev pub first_fit : List ℕ → List ℕ → ℕ → Option ℕ
first_fit codes xs from = first_fit_from codes xs from (suc (length xs) - from)

-- items reach from a list's start to before a place of it
abbrev pub reaches : List Item → List ℕ → ℕ → Bool
reaches items xs k = nat_le k (length xs) && cuts items (take k xs)
