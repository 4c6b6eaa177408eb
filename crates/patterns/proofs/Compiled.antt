-- The definitions of fragments and their numbers, computed on the published worked example and on texts at the limits.
use Rattle.std.proofs.Common.{◌≡◌, ℕ, true, false, List, [], ◌∷◌, length, Some, None, Ok, Err, codes, Option, refl}
use Rattle.kinds.specs.Bytes.{byte_alphabet}
use Rattle.patterns.specs.Fragments.{Fragment, fragments, limit_place, bare_place, oriented, bodies, anchor, lead, shift}
use Rattle.patterns.specs.Grammar.{Placed}
use Rattle.patterns.specs.Reader.{items_of, some_below}
use Rattle.patterns.specs.Search.{found}
use Rattle.patterns.specs.declared.reference.Reference.{Reference}
use Rattle.patterns.specs.declared.reference.Reference.TheVariants.{Front, Back}

abbrev read : List ℕ → List Placed
read t = elim (items_of byte_alphabet t) [ Ok qs ↦ qs | Err n ↦ [] ]

-- break, lead, anchor length, and the shifts of three indices of each fragment
abbrev numbers_of : Reference → ℕ → ℕ → ℕ → List Fragment → List (List ℕ)
numbers_of r i j k [] = []
numbers_of r i j k (f ∷ fs) =
    let x = anchor r (bodies f.body) in
    (f.break ∷ lead x ∷ length x.codes ∷ shift x.codes i ∷ shift x.codes j ∷ shift x.codes k ∷ []) ∷ numbers_of r i j k fs

abbrev example : List ℕ
example = codes "A1A2A3[A4:A5]??B1B2B3(B4|B5)*{5}01??C1C2C3{4-7}D1????F1(F2|F3)F4F5"

from_the_front : numbers_of (Front 10 20) 0xB3 0xB1 0xC3 (fragments 10 (oriented (Front 10 20) (read example))) ≡ (10 ∷ 5 ∷ 3 ∷ 1 ∷ 3 ∷ 4 ∷ []) ∷ (5 ∷ 2 ∷ 3 ∷ 4 ∷ 4 ∷ 1 ∷ []) ∷ []
unfolding some_below
from_the_front = refl

from_the_back : numbers_of (Back 10 20) 0xB3 0xB1 0xC1 (fragments 10 (oriented (Back 10 20) (read example))) ≡ (10 ∷ 11 ∷ 3 ∷ 4 ∷ 4 ∷ 1 ∷ []) ∷ (5 ∷ 1 ∷ 3 ∷ 3 ∷ 1 ∷ 4 ∷ []) ∷ []
unfolding some_below
from_the_back = refl

limits : List (List ℕ) → List (Option ℕ)
limits [] = []
limits (t ∷ ts) = limit_place (read t) ∷ limits ts

beyond : limits (codes "41{5-4}42" ∷ codes "41{1022}42" ∷ codes "41{1023}42" ∷ codes "41{2001-2000}42" ∷ codes "41{9999-4}42" ∷ codes "41*{5-4}42" ∷ codes "[41:41]" ∷ codes "[!41:4243]" ∷ codes "[!41]42" ∷ codes "41*41*41*41*41*41*41*41*41" ∷ [])
    ≡ Some 2 ∷ None ∷ Some 0 ∷ Some 0 ∷ Some 2 ∷ Some 3 ∷ Some 0 ∷ Some 0 ∷ None ∷ Some 24 ∷ []
unfolding some_below limits
beyond = refl

bare : bare_place (fragments 0 (read (codes "??"))) ≡ Some 0
unfolding some_below
bare = refl

-- the search by fragments on two of the examples
two_gaps_found : found (fragments 0 (read (codes "41{0-3}42{0-1}43"))) 0 (Some 0) (0x41 ∷ 0x42 ∷ 0 ∷ 0x42 ∷ 0x43 ∷ []) ≡ true
unfolding some_below
two_gaps_found = refl

two_gaps_missed : found (fragments 0 (read (codes "41{0-3}42{0-1}43"))) 0 (Some 0) (0x41 ∷ 0x42 ∷ 0 ∷ 0 ∷ 0x43 ∷ []) ≡ false
unfolding some_below
two_gaps_missed = refl

star_and_two : found (fragments 0 (read (codes "41*{2}42"))) 0 None (0x41 ∷ 0 ∷ 0 ∷ 0x42 ∷ []) ≡ true
unfolding some_below
star_and_two = refl
