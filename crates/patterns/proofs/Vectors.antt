-- The definitions of patterns, computed on examples.
use Rattle.std.proofs.Common.{◌≡◌, true, false, List, [], ◌∷◌, Some, None, Ok, Err, codes, refl}
use Rattle.kinds.specs.Bytes.{byte_alphabet}
use Rattle.patterns.specs.Patterns.{Item, hits, literal, any, group, range, other, gap}
use Rattle.patterns.specs.Reader.{items_of, some_below}
use Rattle.patterns.specs.declared.direction.Direction.TheVariants.{FirstOn}
use Rattle.patterns.specs.declared.reference.Reference.TheVariants.{Front, Anywhere}

runs_and_star : hits Anywhere (literal 0x41 ∷ group ((0x41 ∷ 0x42 ∷ 0x42 ∷ 0x42 ∷ []) ∷ (0x42 ∷ []) ∷ []) ∷ gap 0 None ∷ literal 0x42 ∷ literal 0x42 ∷ []) (0x41 ∷ 0x41 ∷ 0x42 ∷ 0x42 ∷ 0x42 ∷ []) ≡ true
runs_and_star = refl

two_gaps : List Item
two_gaps = literal 0x41 ∷ gap 0 (Some 3) ∷ literal 0x42 ∷ gap 0 (Some 1) ∷ literal 0x43 ∷ []

two_gaps_hit : hits (Front 0 0) two_gaps (0x41 ∷ 0x42 ∷ 0 ∷ 0x42 ∷ 0x43 ∷ []) ≡ true
unfolding two_gaps
two_gaps_hit = refl

two_gaps_miss : hits (Front 0 0) two_gaps (0x41 ∷ 0x42 ∷ 0 ∷ 0 ∷ 0x43 ∷ []) ≡ false
unfolding two_gaps
two_gaps_miss = refl

-- where texts of bytes stop
star_at_the_end : items_of byte_alphabet (codes "41*") ≡ Err 3
unfolding some_below
star_at_the_end = refl

half_a_pair : items_of byte_alphabet (codes "4{") ≡ Err 1
unfolding some_below
half_a_pair = refl

one_alternative : items_of byte_alphabet (codes "(41)") ≡ Err 3
unfolding some_below
one_alternative = refl

five_digits : items_of byte_alphabet (codes "41{12345}42") ≡ Err 7
unfolding some_below
five_digits = refl

gap_first : items_of byte_alphabet (codes "*41") ≡ Err 0
unfolding some_below
gap_first = refl

all_items : items_of byte_alphabet (codes "41??(42|4344)[45:46][!47]*{5-4}48") ≡ Ok (
    record { place = 0; item = literal 0x41 }
    ∷ record { place = 2; item = any }
    ∷ record { place = 4; item = group ((0x42 ∷ []) ∷ (0x43 ∷ 0x44 ∷ []) ∷ []) }
    ∷ record { place = 13; item = range FirstOn true (0x45 ∷ []) (0x46 ∷ []) }
    ∷ record { place = 20; item = other (0x47 ∷ []) }
    ∷ record { place = 25; item = gap 0 None }
    ∷ record { place = 26; item = gap 5 (Some 4) }
    ∷ record { place = 31; item = literal 0x48 }
    ∷ [])
unfolding some_below
all_items = refl
