-- What one turn of the reader of elements keeps.
use Rattle.std.proofs.Common.{◌≡◌, ℕ, ◌+◌, List, [], ◌∷◌, ◌++◌, ◌≤◌, length, take, get_or, Some, None, Ok, Err, Option, Result, refl, ap, ◌∙◌, append_assoc, arith}
use Rattle.std.proofs.lemmas.List.{take-append-le}
use Rattle.kinds.specs.Alphabet.{Alphabet}
use Rattle.kinds.specs.Spelling.{after, in_front, spelled_from}
use Rattle.kinds.specs.declared.spelling.SpellingFault.{SpellingFault}
use Rattle.kinds.specs.declared.spelling.SpellingFault.TheVariants.{Memory}

-- one element more of those that were read
after_push : {E : Type 0} (xs : List E) (x : E) (place : ℕ) (r : Result (List E) SpellingFault) → after xs (in_front place (Some x) r) ≡ after (xs ++ x ∷ []) r
after_push xs x place (Ok ys) = ap Ok (rw append_assoc)
after_push xs x place (Err fault) = refl

-- one pair more
pub spelled_more : {E : Type 0} (a : Alphabet E) (xs : List E) (place : ℕ) (rest pair : List ℕ) (x : E) → length pair ≡ 2 → a.named (get_or pair 0 0) (get_or pair 1 0) ≡ Some x
    → after xs (spelled_from a place (pair ++ rest)) ≡ after (xs ++ x ∷ []) (spelled_from a (place + 2) rest)
spelled_more a xs place rest (first ∷ second ∷ []) x two e = ap (λ o. after xs (in_front place o (spelled_from a (place + 2) rest))) e ∙ after_push xs x place (spelled_from a (place + 2) rest)
spelled_more a xs place rest [] x two e = absurd (omega arith)
spelled_more a xs place rest (first ∷ []) x two e = absurd (omega arith)
spelled_more a xs place rest (first ∷ second ∷ third ∷ more) x two e = absurd (omega arith)

-- one element more behind those that stood before keeps them
pub kept_more : {X : Type 0} (n : ℕ) (old ys zs : List X) (x : X) → zs ≡ ys ++ x ∷ [] → n ≤ length ys → take n ys ≡ old → take n zs ≡ old
kept_more n old ys zs x e h kept = ap (take n) e ∙ take-append-le n ys (x ∷ []) h ∙ kept

-- a pair in front of a rest whose fault is not `Memory` gives no such fault either
in_front_memory : {E : Type 0} (place : ℕ) (o : Option E) (r : Result (List E) SpellingFault) → ¬ (r ≡ Err Memory) → ¬ (in_front place o r ≡ Err Memory)
in_front_memory place None r h e = grind arith
in_front_memory place (Some x) (Ok xs) h e = grind arith
in_front_memory place (Some x) (Err fault) h e = h e

-- `Memory` is no fault of a text
pub never_memory : {E : Type 0} (a : Alphabet E) (place : ℕ) (text : List ℕ) → ¬ (spelled_from a place text ≡ Err Memory)
never_memory a place [] e = grind arith
never_memory a place (first ∷ []) e = grind arith
never_memory a place (first ∷ second ∷ rest) e =
    in_front_memory place (a.named first second) (spelled_from a (place + 2) rest) (never_memory a (place + 2) rest) e
