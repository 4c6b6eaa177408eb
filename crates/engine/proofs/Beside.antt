-- The codes of what stands on each side of a place in a reading.
use Rattle.std.proofs.Common.{◌≡◌, ℕ, List, reverse, take, drop, sym, ap, ◌∙◌}
use Rattle.std.proofs.lemmas.List.{take-map, drop-map}
use Rattle.kinds.specs.Alphabet.{Alphabet}
use Rattle.patterns.specs.Codes.{codes_of}
use Rattle.engine.proofs.Searching.{map_reverse}

module _ {E : Type 0} (a : Alphabet E) (xs : List E) (place : ℕ) where
  -- the codes of what stands before a place, the nearest first
  pub codes_before : codes_of a (reverse (take place xs)) ≡ reverse (take place (codes_of a xs))
  codes_before = map_reverse a.code (take place xs) ∙ ap reverse (sym (take-map a.code place xs))

  -- and of what stands from it on
  pub codes_behind : codes_of a (drop place xs) ≡ drop place (codes_of a xs)
  codes_behind = sym (drop-map a.code place xs)
