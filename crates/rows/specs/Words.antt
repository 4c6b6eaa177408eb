-- Words of 64 bits, and lists of them.
use Rattle.std.specs.Prelude.{◌≡◌, ℕ, ◌/◌, ◌%◌, ◌^◌, ◌<◌, ◌≤◌, Bool, List, length, ◌==◌, slice_index}

-- bit k of a number, the lowest being bit 0
unfoldable pub bit : ℕ → ℕ → Bool
bit w k = w / 2 ^ k % 2 == 1

-- every word from word n on is 0
abbrev pub ZeroFrom : List ℕ → ℕ → Type 0
ZeroFrom words n = (k : ℕ) → n ≤ k → slice_index words k ≡ 0

-- word i is the first that is not 0
pub record FirstNonzero (words : List ℕ) (i : ℕ) : Type 0 where
  pub within : i < length words
  pub positive : 0 < slice_index words i
  pub before : (k : ℕ) → k < i → slice_index words k ≡ 0
