-- What an element kind is, and the law that it keeps.
use Rattle.std.specs.Prelude.{◌≡◌, ◌≢◌, ℕ, ◌<◌, Bool, true, ◌&&◌, ◌||◌, Some, Option, nat_le}

-- n lies from low to high, both included
abbrev pub within : ℕ → ℕ → ℕ → Bool
within low high n = nat_le low n && nat_le n high

-- a letter or a digit of ASCII
abbrev pub alphanumeric : ℕ → Bool
alphanumeric c = within 48 57 c || (within 65 90 c || within 97 122 c)

-- A kind: the code of each element, the element that a pair of characters names, if any,
-- and the kinds of the records that hold signatures and formats over such elements.
pub record Alphabet (E : Type 0) : Type 0 where
  pub code : E → ℕ
  pub named : ℕ → ℕ → Option E
  pub signature_record : ℕ
  pub format_record : ℕ

-- The law of a kind. All that is proved for every kind is proved from it.
pub record Lawful {E : Type 0} (a : Alphabet E) : Type 0 where
  -- a code fits 16 bits, and tells its element
  pub code_fits : (x : E) → a.code x < 65536
  pub code_tells : (x y : E) → a.code x ≡ a.code y → x ≡ y
  -- a pair that names an element is of letters or digits, and some pair names one
  pub pair_alphanumeric : (first second : ℕ) (x : E) → a.named first second ≡ Some x → (alphanumeric first ≡ true) × (alphanumeric second ≡ true)
  pub some_pair : (first : ℕ) × (second : ℕ) × (x : E) × (a.named first second ≡ Some x)
  -- the two record kinds fit 16 bits and differ
  pub signature_record_fits : a.signature_record < 65536
  pub format_record_fits : a.format_record < 65536
  pub records_differ : a.signature_record ≢ a.format_record
