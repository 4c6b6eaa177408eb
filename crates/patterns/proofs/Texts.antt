-- Which characters begin a pair: letters and digits, so none of the signs that the grammar has.
use Rattle.std.proofs.Common.{◌≡◌, ℕ, ◌<◌, Bool, true, false, cond, ◌||◌, eqb, is_some, Some, None, Decides, Option, refl, ap, arith}
use Rattle.std.proofs.lemmas.Bool.{ne_eqb}
use Rattle.std.proofs.lemmas.Bool.Decides.{nat_tests, Decides-below_or}
use Rattle.kinds.specs.Alphabet.{Alphabet, Lawful, alphanumeric}
use Rattle.patterns.specs.Reader.{leads, some_below}

-- a conditional that is an or
cond_or : (b c : Bool) → cond b true c ≡ (b || c)
cond_or true c = refl
cond_or false c = refl

-- the search finds exactly when there is one
pub some_below_decides : (p : ℕ → Bool) (n : ℕ) → Decides (some_below p n) ((k : ℕ) × (k < n) × (p k ≡ true))
unfolding some_below
some_below_decides p = Decides-below_or p (λ k. p k ≡ true) (some_below p) (λ k. ((λ e. e), (λ e. e))) refl (λ n. cond_or (p n) (some_below p n))

-- an option that is some has its value
some_from : {E : Type 0} (o : Option E) → is_some o ≡ true → (x : E) × (o ≡ Some x)
some_from None e = absurd (grind arith)
some_from (Some x) e = (x, refl)

-- a letter or a digit is below the bound of the search
below_256 : (c : ℕ) → alphanumeric c ≡ true → c < 256
below_256 c e = grind (arith, nat_tests)

-- a sign that is no letter or digit is no character of a pair
pub no_sign : (sign c : ℕ) → alphanumeric sign ≡ false → alphanumeric c ≡ true → eqb c sign ≡ false
no_sign sign c s e = ne_eqb c sign (λ same. let z : ◌≡◌ {A = ℕ} 0 1 = cc (ap alphanumeric same) in omega arith)

module _ {E : Type 0} (a : Alphabet E) where
  -- a character that leads has a second
  pub second_of : (c : ℕ) → leads a c ≡ true → (d : ℕ) × (x : E) × (a.named c d ≡ Some x)
  second_of c e =
      let found = (some_below_decides (λ d. is_some (a.named c d)) 256).0 e in
      let named = some_from (a.named c found.0) found.2 in
      (found.0, named.0, named.1)

  module _ (law : Lawful a) where
    -- the first character of a pair leads
    pub pair_leads : (c d : ℕ) (x : E) → a.named c d ≡ Some x → leads a c ≡ true
    pair_leads c d x e =
        (some_below_decides (λ d. is_some (a.named c d)) 256).1 (d, below_256 d (law.pair_alphanumeric c d x e).1, ap is_some e)

    -- a character that leads is a letter or a digit
    pub leads_alphanumeric : (c : ℕ) → leads a c ≡ true → alphanumeric c ≡ true
    leads_alphanumeric c e = let named = second_of c e in (law.pair_alphanumeric c named.0 named.1 named.2).0
