-- What the lexer's iterators give: whether some second character names an element with a first, and the digits of a number.
use Rattle.std.proofs.Common.{◌≡◌, ℕ, zero, suc, ◌+◌, ◌-◌, ◌*◌, ◌^◌, ◌<◌, ◌≤◌, Bool, true, false, cond, leb, List, [], ◌∷◌, ◌++◌, length, get_or, take, drop, Some, None, Decides, IsTrue, MatchBool, IfSome, IsSomeAnd, Option, sym, refl, ap, ◌∙◌, subst, zero-add, pow-add, arith, length-drop, length-take-le}
use Rattle.std.proofs.lemmas.Bool.{leb-true, and_parts}
use Rattle.std.proofs.lemmas.Bool.Decides.{same_from_decides}
use Rattle.std.proofs.lemmas.List.{take_all, take_more, get_or-drop}
use Rattle.std.specs.List.{prefix_len}
use Rattle.std.specs.Iterator.Runs.{Run, ItemsCountUp, AllItemsGive, AnyItemGives}
use Rattle.std.specs.Option.{option_map}
use denote.Param.Members.{Mut, Called}
use Rattle.patterns.proofs.Texts.{some_below_decides}
use Rattle.kinds.specs.Alphabet.{within}
use Rattle.patterns.specs.Grammar.{Digits, followed_by}
use Rattle.patterns.specs.Reader.{some_below}
use Rattle.lexer.specs.Scanning.{LongestNumber}

-- an item that is there has what holds of some item and of every item
item_of_both : {A : Type 0} (o : Option A) {P Q : A → Type 0} → IsSomeAnd o P → IfSome o Q → (x : A) × P x × Q x
item_of_both None some every = absurd some
item_of_both (Some x) some every = (x, some, every)

-- a known item has what holds of every item
item_known : {A : Type 0} (o : Option A) (x : A) (P : A → Type 0) → option_map (λ y. y) o ≡ Some x → IfSome o P → P x
item_known None x P is every = absurd (grind arith)
item_known (Some y) x P is every = subst P (cc) every

-- what `any` answers over the numbers below n, where the closure computes a test
module _ {S F : Type 0} {steps : S → Option ℕ → S → Type 0} (g : Mut F (ℕ × Unit {0}) Bool) (f : F) (test : ℕ → Bool) (asks : (x : ℕ) (b : Bool) (q : F) → Called g f (x, tt) b q → (q ≡ f) × (b ≡ test x)) (p : Run steps) (n : ℕ) (up : ItemsCountUp p 0 n) where
  -- it is true exactly when the test passes at one of them
  any_decides : (r : Bool) → MatchBool r (AnyItemGives p g f true) (IsTrue p.whole × AllItemsGive p g f false) → Decides r ((k : ℕ) × (k < n) × (test k ≡ true))
  any_decides true h =
      let some = h (λ a b q call. (asks a.0 b q call).0) in
      let item = item_of_both (p.at some.0) some.2 (up.2 some.0) in
      ((λ _. (item.0, item.2.1, sym (asks item.0 true f item.1).1)), (λ _. refl))
  any_decides false h = (
    (λ e. absurd (grind arith)),
    (λ found.
        let call = item_known (p.at found.0) found.0 _ (up.3 found.0 (omega (arith, up.1 h.0)) ∙ ap Some (zero-add found.0)) (h.1 (λ a b q call. (asks a.0 b q call).0) found.0) in
        (asks found.0 false f call).1 ∙ found.2),
  )

  -- so it is what the definition's search answers
  pub any_below : (r : Bool) → MatchBool r (AnyItemGives p g f true) (IsTrue p.whole × AllItemsGive p g f false) → r ≡ some_below test n
  any_below r h = same_from_decides r (some_below test n) (any_decides r h) (some_below_decides test n)

-- one digit more
pub followed_by_more : (n : ℕ) (ds : List ℕ) (d : ℕ) → followed_by n (ds ++ d ∷ []) ≡ 10 * followed_by n ds + (d - 48)
followed_by_more n [] d = refl
followed_by_more n (x ∷ xs) d = followed_by_more (10 * n + (x - 48)) xs d

-- The digits that a text begins with, n at most.
pub record LeadingDigits (n : ℕ) (xs : List ℕ) (count : ℕ) : Type 0 where
  pub few : count ≤ n
  pub inside : count ≤ length xs
  pub digits : Digits (take count xs)
  pub longest : count < n → count < length xs → within 48 57 (get_or xs count 0) ≡ false

-- a digit in front of others is one more
leading_more : (n : ℕ) (x : ℕ) (xs : List ℕ) (k : ℕ) → LeadingDigits n xs k → (b : Bool) → within 48 57 x ≡ b → LeadingDigits (suc n) (x ∷ xs) (cond b (1 + k) 0)
leading_more n x xs k h false e = record { few = omega arith; inside = omega arith; digits = tt; longest = λ _ _. e }
leading_more n x xs k h true e =
    let more : LeadingDigits (suc n) (x ∷ xs) (suc k) = record {
      few = omega (arith, h.few);
      inside = omega (arith, h.inside);
      digits = (e, h.digits);
      longest = λ i j. h.longest (omega arith) (omega arith);
    } in
    let on : suc k ≡ 1 + k = omega arith in
    subst (LeadingDigits (suc n) (x ∷ xs)) on more

-- as many as the first n characters begin with
pub leading_digits : (n : ℕ) (xs : List ℕ) → LeadingDigits n xs (prefix_len (within 48 57) (take n xs))
leading_digits zero xs = record { few = omega arith; inside = omega arith; digits = tt; longest = λ h _. absurd (omega arith) }
leading_digits (suc n) [] = record { few = omega arith; inside = omega arith; digits = tt; longest = λ _ h. absurd (omega arith) }
leading_digits (suc n) (x ∷ xs) = leading_more n x xs _ (leading_digits n xs) (within 48 57 x) refl

-- a digit among digits
pub digit_at : (ds : List ℕ) (i : ℕ) → Digits ds → i < length ds → within 48 57 (get_or ds i 0) ≡ true
digit_at [] i all h = absurd (omega arith)
digit_at (d ∷ ds) zero all h = all.0
digit_at (d ∷ ds) (suc i) all h = digit_at ds i all.1 (omega arith)

-- one digit more keeps the value of those that were read, and its bound
pub value_more : (ds : List ℕ) (i value d : ℕ) → Digits ds → i < length ds → value ≡ followed_by 0 (take i ds) → value < 10 ^ i → d ≡ get_or ds i 0 - 48
    → (value * 10 + d ≡ followed_by 0 (take (i + 1) ds)) × (value * 10 + d < 10 ^ (i + 1))
value_more ds i value d all h is small digit =
    let c = get_or ds i 0 in
    let low : c ≤ 57 = leb-true c 57 (and_parts (leb 48 c) (leb c 57) (digit_at ds i all h)).1 in
    let next : followed_by 0 (take (i + 1) ds) ≡ 10 * followed_by 0 (take i ds) + (c - 48) = ap (followed_by 0) (take_more ds i 0 h) ∙ followed_by_more 0 (take i ds) c in
    let power : 10 ^ (i + 1) ≡ 10 ^ i * 10 = pow-add 10 i 1 in
    (omega arith, omega arith)

-- the digits that stand at a place of a text, as a slice gives them
module _ (t : List ℕ) (place : ℕ) (fits : place ≤ length t) (count : ℕ) (is : count ≡ prefix_len (within 48 57) (take 4 (take (length t - place) (drop place t)))) where
  -- the slice
  abbrev pub standing_digits : List ℕ
  standing_digits = take count (take (length t - place) (drop place t))

  -- the slice from the place on is the rest of the text
  rest_is : take (length t - place) (drop place t) ≡ drop place t
  rest_is = take_all (length t - place) (drop place t) (omega (arith, length-drop place t))

  -- they are as many as the rest begins with
  found : LeadingDigits 4 (drop place t) count
  found = subst (LeadingDigits 4 (drop place t)) (sym (is ∙ ap (λ l. prefix_len (within 48 57) (take 4 l)) rest_is)) (leading_digits 4 (drop place t))

  -- each is a digit
  pub standing_are_digits : Digits standing_digits
  standing_are_digits = subst (λ l. Digits (take count l)) (sym rest_is) found.digits

  -- the slice has their number
  standing_len : length standing_digits ≡ count
  standing_len = ap (λ l. length (take count l)) rest_is ∙ length-take-le count (drop place t) found.inside

  -- they are four at most
  pub standing_few : length standing_digits ≤ 4
  standing_few = omega (arith, standing_len, found.few)

  -- a number stands there
  pub number_stands : (value : ℕ) → 0 < length standing_digits → value ≡ followed_by 0 standing_digits → LongestNumber t place (value, place + length standing_digits)
  number_stands value some said = (
    count,
    ap (λ n. place + n) standing_len,
    omega (arith, standing_len),
    found.few,
    omega (arith, standing_len, found.inside, length-drop place t),
    found.digits,
    said ∙ ap (λ l. followed_by 0 (take count l)) rest_is,
    λ few h. ap (λ n. within 48 57 (get_or t (place + n) 0)) standing_len ∙ ap (within 48 57) (sym (get_or-drop place t count 0)) ∙ found.longest few (omega (arith, standing_len, length-drop place t)),
  )
