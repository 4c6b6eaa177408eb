-- The search for the best run of literals among items.
use Rattle.std.proofs.Common.{◌≡◌, ℕ, suc, ◌+◌, ◌-◌, ◌<◌, ◌≤◌, Bool, true, false, cond, ◌&&◌, ltb, leb, List, [], ◌∷◌, ◌++◌, map, length, get_or, take, drop, Some, None, sym, refl, ap, ◌∙◌, subst, arith, length-append, length-drop, length-take, take-add}
use Rattle.std.proofs.lemmas.List.{drop_more, take_all, drop_all, append-nil}
use Rattle.std.proofs.lemmas.Bool.{lt-ltb, cond_both}
use Rattle.patterns.specs.Fragments.{Anchor, anchor, best, ended, literal_runs, literal_code}
use Rattle.patterns.specs.Patterns.{Item, literal, any, group, range, other, gap}
use Rattle.patterns.specs.declared.reference.Reference.{Reference}
use Rattle.patterns.specs.declared.reference.Reference.TheVariants.{Front, Back, Anywhere}
use Rattle.engine.specs.Compiled.{literal_codes, anchor_at}
use Rattle.engine.specs.Compiling.{LiteralRun, Anchors, replaces}
use Rattle.engine.specs.declared.fragment.Literals.{Literals}
use Rattle.engine.proofs.Bodies.{stretch_more}

-- the codes of items with a literal more
codes_more : (is : List Item) (c : ℕ) → literal_codes (is ++ literal c ∷ []) ≡ literal_codes is ++ c ∷ []
codes_more [] c = refl
codes_more (literal a ∷ is) c = ap (λ cs. a ∷ cs) (codes_more is c)
codes_more (any ∷ is) c = codes_more is c
codes_more (group runs ∷ is) c = codes_more is c
codes_more (range d inside low high ∷ is) c = codes_more is c
codes_more (other run ∷ is) c = codes_more is c
codes_more (gap m n ∷ is) c = codes_more is c

-- items have at most as many literals
literals_within : (is : List Item) → length (literal_codes is) ≤ length is
literals_within [] = omega arith
literals_within (literal c ∷ is) = let h = literals_within is in omega arith
literals_within (any ∷ is) = let h = literals_within is in omega arith
literals_within (group runs ∷ is) = let h = literals_within is in omega arith
literals_within (range d inside low high ∷ is) = let h = literals_within is in omega arith
literals_within (other run ∷ is) = let h = literals_within is in omega arith
literals_within (gap m n ∷ is) = let h = literals_within is in omega arith

-- items that are all literals are those of their codes
all_literals : (is : List Item) → length (literal_codes is) ≡ length is → map literal (literal_codes is) ≡ is
all_literals [] h = refl
all_literals (literal a ∷ is) h = ap (λ xs. literal a ∷ xs) (all_literals is (omega arith))
all_literals (any ∷ is) h = let most = literals_within is in absurd (omega arith)
all_literals (group runs ∷ is) h = let most = literals_within is in absurd (omega arith)
all_literals (range d inside low high ∷ is) h = let most = literals_within is in absurd (omega arith)
all_literals (other run ∷ is) h = let most = literals_within is in absurd (omega arith)
all_literals (gap m n ∷ is) h = let most = literals_within is in absurd (omega arith)

-- a run that ends, and those behind it
best_ended : (r : Reference) (old : Anchor) (front : List Item) (run : List ℕ) (back : List Item) (more : List Anchor)
    → best r old (ended front run back ++ more)
    ≡ best r (cond (replaces r (length old.codes) (length run)) (record { front = front; codes = run; back = back }) old) more
best_ended (Front least most) old front [] back more = refl
best_ended (Front least most) old front (c ∷ cs) back more =
    ap (λ b. best (Front least most) (cond (b && leb (length old.codes) (suc (length cs))) (record { front = front; codes = c ∷ cs; back = back }) old) more) (sym (lt-ltb 0 (suc (length cs)) (omega arith)))
best_ended (Back least most) old front [] back more = refl
best_ended (Back least most) old front (c ∷ cs) back more =
    ap (λ b. best (Back least most) (cond (b && ltb (length old.codes) (suc (length cs))) (record { front = front; codes = c ∷ cs; back = back }) old) more) (sym (lt-ltb 0 (suc (length cs)) (omega arith)))
best_ended Anywhere old front [] back more = refl
best_ended Anywhere old front (c ∷ cs) back more =
    ap (λ b. best Anywhere (cond (b && leb (length old.codes) (suc (length cs))) (record { front = front; codes = c ∷ cs; back = back }) old) more) (sym (lt-ltb 0 (suc (length cs)) (omega arith)))

-- a function of one of two values
cond_map : {X Y : Type 0} (f : X → Y) (b : Bool) (x y : X) → f (cond b x y) ≡ cond b (f x) (f y)
cond_map f true x y = refl
cond_map f false x y = refl

module _ (r : Reference) (is : List Item) where
  -- the best run so far, and the run from a start to here: with what is left, they give the anchor
  abbrev pub Searching : ℕ → ℕ → Literals → Type 0
  Searching start i old =
      LiteralRun is old.start old.len × LiteralRun is start (i - start)
      × (best r (anchor_at is old.start old.len) (literal_runs (take start is) (literal_codes (take (i - start) (drop start is))) (drop i is)) ≡ anchor r is)

  -- before the first item
  pub search_begins : (n : ℕ) → n ≡ length is → Searching 0 0 (record { start = n; len = 0 })
  search_begins n e = (
    record { inside = omega arith; all = refl },
    record { inside = omega arith; all = refl },
    let front : take n is ≡ is = take_all n is (omega arith) in
        let back : drop (n + 0) is ≡ [] = drop_all (n + 0) is (omega arith) in
        ap (λ x. best r (record { front = x; codes = []; back = drop (n + 0) is }) (literal_runs [] [] is)) front
        ∙ ap (λ x. best r (record { front = is; codes = []; back = x }) (literal_runs [] [] is)) back,
  )

  module _ (start i : ℕ) (old : Literals) (ordered : start ≤ i) (so_far : Searching start i old) where
    -- a literal goes on with the run
    pub search_literal : (c : ℕ) → i < length is → get_or is i any ≡ literal c → Searching start (i + 1) old
    search_literal c l at =
        let run = literal_codes (take (i - start) (drop start is)) in
        let more : literal_codes (take (i + 1 - start) (drop start is)) ≡ run ++ c ∷ [] =
        ap literal_codes (stretch_more is start i any ordered l ∙ ap (λ x. take (i - start) (drop start is) ++ x ∷ []) at) ∙ codes_more (take (i - start) (drop start is)) c in
        let next : drop i is ≡ literal c ∷ drop (i + 1) is = drop_more is i any l ∙ ap (λ x. x ∷ drop (i + 1) is) at in
        let all = so_far.1.all in
        let long = length-append run (c ∷ []) in
        let counted : length (literal_codes (take (i + 1 - start) (drop start is))) ≡ length run + 1 = ap length more ∙ long in (
          so_far.0,
          record { inside = omega arith; all = omega arith },
          ap (λ cs. best r (anchor_at is old.start old.len) (literal_runs (take start is) cs (drop (i + 1) is))) more
              ∙ sym (ap (λ xs. best r (anchor_at is old.start old.len) (literal_runs (take start is) run xs)) next)
              ∙ so_far.2,
        )

    -- the run ends here: the better of the two is chosen
    module _ (new : Literals) (chosen : new ≡ cond (replaces r old.len (i - start)) (record { start = start; len = i - start }) old) where
      -- the chosen one is a run of literals
      new_run : LiteralRun is new.start new.len
      new_run =
          subst (λ (x : Literals). LiteralRun is x.start x.len) (sym chosen)
          (cond_both (replaces r old.len (i - start)) (record { start = start; len = i - start }) old (λ (x : Literals). LiteralRun is x.start x.len) (λ _. so_far.1) (λ _. so_far.0))

      -- the choice is that of the definition
      picked : (more : List Anchor)
          → best r (anchor_at is old.start old.len) (ended (take start is) (literal_codes (take (i - start) (drop start is))) (drop i is) ++ more)
          ≡ best r (anchor_at is new.start new.len) more
      picked more =
          let run = literal_codes (take (i - start) (drop start is)) in
          let before = anchor_at is old.start old.len in
          let here : start + (i - start) ≡ i = omega arith in
          let test : replaces r (length before.codes) (length run) ≡ replaces r old.len (i - start) = ap (λ n. replaces r n (length run)) so_far.0.all ∙ ap (replaces r old.len) so_far.1.all in
          best_ended r before (take start is) run (drop i is) more
          ∙ ap (λ b. best r (cond b (record { front = take start is; codes = run; back = drop i is }) before) more) test
          ∙ ap (λ k. best r (cond (replaces r old.len (i - start)) (record { front = take start is; codes = run; back = drop k is }) before) more) (sym here)
          ∙ sym (ap (λ a. best r a more) (ap (λ (x : Literals). anchor_at is x.start x.len) chosen ∙ cond_map (λ (x : Literals). anchor_at is x.start x.len) (replaces r old.len (i - start)) (record { start = start; len = i - start }) old))

      -- at an item that is no literal
      pub search_other : i < length is → literal_code (get_or is i any) ≡ None → Searching (i + 1) (i + 1) new
      search_other l at =
          let run = literal_codes (take (i - start) (drop start is)) in
          let x = get_or is i any in
          let rest = drop (i + 1) is in
          let next : drop i is ≡ x ∷ rest = drop_more is i any l in
          let before = anchor_at is old.start old.len in
          let none : i + 1 - (i + 1) ≡ 0 = omega arith in
          let long = length-take (i - start) (drop start is) in
          let left = length-drop start is in
          let all = so_far.1.all in
          let read : map literal run ≡ take (i - start) (drop start is) = all_literals (take (i - start) (drop start is)) (omega arith) in
          let on : start + (i + 1 - start) ≡ i + 1 = omega arith in
          let front : take start is ++ (map literal run ++ x ∷ []) ≡ take (i + 1) is =
          ap (λ xs. take start is ++ (xs ++ x ∷ [])) read
          ∙ ap (λ xs. take start is ++ xs) (sym (stretch_more is start i any ordered l))
          ∙ sym (take-add start (i + 1 - start) is)
          ∙ ap (λ n. take n is) on in
          let empty : literal_codes (take (i + 1 - (i + 1)) (drop (i + 1) is)) ≡ [] = ap (λ n. literal_codes (take n (drop (i + 1) is))) none in
          let ends : literal_runs (take start is) run (drop i is) ≡ ended (take start is) run (drop i is) ++ literal_runs (take (i + 1) is) (literal_codes (take (i + 1 - (i + 1)) (drop (i + 1) is))) rest =
          ap (literal_runs (take start is) run) next
          ∙ ap (λ o. elim o [ Some c ↦ literal_runs (take start is) (run ++ c ∷ []) rest | None ↦ ended (take start is) run (x ∷ rest) ++ literal_runs (take start is ++ (map literal run ++ x ∷ [])) [] rest ]) at
          ∙ ap (λ xs. ended (take start is) run (x ∷ rest) ++ literal_runs xs [] rest) front
          ∙ ap (λ cs. ended (take start is) run (x ∷ rest) ++ literal_runs (take (i + 1) is) cs rest) (sym empty)
          ∙ ap (λ xs. ended (take start is) run xs ++ literal_runs (take (i + 1) is) (literal_codes (take (i + 1 - (i + 1)) (drop (i + 1) is))) rest) (sym next) in (
            new_run,
            record { inside = omega arith; all = ap length empty ∙ sym none },
            sym (picked (literal_runs (take (i + 1) is) (literal_codes (take (i + 1 - (i + 1)) (drop (i + 1) is))) rest))
                ∙ sym (ap (best r before) ends)
                ∙ so_far.2,
          )

      -- at the end
      pub search_ends : length is ≡ i → Anchors r is new.start new.len
      search_ends e =
          let run = literal_codes (take (i - start) (drop start is)) in
          let before = anchor_at is old.start old.len in
          let none : drop i is ≡ [] = drop_all i is (omega arith) in
          let ends : literal_runs (take start is) run (drop i is) ≡ ended (take start is) run (drop i is) ++ [] =
          ap (literal_runs (take start is) run) none ∙ sym (append-nil (ended (take start is) run [])) ∙ ap (λ b. ended (take start is) run b ++ []) (sym none) in
          record {
            literals = new_run;
            anchored = sym so_far.2 ∙ ap (best r before) ends ∙ picked [];
          }
