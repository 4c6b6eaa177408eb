-- What a text does with literals, groups and ranges, from a place on.
use Rattle.std.proofs.Common.{◌≡◌, ℕ, suc, ◌+◌, ◌*◌, ◌<◌, Bool, true, false, cond, not, ◌&&◌, eqb, ltb, List, [], ◌∷◌, ◌++◌, length, get_or, drop, is_some, Some, None, Ok, Err, Option, sym, refl, ap, ◌∙◌, subst, ⊎_elim, append_assoc, append-nil, add-zero, arith, length-append}
use Rattle.std.proofs.lemmas.Bool.{cases_Bool, cases_lt, both_ways, cond_both, cond-false, lt-ltb, eqb-true, and_right}
use Rattle.std.proofs.lemmas.List.{drop_more, drop_all, drop-drop}
use Rattle.kinds.specs.Alphabet.{Alphabet, Lawful, alphanumeric}
use Rattle.patterns.specs.Grammar.{Position, gap_allowed}
use Rattle.patterns.specs.Patterns.{Item, literal, group, range, other, gap}
use Rattle.patterns.specs.Reader.{State, between, half, alternatives, bracket, low, high, digits, Next, stuck, goes_on, complete, begun, only_if, leads, with_element, pair_in, next}
use Rattle.patterns.specs.Reader.{least as lower}
use Rattle.patterns.specs.declared.direction.Direction.TheVariants.{FirstOn}
use Rattle.patterns.proofs.Steps
use Rattle.patterns.proofs.Steps.{Takes, Goes, Done, takes_pair, goes_next, done_next}
use Rattle.patterns.proofs.Texts.{leads_alphanumeric, pair_leads}
use Rattle.lexer.specs.Scanning.{standing, Completes, Stops}
use Rattle.lexer.specs.Tokens.{pairs, codes_in, pair_stop, item_from}
use Rattle.lexer.proofs.Gaps.{stands_true, stands_false}
use Rattle.lexer.proofs.Machine.{onward, only_false, step, step_by}

module _ {E : Type 0} (a : Alphabet E) where
  -- there are as many codes as pairs
  pub codes_length : (u : List ℕ) → length (codes_in a u) ≡ pairs a u
  codes_length [] = refl
  codes_length (f ∷ []) = refl
  codes_length (f ∷ s ∷ t) = go (a.named f s) (codes_length t)
    where
      go : (o : Option E) → length (codes_in a t) ≡ pairs a t → length {A = ℕ} (elim o [ None ↦ [] | Some x ↦ a.code x ∷ codes_in a t ]) ≡ cond (is_some o) (suc (pairs a t)) 0
      go None h = refl
      go (Some x) h = ap suc h

  -- a first character of a pair, of which no second follows
  half_stops : (s : State) (c place : ℕ) (rest : List ℕ) → pairs a (c ∷ rest) ≡ 0 → item_from a (half s c) place rest ≡ Err place
  half_stops s c place [] h = refl
  half_stops s c place (d ∷ t) h = go (a.named c d) refl
    where
      go : (o : Option E) → a.named c d ≡ o → onward a (with_element a s (a.named c d)) place t ≡ Err place
      go None e = ap (λ o. onward a (with_element a s o) place t) e
      go (Some x) e = let n : cond (is_some (a.named c d)) (suc (pairs a t)) 0 ≡ 0 = h in absurd (let m = rw e at n in omega arith)

  -- where a pair has to stand and none does
  no_pair_here : (s : State) (c place : ℕ) (rest : List ℕ) → pairs a (c ∷ rest) ≡ 0 → next a s c ≡ pair_in a s c → item_from a s place (c ∷ rest) ≡ Err (pair_stop a place (c ∷ rest))
  no_pair_here s c place rest h e = ap (λ n. onward a n place rest) e ∙ go (leads a c)
    where
      go : (b : Bool) → onward a (only_if b (goes_on (half s c))) place rest ≡ Err (cond b (place + 1) place)
      go true = half_stops s c (place + 1) rest h
      go false = refl

  -- the same in a text
  pub no_pair : (t : List ℕ) (s : State) (place : ℕ) → pairs a (drop place t) ≡ 0 → (place < length t → next a s (get_or t place 0) ≡ pair_in a s (get_or t place 0)) → Stops a t s place (pair_stop a place (drop place t))
  no_pair t s place none sign =
      let Here : List ℕ → Type 0 = λ u. item_from a s place u ≡ Err (pair_stop a place u) in
      ⊎_elim
      (λ h.
      let cut = drop_more t place 0 h in
      subst Here (sym cut) (no_pair_here s (get_or t place 0) place (drop (place + 1) t) (rw cut at none) (sign h)))
      (λ h. subst Here (sym (drop_all place t h)) refl)
      (cases_lt place (length t))

  module _ (t : List ℕ) where
    -- a run of one pair or more stands from a place to before another, behind which no pair follows
    pub record Ran (from to : ℕ) : Type 0 where
      pub some : 0 < pairs a (drop from t)
      pub end : to ≡ from + 2 * pairs a (drop from t)
      pub none_more : pairs a (drop to t) ≡ 0

    -- its codes
    abbrev pub codes_at : ℕ → List ℕ
    codes_at place = codes_in a (drop place t)

    -- where no pair stands
    abbrev pub NoPairAt : ℕ → ℕ → Type 0
    NoPairAt place at = (pairs a (drop place t) ≡ 0) × (at ≡ pair_stop a place (drop place t))

    -- The runs of a group that were read, with bars behind them: the text goes on with the next.
    pub record Alternating (from at : ℕ) : Type 0 where
      pub runs : List (List ℕ)
      pub some : 0 < length runs
      pub reads : item_from a (alternatives [] []) from (drop from t) ≡ item_from a (alternatives runs []) at (drop at t)

  -- a character that stands there, by what it does
  module _ (law : Lawful a) (t : List ℕ) where
    -- within an item
    pub goes : {s s' : State} {c : ℕ} (place : ℕ) → standing t place c ≡ true → Goes a s c s' → item_from a s place (drop place t) ≡ item_from a s' (place + 1) (drop (place + 1) t)
    goes {s} {s'} {c} place stands g =
        let here = stands_true t place c stands in
        step_by a t s (goes_on s') place here.0 (ap (next a s) here.1 ∙ goes_next a law g)

    -- at its end
    pub done : {s : State} {c : ℕ} {i : Item} (place : ℕ) → standing t place c ≡ true → Done a s c i → Completes a t s place i (place + 1)
    done {s} {c} {i} place stands d =
        let here = stands_true t place c stands in
        step_by a t s (complete i) place here.0 (ap (next a s) here.1 ∙ done_next a law d)

  module _ (law : Lawful a) where
    -- a sign begins no pair
    unled : (sign : ℕ) → alphanumeric sign ≡ false → leads a sign ≡ false
    unled sign none =
        ⊎_elim
        (λ e. absurd (both_ways (alphanumeric sign) none (leads_alphanumeric a law sign e)))
        (λ e. e)
        (cases_Bool (leads a sign))

    -- a sign that cannot stand is like a character that begins no pair
    unsigned : (s : State) (c sign : ℕ) (x y : Next) → alphanumeric sign ≡ false → (eqb c sign ≡ true → x ≡ stuck) → y ≡ pair_in a s c → cond (eqb c sign) x y ≡ pair_in a s c
    unsigned s c sign x y none stands e =
        cond_both (eqb c sign) x y (λ n. n ≡ pair_in a s c)
        (λ is. stands is ∙ sym (ap (λ d. only_if (leads a d) (goes_on (half s c))) (eqb-true c sign is) ∙ only_false _ _ (unled sign none)))
        (λ _. e)

    -- a test that fails and passes
    never : (b : Bool) (n : Next) → b ≡ false → b ≡ true → n ≡ stuck
    never b n p q = absurd (both_ways b p q)

    -- in a group, where neither a bar nor a parenthesis may stand
    group_sign : (runs : List (List ℕ)) (run : List ℕ) (c : ℕ) → (eqb c 124 ≡ true → begun run ≡ false) → (eqb c 41 ≡ true → (begun run && ltb 0 (length runs)) ≡ false) → next a (alternatives runs run) c ≡ pair_in a (alternatives runs run) c
    group_sign runs run c bar close =
        unsigned (alternatives runs run) c 124 _ _ refl (λ e. only_false _ _ (bar e)) (
        unsigned (alternatives runs run) c 41 _ _ refl (λ e. only_false _ _ (close e)) refl)

    -- in the first run of a range, where neither a colon nor a bracket may stand
    low_sign : (inside : Bool) (run : List ℕ) (c : ℕ) → (eqb c 58 ≡ true → begun run ≡ false) → (eqb c 93 ≡ true → (begun run && not inside) ≡ false) → next a (low inside run) c ≡ pair_in a (low inside run) c
    low_sign inside run c colon close =
        unsigned (low inside run) c 58 _ _ refl (λ e. only_false _ _ (colon e)) (
        unsigned (low inside run) c 93 _ _ refl (λ e. only_false _ _ (close e)) refl)

    -- in its second run, where no bracket may stand
    high_sign : (inside : Bool) (first run : List ℕ) (c : ℕ) → (eqb c 93 ≡ true → begun run ≡ false) → next a (high inside first run) c ≡ pair_in a (high inside first run) c
    high_sign inside first run c close = unsigned (high inside first run) c 93 _ _ refl (λ e. only_false _ _ (close e)) refl

    -- a run goes on as far as pairs follow
    module _ (S : List ℕ → State) (takes : (cs : List ℕ) (code : ℕ) → Takes (S cs) code (S (cs ++ code ∷ []))) (pair : (cs : List ℕ) → takes_pair (S cs) ≡ true) where
      -- where none follows
      run_over : (cs u : List ℕ) (place : ℕ) → item_from a (S cs) place u ≡ item_from a (S (cs ++ [])) (place + 0) u
      run_over cs u place =
          ap (λ l. item_from a (S l) place u) (sym (append-nil cs)) ∙ ap (λ n. item_from a (S (cs ++ [])) n u) (sym (add-zero place))

      -- one pair
      run_pair : (cs t : List ℕ) (f s place : ℕ) (x : E) → a.named f s ≡ Some x → item_from a (S cs) place (f ∷ s ∷ t) ≡ item_from a (S (cs ++ a.code x ∷ [])) (place + 1 + 1) t
      run_pair cs t f s place x e =
          ap (λ n. onward a n place (s ∷ t)) (goes_next a law (Steps.first (S cs) f (pair cs) (pair_leads a law f s x e)))
          ∙ ap (λ n. onward a n (place + 1) t) (goes_next a law (Steps.second (S cs) _ f s x e (takes cs (a.code x))))

      -- all of them
      pub run_on : (u cs : List ℕ) (place : ℕ) → item_from a (S cs) place u ≡ item_from a (S (cs ++ codes_in a u)) (place + 2 * pairs a u) (drop (2 * pairs a u) u)
      run_on [] cs place = run_over cs [] place
      run_on (f ∷ []) cs place = run_over cs (f ∷ []) place
      run_on (f ∷ s ∷ t) cs place = go (a.named f s) refl (run_on t)
        where
          go : (o : Option E) → a.named f s ≡ o
              → ((cs : List ℕ) (place : ℕ) → item_from a (S cs) place t ≡ item_from a (S (cs ++ codes_in a t)) (place + 2 * pairs a t) (drop (2 * pairs a t) t))
              → item_from a (S cs) place (f ∷ s ∷ t)
              ≡ item_from a (S (cs ++ (elim o [ None ↦ [] | Some x ↦ a.code x ∷ codes_in a t ]))) (place + 2 * cond (is_some o) (suc (pairs a t)) 0) (drop (2 * cond (is_some o) (suc (pairs a t)) 0) (f ∷ s ∷ t))
          go None e ih = run_over cs (f ∷ s ∷ t) place
          go (Some x) e ih =
              let n = pairs a t in
              let two : suc (suc (2 * n)) ≡ 2 * suc n = omega arith in
              let on : place + 1 + 1 + 2 * n ≡ place + 2 * suc n = omega arith in
              let cs' = cs ++ a.code x ∷ codes_in a t in
              run_pair cs t f s place x e
              ∙ ih (cs ++ a.code x ∷ []) (place + 1 + 1)
              ∙ ap (λ l. item_from a (S l) (place + 1 + 1 + 2 * n) (drop (2 * n) t)) (append_assoc cs (a.code x ∷ []) (codes_in a t))
              ∙ ap (λ p. item_from a (S cs') p (drop (2 * n) t)) on
              ∙ ap (λ k. item_from a (S cs') (place + 2 * suc n) (drop k (f ∷ s ∷ t))) two

    module _ (t : List ℕ) where
      -- they are some
      ran_begun : {from to : ℕ} → Ran t from to → begun (codes_at t from) ≡ true
      ran_begun {from} h = lt-ltb 0 (length (codes_at t from)) (omega (arith, codes_length (drop from t), h.some))

      -- what a run does in a state that takes one
      ran : (S : List ℕ → State) (takes : (cs : List ℕ) (code : ℕ) → Takes (S cs) code (S (cs ++ code ∷ []))) (pair : (cs : List ℕ) → takes_pair (S cs) ≡ true) (from to : ℕ) → Ran t from to → item_from a (S []) from (drop from t) ≡ item_from a (S (codes_at t from)) to (drop to t)
      ran S takes pair from to h =
          run_on S takes pair (drop from t) [] from
          ∙ ap (item_from a (S (codes_at t from)) (from + 2 * pairs a (drop from t))) (drop-drop (2 * pairs a (drop from t)) from t)
          ∙ ap (λ n. item_from a (S (codes_at t from)) n (drop n t)) (sym h.end)

      -- a run of a group
      group_ran : (runs : List (List ℕ)) (from to : ℕ) → Ran t from to → item_from a (alternatives runs []) from (drop from t) ≡ item_from a (alternatives runs (codes_at t from)) to (drop to t)
      group_ran runs = ran (alternatives runs) (Steps.in_group runs) (λ cs. refl)

      -- the first run of a range
      low_ran : (inside : Bool) (from to : ℕ) → Ran t from to → item_from a (low inside []) from (drop from t) ≡ item_from a (low inside (codes_at t from)) to (drop to t)
      low_ran inside = ran (low inside) (Steps.in_low inside) (λ cs. refl)

      -- the second
      high_ran : (inside : Bool) (first : List ℕ) (from to : ℕ) → Ran t from to → item_from a (high inside first []) from (drop from t) ≡ item_from a (high inside first (codes_at t from)) to (drop to t)
      high_ran inside first = ran (high inside first) (Steps.in_high inside first) (λ cs. refl)

      -- a character does not stand where a text goes on
      other_than : (place c : ℕ) {b : Bool} → standing t place c ≡ false → place < length t → eqb (get_or t place 0) c ≡ true → b ≡ false
      other_than place c none h e = absurd (both_ways (eqb (get_or t place 0) c) (stands_false t place c none h) e)

      module _ (from to : ℕ) (h : Ran t from to) where
        -- a bar behind a run
        bar_behind : (runs : List (List ℕ)) → standing t to 124 ≡ true → item_from a (alternatives runs []) from (drop from t) ≡ item_from a (alternatives (runs ++ codes_at t from ∷ []) []) (to + 1) (drop (to + 1) t)
        bar_behind runs bar = group_ran runs from to h ∙ goes law t to bar (Steps.bar runs (codes_at t from) (ran_begun h))

        -- the first run of a group and a bar
        pub group_begun : standing t to 124 ≡ true → Alternating t from (to + 1)
        group_begun bar = record { runs = codes_at t from ∷ []; some = omega arith; reads = bar_behind [] bar }

        -- the first run, and no bar
        pub group_alone : (at : ℕ) → standing t to 124 ≡ false → at ≡ pair_stop a to (drop to t) → Stops a t (alternatives [] []) from at
        group_alone at bar e =
            group_ran [] from to h
            ∙ no_pair t (alternatives [] (codes_at t from)) to h.none_more (λ l. group_sign [] (codes_at t from) _ (λ e. other_than to 124 bar l e) (λ e. and_right (begun (codes_at t from)) _ refl))
            ∙ ap Err (sym e)

        module _ (start : ℕ) (so_far : Alternating t start from) where
          -- one run more, and a bar
          pub group_more : standing t to 124 ≡ true → Alternating t start (to + 1)
          group_more bar = record {
            runs = so_far.runs ++ codes_at t from ∷ [];
            some = omega (arith, length-append so_far.runs (codes_at t from ∷ []));
            reads = so_far.reads ∙ bar_behind so_far.runs bar;
          }

          -- the last run, and the end
          pub group_done : standing t to 41 ≡ true → (runs : List (List ℕ)) × Completes a t (alternatives [] []) start (group runs) (to + 1)
          group_done close = (
            so_far.runs ++ codes_at t from ∷ [],
            so_far.reads ∙ group_ran so_far.runs from to h ∙ done law t to close (Steps.close_group so_far.runs (codes_at t from) (ran_begun h) (lt-ltb 0 (length so_far.runs) so_far.some)),
          )

          -- a run, and neither
          pub group_stops : (at : ℕ) → standing t to 124 ≡ false → standing t to 41 ≡ false → at ≡ pair_stop a to (drop to t) → Stops a t (alternatives [] []) start at
          group_stops at bar close e =
              so_far.reads
              ∙ group_ran so_far.runs from to h
              ∙ no_pair t (alternatives so_far.runs (codes_at t from)) to h.none_more (λ l. group_sign so_far.runs (codes_at t from) _ (λ e. other_than to 124 bar l e) (λ e. other_than to 41 close l e))
              ∙ ap Err (sym e)

      -- no run where one begins
      empty_group : (runs : List (List ℕ)) (place at : ℕ) → NoPairAt t place at → Stops a t (alternatives runs []) place at
      empty_group runs place at h = no_pair t (alternatives runs []) place h.0 (λ _. group_sign runs [] _ (λ _. refl) (λ _. refl)) ∙ ap Err (sym h.1)

      -- no first run of a group
      pub group_none : (place at : ℕ) → NoPairAt t place at → Stops a t (alternatives [] []) place at
      group_none = empty_group []

      -- no run behind a bar
      pub group_empty : (start place at : ℕ) → Alternating t start place → NoPairAt t place at → Stops a t (alternatives [] []) start at
      group_empty start place at so_far h = so_far.reads ∙ empty_group so_far.runs place at h

      -- no first run of a range
      pub low_none : (inside : Bool) (place at : ℕ) → NoPairAt t place at → Stops a t (low inside []) place at
      low_none inside place at h = no_pair t (low inside []) place h.0 (λ _. low_sign inside [] _ (λ _. refl) (λ _. refl)) ∙ ap Err (sym h.1)

      module _ (inside : Bool) (from colon : ℕ) (h : Ran t from colon) where
        -- a run, and neither a colon nor an end
        pub low_stops : (at : ℕ) → (inside ≡ false → standing t colon 93 ≡ false) → standing t colon 58 ≡ false → at ≡ pair_stop a colon (drop colon t) → Stops a t (low inside []) from at
        low_stops at close sign e =
            low_ran inside from colon h
            ∙ no_pair t (low inside (codes_at t from)) colon h.none_more (λ l. low_sign inside (codes_at t from) _ (λ e. other_than colon 58 sign l e) (λ e. closes inside refl l e))
            ∙ ap Err (sym e)
          where
            closes : (b : Bool) → inside ≡ b → colon < length t → eqb (get_or t colon 0) 93 ≡ true → (begun (codes_at t from) && not b) ≡ false
            closes true is l e = and_right (begun (codes_at t from)) false refl
            closes false is l e = other_than colon 93 (close is) l e

        -- what one run leaves out
        pub other_done : inside ≡ false → standing t colon 93 ≡ true → Completes a t (low inside []) from (other (codes_at t from)) (colon + 1)
        other_done out close =
            ap (λ b. item_from a (low b []) from (drop from t)) out
            ∙ low_ran false from colon h
            ∙ done law t colon close (Steps.close_low (codes_at t from) (ran_begun h))

        module _ (sign : standing t colon 58 ≡ true) where
          -- a run and a colon
          colon_behind : item_from a (low inside []) from (drop from t) ≡ item_from a (high inside (codes_at t from) []) (colon + 1) (drop (colon + 1) t)
          colon_behind = low_ran inside from colon h ∙ goes law t colon sign (Steps.colon inside (codes_at t from) (ran_begun h))

          -- no second run
          pub high_none : (at : ℕ) → NoPairAt t (colon + 1) at → Stops a t (low inside []) from at
          high_none at n =
              colon_behind
              ∙ no_pair t (high inside (codes_at t from) []) (colon + 1) n.0 (λ _. high_sign inside (codes_at t from) [] _ (λ _. refl))
              ∙ ap Err (sym n.1)

          module _ (close : ℕ) (k : Ran t (colon + 1) close) where
            -- a second run and the end
            pub range_done : standing t close 93 ≡ true → Completes a t (low inside []) from (range FirstOn inside (codes_at t from) (codes_at t (colon + 1))) (close + 1)
            range_done end =
                colon_behind
                ∙ high_ran inside (codes_at t from) (colon + 1) close k
                ∙ done law t close end (Steps.close_high inside (codes_at t from) (codes_at t (colon + 1)) (ran_begun k))

            -- a second run, and no end
            pub high_stops : (at : ℕ) → standing t close 93 ≡ false → at ≡ pair_stop a close (drop close t) → Stops a t (low inside []) from at
            high_stops at end e =
                colon_behind
                ∙ high_ran inside (codes_at t from) (colon + 1) close k
                ∙ no_pair t (high inside (codes_at t from) (codes_at t (colon + 1))) close k.none_more (λ l. high_sign inside (codes_at t from) (codes_at t (colon + 1)) _ (λ e. other_than close 93 end l e))
                ∙ ap Err (sym e)

      -- an open bracket with no exclamation mark behind it is like a range of which nothing was read
      pub bracket_inside : (place : ℕ) → standing t place 33 ≡ false → item_from a bracket place (drop place t) ≡ item_from a (low true []) place (drop place t)
      bracket_inside place none =
          ⊎_elim
          (λ h.
          let c = get_or t place 0 in
          let rest = drop (place + 1) t in
          step a t bracket place h
          ∙ ap (λ n. onward a n place rest) (cond-false (eqb c 33) _ _ (stands_false t place 33 none h))
          ∙ same_pair c place rest (leads a c)
          ∙ ap (λ n. onward a n place rest) (sym (low_sign true [] c (λ _. refl) (λ _. refl)))
          ∙ sym (step a t (low true []) place h))
          (λ h. ap (item_from a bracket place) (drop_all place t h) ∙ sym (ap (item_from a (low true []) place) (drop_all place t h)))
          (cases_lt place (length t))
        where
          same_second : (c place : ℕ) (rest : List ℕ) → item_from a (half bracket c) place rest ≡ item_from a (half (low true []) c) place rest
          same_second c place [] = refl
          same_second c place (d ∷ rest) = by_element (a.named c d)
            where
              by_element : (o : Option E) → onward a (with_element a bracket o) place rest ≡ onward a (with_element a (low true []) o) place rest
              by_element None = refl
              by_element (Some x) = refl

          same_pair : (c place : ℕ) (rest : List ℕ) (b : Bool) → onward a (only_if b (goes_on (half bracket c))) place rest ≡ onward a (only_if b (goes_on (half (low true []) c))) place rest
          same_pair c place rest true = same_second c (place + 1) rest
          same_pair c place rest false = refl

      module _ (p : Position) (place : ℕ) where
        -- an opening parenthesis and an opening bracket
        pub group_opens : standing t place 40 ≡ true → item_from a (between p) place (drop place t) ≡ item_from a (alternatives [] []) (place + 1) (drop (place + 1) t)
        group_opens sign = goes law t place sign (Steps.open_group p)

        pub range_opens : standing t place 91 ≡ true → item_from a (between p) place (drop place t) ≡ item_from a bracket (place + 1) (drop (place + 1) t)
        range_opens sign = goes law t place sign (Steps.open_bracket p)

        -- a star and an opening brace where a gap may stand
        pub star_done : gap_allowed p ≡ true → standing t place 42 ≡ true → Completes a t (between p) place (gap 0 None) (place + 1)
        star_done allowed sign = done law t place sign (Steps.star p allowed)

        pub gap_opens : gap_allowed p ≡ true → standing t place 123 ≡ true → item_from a (between p) place (drop place t) ≡ item_from a (digits lower 0 0) (place + 1) (drop (place + 1) t)
        gap_opens allowed sign = goes law t place sign (Steps.open_brace p allowed)

        -- a literal
        pub literal_done : 0 < pairs a (drop place t) → (c : ℕ) × Completes a t (between p) place (literal c) (place + 2)
        literal_done some = go (drop place t) some
          where
            go : (u : List ℕ) → 0 < pairs a u → (c : ℕ) × (item_from a (between p) place u ≡ Ok (literal c, place + 2))
            go [] h = absurd (omega arith)
            go (f ∷ []) h = absurd (omega arith)
            go (f ∷ s ∷ rest) h = by_element (a.named f s) refl h
              where
                by_element : (o : Option E) → a.named f s ≡ o → 0 < cond (is_some o) (suc (pairs a rest)) 0 → (c : ℕ) × (item_from a (between p) place (f ∷ s ∷ rest) ≡ Ok (literal c, place + 2))
                by_element None e h = absurd (omega arith)
                by_element (Some x) e h =
                    let on : place + 1 + 1 ≡ place + 2 = omega arith in (
                      a.code x,
                      ap (λ n. onward a n place (s ∷ rest)) (goes_next a law (Steps.first (between p) f refl (pair_leads a law f s x e)))
                          ∙ ap (λ n. onward a n (place + 1) rest) (done_next a law (Steps.pair p f s x e))
                          ∙ ap (λ n. Ok (literal (a.code x), n)) on,
                    )
