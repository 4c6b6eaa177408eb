-- Books as the lists of what stands in them: maps from ids, made from lists of pairs in order.
use Rattle.std.proofs.Common.{◌≡◌, ℕ, zero, suc, ◌+◌, ◌<◌, ◌≤◌, Bool, true, false, not, cond, ltb, T, ◌&&◌, ◌↔◌, List, [], ◌∷◌, map, length, take, drop, get_or, Some, None, Option, Ordering, Less, Equal, Greater, is_some, sym, refl, ap, ◌∙◌, subst, arith}
use Rattle.std.proofs.lemmas.Cmp.{ranked, eq_by_cmp_equiv}
use Rattle.std.proofs.lemmas.List.Sums.{sum_by-cons}
use Rattle.std.proofs.lemmas.Bool.{lt-ltb, le-ltb}
use Rattle.std.proofs.lemmas.List.Elements.{All-from_recursion, recursion_from_All, All-weaker}
use Rattle.std.proofs.lemmas.Option.{none-some}
use Rattle.std.specs.Cmp.{nat_cmp_is, nat_cmp_total}
use Rattle.std.specs.FinMap as map
use Rattle.std.specs.FinMap.Entries.{put, find, where_key, below_all, is_sorted, by_order, is_sorted-put, find-where_key, is_sorted-where_key}
use Rattle.std.specs.List.{filter_map, cons_option, insert, remove, sum_by, count_by, slice_get, AllByRecursion}
use Rattle.std.specs.Ordering.{nat_cmp, is_lt, is_eq, eq_by_cmp}
use Rattle.records.proofs.Members.{holds_at}

-- both of two tests hold
both : (x y : Bool) → T (x && y) ↔ (T x × T y)
both true y = (λ h. (tt, h), λ h. h.1)
both false y = (λ h. absurd h, λ h. absurd h.0)

-- the order of two numbers, from what holds of them: the first is below the second
less : (x y : ℕ) → x < y → nat_cmp x y ≡ Less
less x y lt = sym (nat_cmp_is x y Less lt)

-- the second is below the first
more : (x y : ℕ) → y < x → nat_cmp x y ≡ Greater
more x y lt = sym (nat_cmp_is x y Greater lt)

-- they are the same
equal : (x y : ℕ) → x ≡ y → nat_cmp x y ≡ Equal
equal x y e = sym (nat_cmp_is x y Equal e)

-- and what holds of them, where they are in order
below : (x y : ℕ) → T (is_lt (nat_cmp x y)) ↔ (x < y)
below x y = (
  λ t. elim (nat_cmp x y) as (λ (o : Ordering). nat_cmp x y ≡ o → T (is_lt o) → x < y) [
    | Less ↦ λ e _. ranked x y Less (sym e)
    | Equal ↦ λ e h. absurd h
    | Greater ↦ λ e h. absurd h
  ] refl t,
  λ lt. subst (λ (o : Ordering). T (is_lt o)) (sym (less x y lt)) tt,
)

-- a choice and the choice by the other answer
turned : {A : Type 0} (b c : Bool) (x y : A) → b ≡ c → cond (not b) x y ≡ cond c y x
turned true c x y e = ap (λ d. cond d y x) e
turned false c x y e = ap (λ d. cond d y x) e

-- what is not some is none
pub none_from : {A : Type 0} (o : Option A) → is_some o ≡ false → o ≡ None
none_from None e = refl
none_from (Some x) e = cc

-- the images of a list with an element more are those of the list with its image more
pub map_insert : {X Y : Type 0} (f : X → Y) (xs : List X) (i : ℕ) (x : X) → map f (insert xs i x) ≡ insert (map f xs) i (f x)
map_insert f xs zero x = refl
map_insert f [] (suc i) x = refl
map_insert f (y ∷ xs) (suc i) x = ap (λ ys. f y ∷ ys) (map_insert f xs i x)

-- and of a list without one, those without its image
pub map_remove : {X Y : Type 0} (f : X → Y) (xs : List X) (i : ℕ) → map f (remove xs i) ≡ remove (map f xs) i
map_remove f [] zero = refl
map_remove f [] (suc i) = refl
map_remove f (y ∷ xs) zero = refl
map_remove f (y ∷ xs) (suc i) = ap (λ ys. f y ∷ ys) (map_remove f xs i)

module _ {X : Type 0} where
  -- a key that is below all keys of a list
  keys_below : (k : ℕ) (es : List (ℕ × X)) → T (below_all nat_cmp k es) ↔ AllByRecursion (λ e. k < e.0) es
  keys_below k [] = (λ _. tt, λ _. tt)
  keys_below k (e ∷ es) =
      let first = below k e.0 in
      let rest = keys_below k es in
      let parts = both (is_lt (nat_cmp k e.0)) (below_all nat_cmp k es) in
      (λ h. let p = parts.0 h in (first.0 p.0, rest.0 p.1), λ h. parts.1 (first.1 h.0, rest.1 h.1))

  -- entries are in order where the first is below the others, and they are in order
  pub sorted_parts : (e : ℕ × X) (es : List (ℕ × X)) → T (is_sorted nat_cmp (e ∷ es)) ↔ (AllByRecursion (λ f. e.0 < f.0) es × T (is_sorted nat_cmp es))
  sorted_parts e es =
      let parts = both (below_all nat_cmp e.0 es) (is_sorted nat_cmp es) in
      let head = keys_below e.0 es in
      (λ h. let p = parts.0 h in (head.0 p.0, p.1), λ h. parts.1 (head.1 h.0, h.1))

  -- Places.

  -- a key has its place at i in a list: what stands before i has lower keys, and what stands from i on higher ones
  pub record IsPlace (k : ℕ) (es : List (ℕ × X)) (i : ℕ) : Type 0 where
    pub before : AllByRecursion (λ e. e.0 < k) (take i es)
    pub behind : AllByRecursion (λ e. k < e.0) (drop i es)

  -- from what holds at each index of items with entries, as a search says it
  pub place_found : {S : Type 0} (entry : S → ℕ × X) (k : ℕ) (items : List S) (i : ℕ)
      → ((j : ℕ) (d : S) → j < i → j < length items → (entry (get_or items j d)).0 < k)
      → ((j : ℕ) (d : S) → i ≤ j → j < length items → k < (entry (get_or items j d)).0)
      → IsPlace k (map entry items) i
  place_found entry k [] zero low high = record { before = tt; behind = tt }
  place_found entry k [] (suc i) low high = record { before = tt; behind = tt }
  place_found entry k (s ∷ items) zero low high =
      let rest = place_found entry k items zero (λ j d lt _. absurd (omega arith)) (λ j d _ lt. high (suc j) d (omega arith) (omega arith)) in
      record { before = tt; behind = (high zero s (omega arith) (omega arith), rest.behind) }
  place_found entry k (s ∷ items) (suc i) low high =
      let rest = place_found entry k items i (λ j d lt within. low (suc j) d (omega arith) (omega arith)) (λ j d le within. high (suc j) d (omega arith) (omega arith)) in
      record { before = (low zero s (omega arith) (omega arith), rest.before); behind = rest.behind }

  -- no key above a key is below it
  none_counted : (k : ℕ) (es : List (ℕ × X)) → AllByRecursion (λ e. k < e.0) es → count_by (λ e. ltb e.0 k) es ≡ 0
  none_counted k [] above = refl
  none_counted k (e ∷ es) above =
      let rest = none_counted k es above.1 in
      let first = le-ltb e.0 k (omega (arith, above.0)) in
      sum_by-cons (λ (f : ℕ × X). cond (ltb f.0 k) 1 0) e es ∙ ap (λ b. cond b 1 0 + count_by (λ (f : ℕ × X). ltb f.0 k) es) first ∙ omega arith

  -- the place of a new key is the number of the keys below it
  pub place_counted : (k : ℕ) (es : List (ℕ × X)) → T (is_sorted nat_cmp es) → find nat_cmp k es ≡ None → IsPlace k es (count_by (λ e. ltb e.0 k) es)
  place_counted k [] sorted none = record { before = tt; behind = tt }
  place_counted k (e ∷ es) sorted none =
      let parts = (sorted_parts e es).0 sorted in
      let count = sum_by-cons (λ (f : ℕ × X). cond (ltb f.0 k) 1 0) e es in
      elim (nat_cmp k e.0) as (λ (o : Ordering). nat_cmp k e.0 ≡ o → cond (is_eq o) (Some e.1) (find nat_cmp k es) ≡ None → IsPlace k (e ∷ es) (count_by (λ f. ltb f.0 k) (e ∷ es))) [
        | Less ↦ λ o _.
            let lt : k < e.0 = ranked k e.0 Less (sym o) in
            let above : AllByRecursion (λ f. k < f.0) (e ∷ es) = (lt, recursion_from_All _ es (All-weaker (λ f. e.0 < f.0) (λ f. k < f.0) (λ f l. omega arith) es (All-from_recursion _ es parts.0))) in
            subst (IsPlace k (e ∷ es)) (sym (none_counted k (e ∷ es) above)) (record { before = tt; behind = above })
        | Equal ↦ λ o is. absurd (none-some e.1 (sym is))
        | Greater ↦ λ o is.
            let lt : e.0 < k = ranked k e.0 Greater (sym o) in
            let rest = place_counted k es parts.1 is in
            let all : count_by (λ f. ltb f.0 k) (e ∷ es) ≡ suc (count_by (λ f. ltb f.0 k) es) = count ∙ ap (λ b. cond b 1 0 + count_by (λ (f : ℕ × X). ltb f.0 k) es) (lt-ltb e.0 k lt) ∙ omega arith in
            subst (IsPlace k (e ∷ es)) (sym all) (record { before = (lt, rest.before); behind = rest.behind })
      ] refl none

  -- an entry goes in at the place of its key
  pub put_at : (k : ℕ) (v : X) (es : List (ℕ × X)) (i : ℕ) → IsPlace k es i → put nat_cmp k v es ≡ insert es i (k, v)
  put_at k v [] zero place = refl
  put_at k v [] (suc i) place = refl
  put_at k v (e ∷ es) zero place = ap (λ (o : Ordering). by_order o ((k, v) ∷ e ∷ es) ((e.0, v) ∷ es) (e ∷ put nat_cmp k v es)) (less k e.0 place.behind.0)
  put_at k v (e ∷ es) (suc i) place =
      ap (λ (o : Ordering). by_order o ((k, v) ∷ e ∷ es) ((e.0, v) ∷ es) (e ∷ put nat_cmp k v es)) (more k e.0 place.before.0)
      ∙ ap (λ fs. e ∷ fs) (put_at k v es i (record { before = place.before.1; behind = place.behind }))

  -- and the list stays in order
  pub insert_sorted : (k : ℕ) (v : X) (es : List (ℕ × X)) (i : ℕ) → IsPlace k es i → T (is_sorted nat_cmp es) → T (is_sorted nat_cmp (insert es i (k, v)))
  insert_sorted k v es i place sorted = subst (λ fs. T (is_sorted nat_cmp fs)) (put_at k v es i place) (is_sorted-put nat_cmp nat_cmp_total k v es sorted)

  -- the entries with other keys
  abbrev pub without : ℕ → List (ℕ × X) → List (ℕ × X)
  without k es = where_key nat_cmp (λ q. not (eq_by_cmp nat_cmp k q)) es

  -- keys above a key pass the test that they differ from it
  others_kept : (k : ℕ) (es : List (ℕ × X)) → AllByRecursion (λ e. k < e.0) es → without k es ≡ es
  others_kept k [] above = refl
  others_kept k (e ∷ es) above =
      ap (λ (o : Ordering). cond (not (is_eq o)) (e ∷ without k es) (without k es)) (less k e.0 above.0)
      ∙ ap (λ fs. e ∷ fs) (others_kept k es above.1)

  -- what holds of all entries, and of a new one, holds when it is put in
  pub all_put : (P : ℕ × X → Type 0) (k : ℕ) (v : X) (es : List (ℕ × X)) → P (k, v) → AllByRecursion P es → AllByRecursion P (put nat_cmp k v es)
  all_put P k v [] one all = (one, tt)
  all_put P k v (e ∷ es) one all =
      elim (nat_cmp k e.0) as (λ (o : Ordering). nat_cmp k e.0 ≡ o → AllByRecursion P (by_order o ((k, v) ∷ e ∷ es) ((e.0, v) ∷ es) (e ∷ put nat_cmp k v es))) [
        | Less ↦ λ _. (one, all)
        | Equal ↦ λ o. (subst (λ q. P (q, v)) (ranked k e.0 Equal (sym o)) one, all.1)
        | Greater ↦ λ _. (all.0, all_put P k v es one all.1)
      ] refl

  -- an entry goes out from where it stands
  pub without_at : (k : ℕ) (v : X) (es : List (ℕ × X)) (i : ℕ) → T (is_sorted nat_cmp es) → slice_get es i ≡ Some (k, v)
      → without k es ≡ remove es i
  without_at k v [] i sorted is = cc
  without_at k v (e ∷ es) zero sorted is =
      let same : e ≡ (k, v) = cc in
      let key : e.0 ≡ k = ap (λ f. f.0) same in
      let above = ((sorted_parts e es).0 sorted).0 in
      ap (λ (o : Ordering). cond (not (is_eq o)) (e ∷ without k es) (without k es)) (equal k e.0 (sym key))
      ∙ others_kept k es (subst (λ n. AllByRecursion (λ f. n < f.0) es) key above)
  without_at k v (e ∷ es) (suc i) sorted is =
      let parts = (sorted_parts e es).0 sorted in
      ap (λ (o : Ordering). cond (not (is_eq o)) (e ∷ without k es) (without k es)) (more k e.0 (holds_at (λ f. e.0 < f.0) es i (k, v) parts.0 is))
      ∙ ap (λ fs. e ∷ fs) (without_at k v es i parts.1 is)

  -- and the list stays in order
  pub remove_sorted : (k : ℕ) (v : X) (es : List (ℕ × X)) (i : ℕ) → T (is_sorted nat_cmp es) → slice_get es i ≡ Some (k, v) → T (is_sorted nat_cmp (remove es i))
  remove_sorted k v es i sorted is =
      subst (λ fs. T (is_sorted nat_cmp fs)) (without_at k v es i sorted is) (is_sorted-where_key nat_cmp (λ q. not (eq_by_cmp nat_cmp k q)) es sorted)

  -- a key that has an entry finds its value
  pub find_at : (k : ℕ) (v : X) (es : List (ℕ × X)) (i : ℕ) → T (is_sorted nat_cmp es) → slice_get es i ≡ Some (k, v) → find nat_cmp k es ≡ Some v
  find_at k v [] i sorted is = cc
  find_at k v (e ∷ es) zero sorted is =
      let same : e ≡ (k, v) = cc in
      ap (λ (o : Ordering). cond (is_eq o) (Some e.1) (find nat_cmp k es)) (equal k e.0 (sym (ap (λ f. f.0) same))) ∙ ap (λ f. Some f.1) same
  find_at k v (e ∷ es) (suc i) sorted is =
      let parts = (sorted_parts e es).0 sorted in
      ap (λ (o : Ordering). cond (is_eq o) (Some e.1) (find nat_cmp k es)) (more k e.0 (holds_at (λ f. e.0 < f.0) es i (k, v) parts.0 is)) ∙ find_at k v es i parts.1 is

  -- and a key that has a place in a list finds nothing
  pub find_none : (k : ℕ) (es : List (ℕ × X)) (i : ℕ) → IsPlace k es i → find nat_cmp k es ≡ None
  find_none k [] i place = refl
  find_none k (e ∷ es) zero place =
      ap (λ (o : Ordering). cond (is_eq o) (Some e.1) (find nat_cmp k es)) (less k e.0 place.behind.0)
      ∙ find_none k es zero (record { before = tt; behind = place.behind.1 })
  find_none k (e ∷ es) (suc i) place =
      ap (λ (o : Ordering). cond (is_eq o) (Some e.1) (find nat_cmp k es)) (more k e.0 place.before.0)
      ∙ find_none k es i (record { before = place.before.1; behind = place.behind })

  -- Maps made from a list in order.

  -- a map is made from its entries
  pub from_entries_of : (m : map.FinMap nat_cmp X) → map.from_sorted (map.entries m) ≡ m
  from_entries_of m = map.same_entries_map _ _ (map.entries-from_sorted nat_cmp (map.entries m) (map.entries_sorted m))

  module _ (es : List (ℕ × X)) (sorted : T (is_sorted nat_cmp es)) where
    -- its entries are the list
    pub entries_made : map.entries (map.from_sorted {R = nat_cmp} es) ≡ es
    entries_made = map.entries-from_sorted nat_cmp es sorted

    -- its length
    pub len_made : map.len (map.from_sorted {R = nat_cmp} es) ≡ length es
    len_made = map.len-entries _ ∙ ap length entries_made

    -- its values, by rising key
    pub values_made : map.values (map.from_sorted {R = nat_cmp} es) ≡ map (λ e. e.1) es
    values_made = ap (λ fs. map (λ (e : ℕ × X). e.1) fs) entries_made

    -- the value of a key that has an entry
    pub get_made : (k : ℕ) (v : X) (i : ℕ) → slice_get es i ≡ Some (k, v) → map.get (map.from_sorted {R = nat_cmp} es) k ≡ Some v
    get_made k v i is = map.get-from_sorted nat_cmp es k sorted ∙ find_at k v es i sorted is

    -- a key that has a place in the list has no value
    pub get_none : (k : ℕ) (i : ℕ) → IsPlace k es i → map.get (map.from_sorted {R = nat_cmp} es) k ≡ None
    get_none k i place = map.get-from_sorted nat_cmp es k sorted ∙ find_none k es i place

    -- so the map has the key, or has it not
    pub contains_made : (k : ℕ) (v : X) (i : ℕ) → slice_get es i ≡ Some (k, v) → map.contains_key (map.from_sorted {R = nat_cmp} es) k ≡ true
    contains_made k v i is = ap is_some (get_made k v i is)

    pub contains_none : (k : ℕ) (i : ℕ) → IsPlace k es i → map.contains_key (map.from_sorted {R = nat_cmp} es) k ≡ false
    contains_none k i place = ap is_some (get_none k i place)

    -- to enter a key is to insert its entry at its place
    pub insert_made : (k : ℕ) (v : X) (i : ℕ) → IsPlace k es i → map.insert (map.from_sorted {R = nat_cmp} es) k v ≡ map.from_sorted (insert es i (k, v))
    insert_made k v i place =
        map.same_entries_map
        _
        _
        (map.entries-insert nat_cmp_total _ k v ∙ ap (put nat_cmp k v) entries_made ∙ put_at k v es i place
        ∙ sym (map.entries-from_sorted nat_cmp _ (insert_sorted k v es i place sorted)))

  -- what is left of a map without a key
  pub entries_left : (m : map.FinMap nat_cmp X) (k : ℕ) → map.entries (map.remove m k) ≡ without k (map.entries m)
  entries_left m k =
      let es = map.entries m in
      let sorted = is_sorted-where_key nat_cmp (λ q. not (eq_by_cmp nat_cmp k q)) es (map.entries_sorted m) in
      let alike : (q x : ℕ) → nat_cmp q x ≡ Equal → not (eq_by_cmp nat_cmp k x) ≡ not (eq_by_cmp nat_cmp k q) =
      λ q x t. ap (λ y. not (eq_by_cmp nat_cmp k y)) (sym (ranked q x Equal (sym t))) in
      let kept : (q : ℕ) → map.get (map.from_sorted {R = nat_cmp} (without k es)) q ≡ map.get (map.remove m k) q =
      λ q. map.get-from_sorted nat_cmp (without k es) q sorted ∙ find-where_key nat_cmp (λ x. not (eq_by_cmp nat_cmp k x)) q (alike q) es
      ∙ turned (eq_by_cmp nat_cmp k q) (eq_by_cmp nat_cmp q k) _ _ ((eq_by_cmp_equiv nat_cmp_total).symm k q)
      ∙ ap (λ o. cond (eq_by_cmp nat_cmp q k) None o) (sym (map.get-entries m q)) ∙ sym (map.get-remove nat_cmp_total m k q) in
      ap map.entries (sym (map.same_map nat_cmp_total map.nat_cmp-IsAntisymmetric _ _ kept)) ∙ map.entries-from_sorted nat_cmp (without k es) sorted

  -- to withdraw a key is to remove its entry
  pub remove_made : (es : List (ℕ × X)) → T (is_sorted nat_cmp es) → (k : ℕ) (v : X) (i : ℕ) → slice_get es i ≡ Some (k, v)
      → map.remove (map.from_sorted {R = nat_cmp} es) k ≡ map.from_sorted (remove es i)
  remove_made es sorted k v i is =
      map.same_entries_map
      _
      _
      (entries_left _ k ∙ ap (without k) (entries_made es sorted) ∙ without_at k v es i sorted is
      ∙ sym (map.entries-from_sorted nat_cmp _ (remove_sorted k v es i sorted is)))

  -- Sums over what the values of a map say.

  -- what a value says, counted: nothing where it says nothing
  abbrev pub counted : {Y : Type 0} → (X → Option Y) → (Y → ℕ) → X → ℕ
  counted h f v = elim (h v) [ Some y ↦ f y | None ↦ 0 ]

  module _ {Y : Type 0} (h : X → Option Y) (f : Y → ℕ) where
    -- the sum of what some values say is that of what each says
    pub sum_counted : (vs : List X) → sum_by f (filter_map h vs) ≡ sum_by (counted h f) vs
    sum_counted [] = refl
    sum_counted (v ∷ vs) =
        let rest = sum_counted vs in
        let whole = sum_by-cons (counted h f) v vs in
        elim (h v) as (λ (o : Option Y). sum_by (counted h f) (v ∷ vs) ≡ elim o [ Some y ↦ f y | None ↦ 0 ] + sum_by (counted h f) vs
        → sum_by f (cons_option o (filter_map h vs)) ≡ sum_by (counted h f) (v ∷ vs)) [
          | Some y ↦ λ e. let first = sum_by-cons f y (filter_map h vs) in omega arith
          | None ↦ λ e. omega arith
        ] whole

    -- the sum over the entries of a list
    abbrev pub total : List (ℕ × X) → ℕ
    total es = sum_by f (filter_map h (map (λ e. e.1) es))

    -- an entry in front adds what it says
    total_cons : (e : ℕ × X) (es : List (ℕ × X)) → total (e ∷ es) ≡ counted h f e.1 + total es
    total_cons e es =
        let vs = map (λ (g : ℕ × X). g.1) es in
        sum_counted (e.1 ∷ vs) ∙ sum_by-cons (counted h f) e.1 vs ∙ ap (λ n. counted h f e.1 + n) (sym (sum_counted vs))

    -- a new key adds what its value says
    total_put : (k : ℕ) (v : X) (es : List (ℕ × X)) → find nat_cmp k es ≡ None → total (put nat_cmp k v es) ≡ total es + counted h f v
    total_put k v [] none = let one = total_cons (k, v) [] in omega arith
    total_put k v (e ∷ es) none =
        elim (nat_cmp k e.0) as (λ (o : Ordering). cond (is_eq o) (Some e.1) (find nat_cmp k es) ≡ None
        → total (by_order o ((k, v) ∷ e ∷ es) ((e.0, v) ∷ es) (e ∷ put nat_cmp k v es)) ≡ total (e ∷ es) + counted h f v) [
          | Less ↦ λ _. let first = total_cons (k, v) (e ∷ es) in omega arith
          | Equal ↦ λ is. cc
          | Greater ↦ λ is.
              let rest = total_put k v es is in
              let before = total_cons e es in
              let after = total_cons e (put nat_cmp k v es) in
              omega arith
        ] none

    -- a key that goes takes away what its value says
    total_without : (k : ℕ) (v : X) (es : List (ℕ × X)) → T (is_sorted nat_cmp es) → find nat_cmp k es ≡ Some v
        → total (without k es) + counted h f v ≡ total es
    total_without k v [] sorted is = cc
    total_without k v (e ∷ es) sorted is =
        let parts = (sorted_parts e es).0 sorted in
        let first = total_cons e es in
        elim (nat_cmp k e.0) as (λ (o : Ordering). nat_cmp k e.0 ≡ o → cond (is_eq o) (Some e.1) (find nat_cmp k es) ≡ Some v
        → total (cond (not (is_eq o)) (e ∷ without k es) (without k es)) + counted h f v ≡ total (e ∷ es)) [
          | Less ↦ λ _ found. let rest = total_without k v es parts.1 found in let kept = total_cons e (without k es) in omega arith
          | Equal ↦ λ o found.
              let key : k ≡ e.0 = ranked k e.0 Equal (sym o) in
              let all = others_kept k es (subst (λ n. AllByRecursion (λ g. n < g.0) es) (sym key) parts.0) in
              let value : e.1 ≡ v = cc in
              let left = ap total all in
              let said = ap (counted h f) value in
              omega arith
          | Greater ↦ λ _ found. let rest = total_without k v es parts.1 found in let kept = total_cons e (without k es) in omega arith
        ] refl is

    -- the sum of a map with a new key is that of before and what its value says
    pub sum_inserted : (m : map.FinMap nat_cmp X) (k : ℕ) (v : X) → map.contains_key m k ≡ false
        → sum_by f (filter_map h (map.values (map.insert m k v))) ≡ sum_by f (filter_map h (map.values m)) + counted h f v
    sum_inserted m k v new = ap total (map.entries-insert nat_cmp_total m k v) ∙ total_put k v (map.entries m) (sym (map.get-entries m k) ∙ none_from _ new)

    -- the sum of a map without a key is that of before less what its value said
    pub sum_removed : (m : map.FinMap nat_cmp X) (k : ℕ) (v : X) → map.get m k ≡ Some v
        → sum_by f (filter_map h (map.values (map.remove m k))) + counted h f v ≡ sum_by f (filter_map h (map.values m))
    sum_removed m k v found =
        ap (λ es. total es + counted h f v) (entries_left m k)
        ∙ total_without k v (map.entries m) (map.entries_sorted m) (sym (map.get-entries m k) ∙ found)
