-- What is kept of a pattern's items while its fragments are counted.
use Rattle.std.specs.Prelude.{ℕ, ◌+◌, ◌-◌, ◌^◌, min, Bool, false, if◌then◌else◌, ◌||◌, List, [], ◌∷◌, Some, None, Option, nat_le, nat_lt}
use Rattle.std.specs.Option.{option_or, unwrap_or}
use Rattle.patterns.specs.Fragments.{span, is_gap, endless, wrong, least_with, is_literal}
use Rattle.patterns.specs.Grammar.{Placed}
use Rattle.engine.specs.declared.limits.Section.{Section}
use Rattle.engine.specs.declared.limits.Tally.{Tally}

-- no items
abbrev pub empty : Section
empty = record { start = None; span = 0; literal = false; endless = false }

-- one item
abbrev pub single : Placed → Section
single q =
    record {
      start = Some q.place;
      span = span q.item;
      literal = is_literal q.item;
      endless = endless q.item;
    }

-- items and those that follow them; a span that does not fit is the greatest that does
abbrev pub joined : Section → Section → Section
joined a b =
    record {
      start = option_or a.start b.start;
      span = min (a.span + b.span) (2 ^ 32 - 1);
      literal = a.literal || b.literal;
      endless = a.endless || b.endless;
    }

-- before the first item
abbrev pub initial : Tally
initial = record { ended = 0; body = empty; spacing = empty; limit = None; bare = None }

-- a place that may be beyond a limit, and the smallest that was found before
abbrev pub smallest_with : Option ℕ → Bool → ℕ → Option ℕ
smallest_with found beyond place = if beyond then least_with found place else found

-- the fragment has ended
abbrev pub closed : Tally → Tally
closed t =
    record {
      ended = t.ended + 1;
      body = empty;
      spacing = empty;
      limit =
          smallest_with t.limit (nat_le 8 t.ended || nat_lt 1024 t.body.span)
          (unwrap_or t.body.start 0);
      bare = if t.body.literal then t.bare else option_or t.bare (Some (unwrap_or t.body.start 0));
    }

-- an item is judged by itself
abbrev pub judged : Tally → Placed → Tally
judged t q =
    record t { limit = smallest_with t.limit (wrong q.item) q.place }

-- one more gap
abbrev pub with_gap : Tally → Section → Tally
with_gap t s = record t { spacing = joined t.spacing s }

-- a thing begins a fragment
abbrev pub begun : Tally → Section → Tally
begun t s = let after = closed t in record after { body = s }

-- the gaps and a thing behind them are items of the fragment
abbrev pub extended : Tally → Section → Tally
extended t s = record t { body = joined (joined t.body t.spacing) s; spacing = empty }

-- one more thing: it begins a fragment where the spacing before it has no upper end
abbrev pub with_thing : Tally → Section → Tally
with_thing t s = if t.spacing.endless then begun t s else extended t s

-- one more item
abbrev pub with_item : Tally → Placed → Tally
with_item t q =
    if is_gap q.item then with_gap (judged t q) (single q) else with_thing (judged t q) (single q)

-- all items of a list
abbrev pub tallied : Tally → List Placed → Tally
tallied t [] = t
tallied t (q ∷ qs) = tallied (with_item t q) qs
