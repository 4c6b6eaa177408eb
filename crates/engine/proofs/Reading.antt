-- What was read of a text is what a pattern holds, token by token.
use Rattle.std.proofs.Common.{◌≡◌, ℕ, ◌+◌, ◌*◌, ◌<◌, ◌≤◌, List, [], ◌++◌, length, drop, sym, ap, ◌∙◌, arith, length-append, length-drop}
use Rattle.kinds.specs.Alphabet.{Alphabet, Lawful}
use Rattle.patterns.specs.Grammar.{Position, start}
use Rattle.patterns.specs.Reader.{between, follow, items_of}
use Rattle.lexer.specs.Meanings.{items_at, run_count}
use Rattle.lexer.specs.Tokens.{Lexeme, behind_lexeme, written}
use Rattle.lexer.proofs.Meanings.{prepended, prepended_more, none_in_front, taken, taken_some, Means}
use Rattle.engine.specs.Reading.{held}
use Rattle.engine.specs.declared.pattern.Pattern.{Pattern}

module _ {E : Type 0} (a : Alphabet E) (law : Lawful a) where
  -- What was read of a text before a place of it: its items are those of the pattern and those of the rest.
  pub record ReadSoFar (t : List ℕ) (pattern : Pattern) (p : Position) (place : ℕ) : Type 0 where
    pub follows : items_of a t ≡ prepended (held pattern) (follow a (between p) place place (drop place t))
    pub codes : 2 * length pattern.codes.items ≤ place
    pub runs : 3 * length pattern.runs.items ≤ place
    pub items : length (held pattern) + taken p ≤ place
    pub inside : place ≤ length t

  -- nothing, before the start
  pub read_none : (t : List ℕ) (pattern : Pattern) → pattern.codes.items ≡ [] → pattern.runs.items ≡ [] → held pattern ≡ [] → ReadSoFar t pattern start 0
  read_none t pattern no_codes no_runs no_items = record {
    follows = none_in_front a (items_of a t) ∙ ap (λ qs. prepended qs (items_of a t)) (sym no_items);
    codes = omega (arith, ap length no_codes);
    runs = omega (arith, ap length no_runs);
    items = omega (arith, ap length no_items);
    inside = omega arith;
  }

  module _ (t : List ℕ) (before : Pattern) (p : Position) (place later : ℕ) (x : Lexeme) (so_far : ReadSoFar t before p place) (means : Means a law t p place x)
      (ahead : drop place t ≡ written x ++ drop later t) (end : later ≡ place + length (written x)) where
    -- a token stands within the text
    pub token_inside : later ≤ length t
    token_inside = omega (arith, so_far.inside, end, ap length ahead, length-drop place t, length-append (written x) (drop later t))

    -- there is room for it
    pub record Room : Type 0 where
      pub parts : length (held before) + length (items_at a place x) ≤ 199
      pub codes : 2 * length before.codes.items + length (written x) ≤ 200
      pub runs : length before.runs.items + run_count x ≤ 66
      pub place_fits : place + length (written x) ≤ 200
      pub onward : place < later

    -- where the text has at most 200 characters
    pub room : length t ≤ 200 → Room
    room short =
        let inside = token_inside in
        record {
          parts = omega (arith, so_far.items, means.items, inside, end, short, taken_some x);
          codes = omega (arith, so_far.codes, inside, end, short);
          runs = omega (arith, so_far.runs, means.runs, inside, end, short);
          place_fits = omega (arith, inside, end, short);
          onward = omega (arith, means.some, end);
        }

    -- with its items the pattern has those before its end
    pub read_more : (after : Pattern) (p' : Position) → 2 * length after.codes.items ≤ 2 * length before.codes.items + length (written x) → length after.runs.items ≡ length before.runs.items + run_count x → held after ≡ held before ++ items_at a place x → p' ≡ behind_lexeme x → ReadSoFar t after p' later
    read_more after p' codes runs items behind_it = record {
      follows = so_far.follows
          ∙ ap (prepended (held before)) means.follows
          ∙ prepended_more a (held before) (items_at a place x) _
          ∙ (λ i. prepended (sym items i) (follow a (between (sym behind_it i)) (sym end i) (sym end i) (drop (sym end i) t)));
      codes = omega (arith, codes, so_far.codes, end);
      runs = omega (arith, runs, so_far.runs, means.runs, end);
      items = omega (arith, ap length items, length-append (held before) (items_at a place x), so_far.items, means.items, end, ap taken behind_it);
      inside = token_inside;
    }
