-- How the runs of a group are put into a pattern, one after the other.
use Rattle.std.proofs.Common.{◌≡◌, ℕ, ◌+◌, ◌*◌, ◌≤◌, true, List, [], ◌∷◌, ◌++◌, map, length, drop, ap, ◌∙◌, subst, append_assoc, arith, length-append}
use Rattle.std.proofs.lemmas.List.{map-append, length_push}
use Rattle.kinds.specs.Alphabet.{Alphabet}
use Rattle.lexer.specs.Tokens.{codes_in}
use Rattle.lexer.proofs.Lexing.{codes_length}
use Rattle.lexer.proofs.TokenRuns.{total}
use Rattle.lexer.proofs.Tokens.{drop_front, pairs_fit}
use Rattle.engine.specs.Parts.{run_in, RunPushed}
use Rattle.engine.specs.Reading.{held}
use Rattle.engine.specs.Stored.{run_codes, all_runs_within}
use Rattle.engine.specs.declared.pattern.Pattern.{Pattern}
use Rattle.engine.specs.declared.pattern.Run.{Run}
use Rattle.engine.proofs.Growth.{runs_codes_more, runs_within_drop}

module _ {E : Type 0} (a : Alphabet E) where
  -- The first runs of a group are put into a pattern, and others are left.
  pub record Grouped (before now : Pattern) (texts left : List (List ℕ)) : Type 0 where
    pub added : List Run
    pub runs : now.runs.items ≡ before.runs.items ++ added
    pub many : length added + length left ≡ length texts
    pub said : map (run_codes now.codes.items) added ++ map (codes_in a) left ≡ map (codes_in a) texts
    pub items : held now ≡ held before
    pub room : 2 * length now.codes.items + total left ≤ 2 * length before.codes.items + total texts

  -- a run's codes are half as many as its characters
  pub codes_room : (old new text : List ℕ) → new ≡ old ++ codes_in a text → 2 * length new ≤ 2 * length old + length text
  codes_room old new text e = omega (arith, ap length e, length-append old (codes_in a text), codes_length a text, pairs_fit a text)

  -- one run more
  module _ (before now mid after : Pattern) (texts left : List (List ℕ)) (text : List ℕ) (run : Run)
      (so_far : Grouped before now texts (text ∷ left))
      (codes : mid.codes.items ≡ now.codes.items ++ codes_in a text) (runs : mid.runs.items ≡ now.runs.items) (items : held mid ≡ held now)
      (said : run_in mid run ≡ codes_in a text) (pushed : RunPushed mid run after) where
    -- the runs that were put there lie within the codes
    added_within : all_runs_within now.codes.items so_far.added ≡ true
    added_within =
        let last = ap (drop (length before.runs.items)) so_far.runs ∙ drop_front before.runs.items so_far.added in
        subst (λ rs. all_runs_within now.codes.items rs ≡ true) last (runs_within_drop now.codes.items (length before.runs.items) now.runs.items now.runs_within)

    -- and keep their codes
    added_codes : map (run_codes after.codes.items) so_far.added ≡ map (run_codes now.codes.items) so_far.added
    added_codes =
        ap (λ cs. map (run_codes cs) so_far.added) (pushed.codes ∙ codes)
        ∙ runs_codes_more now.codes.items (codes_in a text) so_far.added added_within

    -- so one run more is put into the pattern
    pub grouped_more : Grouped before after texts left
    grouped_more =
        let new = run_codes after.codes.items run in
        let new_is : new ≡ codes_in a text = ap (λ cs. run_codes cs run) pushed.codes ∙ said in
        let longer : length after.codes.items ≡ length now.codes.items + length (codes_in a text) = ap length (pushed.codes ∙ codes) ∙ length-append now.codes.items (codes_in a text) in
        let room = so_far.room in
        let many = so_far.many in
        record {
          added = so_far.added ++ run ∷ [];
          runs = pushed.runs ∙ ap (λ rs. rs ++ run ∷ []) (runs ∙ so_far.runs) ∙ append_assoc before.runs.items so_far.added (run ∷ []);
          many = omega (arith, length_push so_far.added run);
          said = ap (λ l. l ++ map (codes_in a) left) (map-append (run_codes after.codes.items) so_far.added (run ∷ []))
              ∙ append_assoc (map (run_codes after.codes.items) so_far.added) (new ∷ []) (map (codes_in a) left)
              ∙ (λ i. added_codes i ++ new_is i ∷ map (codes_in a) left)
              ∙ so_far.said;
          items = pushed.items ∙ items ∙ so_far.items;
          room = omega (arith, longer, codes_length a text, pairs_fit a text, so_far.room);
        }
