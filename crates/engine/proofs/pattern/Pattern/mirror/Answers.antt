use Rattle.std.proofs.Common.{◌≡◌, ℕ, List, map, reverse, length, sym, ap, ◌∙◌, arith}
use Rattle.std.specs.List.{refill}
use Rattle.std.proofs.lemmas.Grind.{common_steps}
use Rattle.engine.specs.Stored.{items, all_runs_within, all_parts_within}
use Rattle.engine.specs.Turned.{turned_run, turned_placed}
use Rattle.engine.specs.declared.pattern.PlacedPart.{PlacedPart}
use Rattle.engine.specs.declared.pattern.Run.{Run}
use Rattle.engine.proofs.Mirrored.{items_turned, turned_runs_within, turned_parts_within}
use Rattle.engine.proofs.Searching.{map_reverse}
use Rattle.engine.proofs.pattern.Pattern.mirror.Goals as goal
use Rattle.engine.proofs.pattern.Pattern.mirror.Goals.{After-reverse}

-- what holds of the turned lists holds of those that are stored
after : {X : Type 0} (P : List ℕ → List Run → List PlacedPart → X) (c : After-reverse)
    → let pattern = c.args.of.now in
    let codes = pattern.codes.items in
    let turned = c.turn_all-2.new.turned.items in
    P c.reverse_all.new.reversed.items c.turn_all.new.turned.items (refill (length turned) turned c.reverse.new.self)
    ≡ P (reverse codes) (map (turned_run (length codes)) pattern.runs.items) (map (turned_placed (length codes)) (reverse pattern.parts.items))
after P c =
    let pattern = c.args.of.now in
    let total = c.len-total.ensures.value in
    let turned = c.turn_all-2.new.turned.items in
    let run = c.turn_all.ensures ∙ ap (λ n. map (turned_run n) pattern.runs.items) total in
    let stored : refill (length turned) turned c.reverse.new.self ≡ reverse turned = grind (arith, common_steps) in
    let placed = stored ∙ ap reverse (c.turn_all-2.ensures ∙ ap (λ n. map (turned_placed n) pattern.parts.items) total) ∙ sym (map_reverse (turned_placed (length pattern.codes.items)) pattern.parts.items) in
    λ i. P (c.reverse_all.ensures i) (run i) (placed i)

pub invariant_of-self : goal.invariant_of-self
invariant_of-self c =
    let pattern = c.args.of.now in
    let codes = pattern.codes.items in
    let runs = pattern.runs.items in
    let reversed = (goal.at.invariant_of-self c).After-reverse in
    record {
      runs_within = after (λ codes runs parts. all_runs_within codes runs) reversed ∙ turned_runs_within codes runs pattern.runs_within;
      parts_within = after all_parts_within reversed ∙ turned_parts_within codes runs pattern.parts.items pattern.parts_within;
    }

pub returns : goal.returns
returns c =
    let pattern = c.args.of.now in
    after items (goal.at.returns c).After-reverse ∙ items_turned pattern.codes.items pattern.runs.items pattern.runs_within pattern.parts.items pattern.parts_within
