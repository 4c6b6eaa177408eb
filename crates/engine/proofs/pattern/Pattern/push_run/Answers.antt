use Rattle.std.proofs.Common.{◌≡◌, true, List, [], ◌∷◌, sym, refl, ap, ◌∙◌, subst}
use Rattle.engine.specs.Stored.{items, all_runs_within, all_parts_within}
use Rattle.engine.specs.declared.pattern.Run.{Run}
use Rattle.engine.proofs.Growth.{runs_within_push, parts_within_more_runs, items_more_runs}
use Rattle.engine.proofs.pattern.Pattern.push_run.Goals as goal

pub invariant_of-self : goal.invariant_of-self
invariant_of-self c =
    let codes = c.args.self.now.codes.items in
    let runs = c.args.self.now.runs.items in
    let parts = c.args.self.now.parts.items in
    let more : List Run = c.args.run ∷ [] in
    let Within : List Run → Type 0 = λ rs. (all_runs_within codes rs ≡ true) × (all_parts_within codes rs parts ≡ true) in
    let within = subst Within (sym c.push.ensures.items)
    (runs_within_push codes runs c.args.run c.args.self.now.runs_within c.requires.within, parts_within_more_runs codes runs more parts c.args.self.now.parts_within) in
    record { runs_within = within.0; parts_within = within.1 }

pub returns : goal.returns
returns c =
    let codes = c.args.self.now.codes.items in
    let runs = c.args.self.now.runs.items in
    let parts = c.args.self.now.parts.items in
    let pushed = c.push.ensures.items in
    record {
      codes = refl;
      runs = pushed;
      items = ap (λ rs. items codes rs parts) pushed ∙ items_more_runs codes runs (c.args.run ∷ []) parts c.args.self.now.runs_within c.args.self.now.parts_within;
    }
