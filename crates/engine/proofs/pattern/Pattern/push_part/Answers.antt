use Rattle.std.proofs.Common.{◌≡◌, true, List, sym, refl, ap, ◌∙◌, subst}
use Rattle.std.proofs.lemmas.List.{map_push}
use Rattle.engine.specs.Stored.{placed_of, items, all_runs_within, all_parts_within}
use Rattle.engine.specs.declared.pattern.PlacedPart.{PlacedPart}
use Rattle.engine.proofs.Growth.{parts_within_push}
use Rattle.engine.proofs.pattern.Pattern.push_part.Goals as goal

pub invariant_of-self : goal.invariant_of-self
invariant_of-self c =
    let codes = c.args.self.now.codes.items in
    let runs = c.args.self.now.runs.items in
    let parts = c.args.self.now.parts.items in
    let Within : List PlacedPart → Type 0 = λ ps. (all_runs_within codes runs ≡ true) × (all_parts_within codes runs ps ≡ true) in
    let within = subst Within (sym c.push.ensures.items)
    (c.args.self.now.runs_within, parts_within_push codes runs parts c.args.part c.args.self.now.parts_within c.requires.within) in
    record { runs_within = within.0; parts_within = within.1 }

pub returns : goal.returns
returns c =
    let codes = c.args.self.now.codes.items in
    let runs = c.args.self.now.runs.items in
    let parts = c.args.self.now.parts.items in
    record {
      codes = refl;
      runs = refl;
      items = ap (items codes runs) c.push.ensures.items ∙ map_push (placed_of codes runs) parts c.args.part;
    }
