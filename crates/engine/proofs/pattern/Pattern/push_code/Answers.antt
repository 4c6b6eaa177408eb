use Rattle.std.proofs.Common.{◌≡◌, ℕ, true, List, [], ◌∷◌, sym, refl, ap, ◌∙◌, subst}
use Rattle.engine.specs.Stored.{items, all_runs_within, all_parts_within}
use Rattle.engine.proofs.Growth.{runs_within_more, parts_within_more_codes, items_more_codes}
use Rattle.engine.proofs.pattern.Pattern.push_code.Goals as goal

pub invariant_of-self : goal.invariant_of-self
invariant_of-self c =
    let codes = c.args.self.now.codes.items in
    let runs = c.args.self.now.runs.items in
    let parts = c.args.self.now.parts.items in
    let more : List ℕ = c.args.code ∷ [] in
    let Within : List ℕ → Type 0 = λ cs. (all_runs_within cs runs ≡ true) × (all_parts_within cs runs parts ≡ true) in
    let within = subst Within (sym c.push.ensures.items)
    (runs_within_more codes more runs c.args.self.now.runs_within, parts_within_more_codes codes more runs parts c.args.self.now.parts_within) in
    record { runs_within = within.0; parts_within = within.1 }

pub returns : goal.returns
returns c =
    let codes = c.args.self.now.codes.items in
    let runs = c.args.self.now.runs.items in
    let parts = c.args.self.now.parts.items in
    let pushed = c.push.ensures.items in
    record {
      codes = pushed;
      runs = refl;
      items = ap (λ cs. items cs runs parts) pushed ∙ items_more_codes codes (c.args.code ∷ []) runs parts c.args.self.now.runs_within c.args.self.now.parts_within;
    }
