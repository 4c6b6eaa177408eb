use Rattle.std.proofs.Common.{◌≡◌, ◌≢◌, ◌==◌, ℕ, length, sym, ◌∙◌, rules, tests, arith}
use Rattle.std.proofs.lemmas.Iterator.{YieldsList-from_slice, YieldsList-from_zip}
use Rattle.std.proofs.lemmas.Iterator.Search.{all_from_yields_List}
use Rattle.records.specs.Report.{folded}
use Rattle.records.proofs.Labels.{differ_in_length, equal_in_pairs}
use Rattle.records.proofs.format.Label.equals.Goals as goal

pub returns-then-given-label : goal.returns-then-given-label
returns-then-given-label c =
    let ne : length c.args.given.now ≢ length c.args.self.now.characters.items = grind arith in
    sym (differ_in_length _ _ ne)

pub returns : goal.returns
returns c =
    let alike : length c.args.given.now ≡ length c.args.self.now.characters.items = grind arith in
    all_from_yields_List (λ (p : ℕ × ℕ). folded p.0 == p.1) c.all.new.self _ _ c.all.ensures.ran (YieldsList-from_zip (YieldsList-from_slice c.args.given.now cc) (YieldsList-from_slice c.args.self.now.characters.items cc)) (λ x b q k. search (rules, tests))
    ∙ equal_in_pairs c.args.given.now c.args.self.now.characters.items alike
