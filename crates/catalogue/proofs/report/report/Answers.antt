use Rattle.std.proofs.Common.{◌≡◌, true, false, sym, ap, ◌∙◌, not, ◌==◌, length, Bool, rules, tests}
use Rattle.std.specs.List.{list_any}
use Rattle.std.specs.Prelude.{if◌then◌else◌}
use Rattle.std.proofs.lemmas.Iterator.{YieldsList-from_slice}
use Rattle.std.proofs.lemmas.Iterator.Search.{any_from_yields_List}
use Rattle.records.specs.Report.{hit_by, those_hit_by}
use Rattle.records.specs.declared.report.Status.TheVariants.{Negative, Tentative}
use Rattle.catalogue.specs.Reporting.{hitting_in}
use Rattle.catalogue.specs.Standing.{formats_in}
use Rattle.catalogue.proofs.Reporting.{any_flag, positive_report, other_report}
use Rattle.catalogue.proofs.report.report.Goals as goal
use Rattle.catalogue.proofs.report.report.Goals.{then-is_empty, else-is_empty}

pub returns-then-any : goal.returns-then-any
returns-then-any c =
    let hitting = hitting_in c.args.hitting.now in
    let formats = formats_in c.args.formats.now in
    let any = any_from_yields_List (λ (b : Bool). b) _ _ c.any.result c.any.ensures.ran (YieldsList-from_slice c.hit_flags-flags.result.items cc) (λ x b q k. search (rules, tests)) in
    let some : not (length (those_hit_by hitting formats) == 0) ≡ true = sym (any_flag (hit_by hitting) formats) ∙ ap (list_any (λ (b : Bool). b)) (sym c.hit_flags-flags.ensures) ∙ sym any ∙ c.if-any.true in
    positive_report hitting formats c.args.label.now c.positive-hits.result.items some c.positive-hits.ensures

pub returns : goal.returns
returns c =
    let hitting = hitting_in c.args.hitting.now in
    let formats = formats_in c.args.formats.now in
    let any = any_from_yields_List (λ (b : Bool). b) _ _ c.any.result c.any.ensures.ran (YieldsList-from_slice c.hit_flags-flags.result.items cc) (λ x b q k. search (rules, tests)) in
    let none : not (length (those_hit_by hitting formats) == 0) ≡ false = sym (any_flag (hit_by hitting) formats) ∙ ap (list_any (λ (b : Bool). b)) (sym c.hit_flags-flags.ensures) ∙ sym any ∙ c.if-any.false in
    let is : c.if-is_empty.status ≡ (if length c.tentative-hits.result.items == 0 then Negative else Tentative) = elim c.if-is_empty.branch [ then-is_empty w ↦ rw (← w.if-is_empty.ensures) w.status-is | else-is_empty w ↦ rw (← w.if-is_empty.ensures) w.status-is ] in
    other_report hitting formats c.args.label.now c.tentative-hits.result.items c.if-is_empty.status none c.tentative-hits.ensures is
