use Rattle.std.proofs.Common.{sym, ap, ◌∙◌}
use Rattle.std.specs.List.{slice_get}
use Rattle.std.specs.Option.{option_copied, option_flatten, option_map}
use Rattle.kinds.proofs.Places.{nth_item}
use Rattle.engine.proofs.table.Table.get.Goals as goal

pub returns-in_err-get : goal.returns-in_err-get
returns-in_err-get c =
    let stands = nth_item c.deref.result.now c.args.slot c.get.result c.get.ensures.lookup ∙ ap (λ l. slice_get l c.args.slot) (c.deref.ensures.value ∙ c.self.view_is) in
    ap option_copied c.from_residual.ensures ∙ ap option_flatten (ap (option_map (λ x. x.now)) (sym c.in_err-get.was) ∙ stands)

pub returns : goal.returns
returns c =
    let stands = nth_item c.deref.result.now c.args.slot c.get.result c.get.ensures.lookup ∙ ap (λ l. slice_get l c.args.slot) (c.deref.ensures.value ∙ c.self.view_is) in
    c.as_ref.ensures.value ∙ ap option_flatten (ap (option_map (λ x. x.now)) (sym c.in_ok-get.was) ∙ stands)
