use Rattle.std.proofs.Common.{ℕ, unwrap_or, Option, sym, ap, ◌∙◌, ap₂, rules}
use Rattle.std.proofs.lemmas.Iterator.{YieldsList-from_slice, YieldsList-from_map}
use Rattle.std.proofs.lemmas.Iterator.Consumers.{YieldsList-at, min_from_yields_List, max_from_yields_List}
use Rattle.std.proofs.lemmas.Iterator.Adapters.{option_map_id}
use Rattle.engine.specs.declared.pattern.Extent.{Extent}
use Rattle.engine.proofs.Lengths.{len_of, shortest_is, longest_is}
use Rattle.engine.proofs.pattern.extent_of.Goals as goal

pub returns : goal.returns
returns c codes within =
    let runs = c.args.runs.now in
    let made : ℕ → ℕ → Extent = λ least span. record { least = least; span = span } in
    let or_zero : Option ℕ → ℕ = λ o. unwrap_or o 0 in
    let least = min_from_yields_List c.map.result c.min.result c.min.ensures.ran (YieldsList-from_map _ len_of (YieldsList-at c.map.ensures.source (YieldsList-from_slice runs cc)) c.map.ensures.closure (λ x r q k. search rules)) in
    let span = max_from_yields_List c.map-2.result c.max.result c.max.ensures.ran (YieldsList-from_map _ len_of (YieldsList-at c.map-2.ensures.source (YieldsList-from_slice runs cc)) c.map-2.ensures.closure (λ x r q k. search rules)) in
    ap₂ made
    (c.from.ensures ∙ c.unwrap_or-least.ensures ∙ ap or_zero (sym (option_map_id c.min.result) ∙ least) ∙ shortest_is codes runs within)
    (c.from-2.ensures ∙ c.unwrap_or-span.ensures ∙ ap or_zero (sym (option_map_id c.max.result) ∙ span) ∙ longest_is codes runs within)
