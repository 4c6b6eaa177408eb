use Rattle.std.proofs.Common.{replicate, ◌≡◌, ℕ, ◌+◌, length, refl, sym, ap, subst, ◌∙◌}
use Rattle.std.specs.declared.ops.Range.{Range}
use Rattle.patterns.specs.Fragments.{shift}
use Rattle.engine.proofs.Shifting.{Becomes, becomes_at_first}
use Rattle.engine.proofs.fragment.shifts.Goals as goal

pub loop-code-init : goal.loop-code-init
loop-code-init c =
    let longest = length c.args.codes.now + 1 in
    let items = c.into_iter-code-iterator.result in
    let range : items.b.iter ≡ record { start = 1; end = longest } = cc (c.into_iter-code-iterator.ensures.into_iter_gives, c.zip-code-items.ensures.second, c.rev.ensures.source) in
    let codes : items.a.rest.now ≡ c.args.codes.now = cc (c.into_iter-code-iterator.ensures.into_iter_gives, c.zip-code-items.ensures.first, c.iter.ensures.rest) in (
      refl,
      ap (λ (r : Range ℕ). r.start) range,
      ap (λ (r : Range ℕ). r.end) range ∙ ap (λ xs. length xs + 1) (sym codes),
      λ index inside. subst (λ xs. Becomes (replicate 256 longest) xs (shift c.args.codes.now index) index) (sym codes) (becomes_at_first c.args.codes.now longest refl index inside),
    )
