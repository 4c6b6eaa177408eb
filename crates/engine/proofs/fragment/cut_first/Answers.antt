use Rattle.std.proofs.Common.{◌≡◌, ◌+◌, Bool, true, false, not, ◌||◌, get_or, is_some, sym, refl, ap, ◌∙◌, subst, arith}
use lib.ListN.{length-map}
use Rattle.std.proofs.lemmas.List.{get_or-map}
use Rattle.patterns.specs.Fragments as spec
use Rattle.engine.specs.Stored.{items, item_of, placed_of}
use Rattle.engine.specs.declared.pattern.Part.TheVariants as part
use Rattle.engine.proofs.Cutting.{Cutting, cutting_gap, cutting_thing, cutting_cuts, no_gap, endless_gap}
use Rattle.engine.proofs.fragment.cut_first.Goals as goal
use Rattle.engine.proofs.fragment.cut_first.Goals.{in-Gap, in_default-2}

-- a test that is turned twice
not-not : (b : Bool) → not (not b) ≡ b
not-not true = refl
not-not false = refl

pub returns-in_default : goal.returns-in_default
returns-in_default c codes runs =
    let ps = c.args.parts.now in
    let i = c.loop-i.i in
    let inside = c.loop-i-test.true in
    let long = length-map ps (placed_of codes runs) in
    let q = placed_of codes runs (get_or ps i (record { place = 0; part = part.Literal 0 })) in
    cutting_cuts (items codes runs ps) c.loop-i.end i c.loop-i.endless c.loop-i.between (c.loop-i.invariant.0 codes runs)
    q (omega arith) (get_or-map (placed_of codes runs) ps i _ q inside) (no_gap codes runs _ c.in_default.not-Gap) c.if-endless.true

pub loop-i-preserved : goal.loop-i-preserved
loop-i-preserved c = (
  λ codes runs.
      let ps = c.args.parts.now in
      let qs = items codes runs ps in
      let i = c.loop-i.i in
      let inside = c.loop-i-test.true in
      let long = length-map ps (placed_of codes runs) in
      let q = placed_of codes runs (get_or ps i (record { place = 0; part = part.Literal 0 })) in
      let here : get_or qs i q ≡ q = get_or-map (placed_of codes runs) ps i _ q inside in
      elim c.match-placed.branch [
        | in-Gap w ↦
            let is : q.item ≡ item_of codes runs (part.Gap w.in-Gap.least w.in-Gap.most) = ap (item_of codes runs) w.in-Gap.is in
            let bare : spec.endless q.item ≡ not (is_some w.in-Gap.most) = ap spec.endless is ∙ endless_gap w.in-Gap.least w.in-Gap.most in
            let opened : c.match-placed.endless ≡ (c.loop-i.endless || spec.endless q.item) = w.endless-is ∙ ap (λ b. c.loop-i.endless || b) (sym (not-not w.is_none-endless.result) ∙ ap not (sym w.is_none-endless.ensures) ∙ sym bare) in
            let summed : c.match-placed.between ≡ c.loop-i.between + spec.least q.item = w.between-is ∙ ap (λ n. c.loop-i.between + n) (w.from-between.ensures ∙ sym (ap spec.least is)) in
            subst (λ end. Cutting qs end (i + 1) c.match-placed.endless c.match-placed.between) (sym w.end-is)
            (cutting_gap qs c.loop-i.end i c.loop-i.endless c.loop-i.between (c.loop-i.invariant.0 codes runs) q (omega arith) here (ap spec.is_gap is) c.match-placed.endless opened c.match-placed.between summed)
        | in_default-2 w ↦
            let thing = cutting_thing qs c.loop-i.end i c.loop-i.endless c.loop-i.between (c.loop-i.invariant.0 codes runs) q (omega arith) here (no_gap codes runs _ w.in_default-2.not-Gap) w.if-endless.false in
            subst (λ end. Cutting qs end (i + 1) c.match-placed.endless c.match-placed.between) (sym w.end-is)
            (subst (λ b. Cutting qs (i + 1) (i + 1) b c.match-placed.between) (sym (w.endless-is ∙ w.if-endless.false))
            (subst (λ n. Cutting qs (i + 1) (i + 1) false n) (sym w.between-is) thing))
      ],
  elim c.match-placed.branch [
    | in-Gap w ↦ let before = c.loop-i.invariant.1 in let more = w.between-is in let same = w.from-between.ensures in omega arith
    | in_default-2 w ↦ let none = w.between-is in omega arith
  ],
)
