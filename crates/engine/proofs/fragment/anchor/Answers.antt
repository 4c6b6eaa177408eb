use Rattle.std.proofs.Common.{◌≡◌, ℕ, ◌+◌, ◌≤◌, List, [], length, get_or, sym, ap, ◌∙◌, subst, arith}
use Rattle.std.proofs.lemmas.Bool.{both_ways}
use Rattle.patterns.specs.Fragments.{literal_code}
use Rattle.engine.specs.Compiling.{part_items, Anchors}
use Rattle.engine.specs.Stored.{item_of}
use Rattle.engine.specs.declared.fragment.Literals.{Literals}
use Rattle.engine.specs.declared.pattern.Part.TheVariants as part
use Rattle.engine.specs.declared.pattern.Run.{Run}
use Rattle.engine.proofs.Anchoring.{Searching, search_begins, search_literal, search_other, search_ends}
use Rattle.engine.proofs.Bodies.{part_items_length, part_items_at, no_code}
use Rattle.engine.proofs.fragment.anchor.Goals as goal
use Rattle.engine.proofs.fragment.anchor.Goals.{in-Literal, in_default, then-not-matches, else-not-matches}

pub loop-i-init : goal.loop-i-init
loop-i-init c = (
  omega arith,
  λ codes runs. search_begins c.args.reference (part_items codes runs c.args.parts.now) (length c.args.parts.now) (sym (part_items_length codes runs c.args.parts.now)),
)

pub loop-i-preserved : goal.loop-i-preserved
loop-i-preserved c =
    let ps = c.args.parts.now in
    let i = c.loop-i.i in
    let start = c.loop-i.start in
    let inv = c.loop-i.invariant in
    let r = c.args.reference in
    let Next : ℕ → Literals → Type 0 = λ s old. (s ≤ i + 1) × ((codes : List ℕ) (runs : List Run) → Searching r (part_items codes runs ps) s (i + 1) old) in
    elim c.if-not-matches.branch [
      | then-not-matches w ↦
          let none : (n : ℕ) → (get_or ps i (record { place = 0; part = part.Literal 0 })).part ≡ part.Literal n → ⊥ =
          elim c.match-matches.branch [ in-Literal v ↦ absurd (both_ways _ w.if-not-matches.true v.matches-is) | in_default v ↦ v.in_default.not-Literal ] in
          subst (λ s. Next s c.if-not-matches.best) (sym w.start-is) (subst (λ old. Next (i + 1) old) (sym w.best-is) (
            omega arith,
            λ codes runs.
                let long = part_items_length codes runs ps in
                let inside = c.loop-i-test.true in
                search_other r (part_items codes runs ps) start i c.loop-i.best inv.0 (inv.1 codes runs) w.better-best.result w.better-best.ensures (omega arith)
                (ap literal_code (part_items_at codes runs ps i _ inside) ∙ no_code codes runs _ none),
          ))
      | else-not-matches w ↦
          let some : (n : ℕ) × ((get_or ps i (record { place = 0; part = part.Literal 0 })).part ≡ part.Literal n) =
          elim c.match-matches.branch [ in-Literal v ↦ (_, v.in-Literal.is) | in_default v ↦ absurd (both_ways _ v.matches-is w.if-not-matches.false) ] in
          subst (λ s. Next s c.if-not-matches.best) (sym w.start-is) (subst (λ old. Next start old) (sym w.best-is) (
            omega arith,
            λ codes runs.
                let long = part_items_length codes runs ps in
                let inside = c.loop-i-test.true in
                search_literal r (part_items codes runs ps) start i c.loop-i.best inv.0 (inv.1 codes runs) some.0 (omega arith)
                (part_items_at codes runs ps i _ inside ∙ ap (item_of codes runs) some.1),
          ))
    ]

-- the run that is answered is the anchor
found : (c : goal.After-better) (codes : List ℕ) (runs : List Run) → Anchors c.args.reference (part_items codes runs c.args.parts.now) c.better.result.start c.better.result.len
found c codes runs =
    let ps = c.args.parts.now in
    let long = part_items_length codes runs ps in
    let at = c.loop-i-test.false in
    let last : c.loop-i.i ≡ length ps = omega arith in
    search_ends c.args.reference (part_items codes runs ps) c.loop-i.start (length ps) c.loop-i.best (omega arith)
    (subst (λ i. Searching c.args.reference (part_items codes runs ps) c.loop-i.start i c.loop-i.best) last (c.loop-i.invariant.1 codes runs))
    c.better.result c.better.ensures long

pub returns : goal.returns
returns c =
    let long = part_items_length [] [] c.args.parts.now in
    let fits = (found c [] []).literals.inside in
    record { inside = omega arith; anchored = found c }
