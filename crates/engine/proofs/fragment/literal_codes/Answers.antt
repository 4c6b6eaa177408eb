use Rattle.std.proofs.Common.{◌+◌, ◌++◌, [], ◌∷◌, length, drop, sym, ap, ◌∙◌, arith, append_assoc, length-append}
use Rattle.std.proofs.lemmas.List.{drop_all, append-nil}
use Rattle.engine.specs.AnchorCodes.{Cells}
use Rattle.engine.specs.Compiling.{part_codes}
use Rattle.engine.specs.declared.pattern.Part.TheVariants as part
use Rattle.engine.specs.declared.pattern.PlacedPart.{PlacedPart}
use Rattle.engine.proofs.Bodies.{codes_on, codes_past}
use Rattle.engine.proofs.fragment.literal_codes.Goals as goal
use Rattle.engine.proofs.fragment.literal_codes.Goals.{in-Literal, in_default}

-- the part that is looked up where there is none
abbrev first : PlacedPart
first = record { place = 0; part = part.Literal 0 }

pub push-requires : goal.push-requires
push-requires c =
    let ps = c.args.parts.now in
    let i = c.loop-placed.placed-index in
    let on = ap length (codes_on ps i c.in-Literal.code first c.loop-placed-test.true c.in-Literal.is) in
    let all = ap length c.loop-placed.invariant in
    let long = length-append c.loop-placed.codes.items (part_codes (drop i ps)) in
    omega arith

pub loop-placed-preserved : goal.loop-placed-preserved
loop-placed-preserved c =
    let ps = c.args.parts.now in
    let i = c.loop-placed.placed-index in
    let inside = c.loop-placed-test.true in
    let so_far = c.loop-placed.codes.items in
    elim c.match-placed.branch [
      | in-Literal w ↦
          ap (λ cs. cs ++ part_codes (drop (i + 1) ps)) (ap (λ (v : Cells). v.items) w.codes-is ∙ w.push.ensures.items)
          ∙ append_assoc so_far (w.in-Literal.code ∷ []) (part_codes (drop (i + 1) ps))
          ∙ ap (λ cs. so_far ++ cs) (sym (codes_on ps i w.in-Literal.code first inside w.in-Literal.is))
          ∙ c.loop-placed.invariant
      | in_default w ↦
          ap (λ cs. cs ++ part_codes (drop (i + 1) ps)) (ap (λ (v : Cells). v.items) w.codes-is)
          ∙ ap (λ cs. so_far ++ cs) (sym (codes_past ps i first inside w.in_default.not-Literal))
          ∙ c.loop-placed.invariant
    ]

pub returns : goal.returns
returns c =
    let none = drop_all c.loop-placed.placed-index c.args.parts.now c.loop-placed-test.false in
    sym (append-nil _) ∙ ap (λ ps. c.loop-placed.codes.items ++ part_codes ps) (sym none) ∙ c.loop-placed.invariant
