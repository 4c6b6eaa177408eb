use Rattle.std.proofs.Common.{◌≡◌, ℕ, ◌+◌, ◌-◌, List, drop, length, replicate, slice_set, sym, ap, ◌∙◌, arith, length-set, length-take-le}
use Rattle.engine.specs.AnchorCodes.{Cells}
use Rattle.std.proofs.lemmas.List.{drop-drop, drop-replicate, drop-set-lt}
use Rattle.engine.proofs.anchor_codes.AnchorCodes.push.Goals as goal

-- behind a code that takes the place of the first 0 there is 0 alone
zeros_behind : (cells : List ℕ) (len all code : ℕ) → drop len cells ≡ replicate (all - len) 0
    → drop (len + 1) (slice_set cells len code) ≡ replicate (all - (len + 1)) 0
zeros_behind cells len all code zeros =
    let one_less : all - len - 1 ≡ all - (len + 1) = omega arith in
    drop-set-lt (len + 1) cells len code (omega arith) ∙ sym (drop-drop 1 len cells)
    ∙ ap (drop 1) zeros ∙ drop-replicate 1 (all - len) 0 ∙ ap (λ n. replicate n 0) one_less

pub invariant_of-self : goal.invariant_of-self
invariant_of-self c =
    let cells = c.self.inside.cells in
    let len = c.self.inside.len in
    let held = c.self.invariant in
    let items = ap (λ (v : Cells). length v.items) c.self.view_is in
    let long = length-take-le len cells (omega (arith, held.0, held.1)) in (
      omega (arith, c.requires, items, long),
      length-set cells c.from.result c.args.code ∙ held.1,
      rw c.from.ensures (zeros_behind cells len 100 c.args.code held.2),
    )
