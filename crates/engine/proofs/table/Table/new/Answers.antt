use Rattle.std.proofs.Common.{◌≡◌, ◌++◌, length, take, replicate, None, sym, refl, ap, ◌∙◌, rules}
use Rattle.std.proofs.lemmas.Fn.{chained_keeps}
use Rattle.engine.proofs.Tables.{free_more}
use Rattle.engine.proofs.table.Table.new.Goals as goal

pub returns : goal.returns
returns c =
    let made = c.in_ok-resize_with.ensures.items in
    let all = made.2 ∙ ap (λ l. take 96 l ++ made.0) c.new-slots.ensures.items in
    let size : length c.resize_with.new.self.items ≡ 96 = search rules in
    let free = chained_keeps _ (λ xs q. xs ≡ replicate (length xs) None) (λ xs q x v e k. free_more xs x e (search rules)) made.0 _ made.1 refl made.3 in
    all ∙ free ∙ ap (λ n. replicate n None) (sym (ap length all) ∙ size)
