-- The words in use behind the last one that is not 0 are 0, and so are those that were not in use.
use Rattle.std.proofs.Common.{◌≡◌, ℕ, ◌<◌, ◌≤◌, get_or, take, ⊎_elim, sym, ◌∙◌, rules}
use Rattle.std.proofs.lemmas.Bool.{cases_lt}
use Rattle.std.proofs.lemmas.List.{get_or-take}
use Rattle.rows.proofs.Row.trim.Goals as goal

pub invariant_of-self-clause-past : goal.invariant_of-self-clause-past
invariant_of-self-clause-past c k h =
    let row = c.args.self.now in
    let behind : (i : ℕ) → c.map_or-self.result ≤ i → i < row.used → get_or (take row.used row.words) i 0 ≡ 0 = search rules in
    ⊎_elim (λ l. sym (get_or-take row.used row.words k 0 l) ∙ behind k h l) (row.past k) (cases_lt k row.used)
