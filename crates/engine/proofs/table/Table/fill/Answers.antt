use Rattle.std.proofs.Common.{◌<◌, length, sym, ◌∙◌, subst, arith, rules}
use Rattle.kinds.proofs.Places.{nth_none}
use Rattle.engine.specs.Tables.{free_slots}
use Rattle.engine.proofs.Tables.{first_of}
use Rattle.engine.proofs.table.Table.fill.Goals as goal

pub unreachable-requires : goal.unreachable-requires
unreachable-requires c = omega (arith, nth_none (free_slots c.args.self.now) 0 (sym c.first_free.ensures ∙ c.in_default.is))

pub index_mut-requires : goal.index_mut-requires
index_mut-requires c =
    let first = first_of c.args.self.now c.in-Some.slot (sym c.first_free.ensures ∙ c.in-Some.is) in
    let inside : c.in-Some.slot < length c.self.inside.slots.items = subst (λ l. c.in-Some.slot < length l) (sym c.self.view_is) first.inside in
    search rules

pub overflow_cast-result : goal.overflow_cast-result
overflow_cast-result c =
    let first = first_of c.args.self.now c.in-Some.slot (sym c.first_free.ensures ∙ c.in-Some.is) in
    let inside : c.in-Some.slot < length c.self.inside.slots.items = subst (λ l. c.in-Some.slot < length l) (sym c.self.view_is) first.inside in
    omega (arith, c.self.invariant)
