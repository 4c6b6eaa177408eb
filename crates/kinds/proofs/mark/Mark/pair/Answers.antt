use Rattle.std.proofs.Common.{Some, sym, ap, ◌∙◌}
use Rattle.kinds.proofs.Pairs.{mark_pair_names}
use Rattle.kinds.specs.declared.mark.Mark.TheVariants.{Single, Dual}
use Rattle.kinds.proofs.mark.Mark.pair.Goals as goal

pub returns-in-Single-clause-names_it : goal.returns-in-Single-clause-names_it
returns-in-Single-clause-names_it c = mark_pair_names (Single c.in-Single.band) ∙ ap Some (sym c.in-Single.is)

pub returns-in-Dual-clause-names_it : goal.returns-in-Dual-clause-names_it
returns-in-Dual-clause-names_it c = mark_pair_names (Dual c.in-Dual.band) ∙ ap Some (sym c.in-Dual.is)
