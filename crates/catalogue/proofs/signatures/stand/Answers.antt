use Rattle.std.proofs.Common.{refl, sym, ap, ◌∙◌}
use Rattle.records.specs.Book as book
use Rattle.records.specs.Taken.{signature_in}
use Rattle.catalogue.proofs.Moving.{all_said, all_stand}
use Rattle.catalogue.proofs.signatures.stand.Goals as goal

pub returns-clause-held : goal.returns-clause-held
returns-clause-held g c =
    let before = c.args.table.now in
    let after = c.move_into.new.table in
    let moved = c.move_into.result.items in
    record {
      entry = signature_in c.args.signature.now;
      reads = ap book.signature_in c.in-Ok.ensures.0 ∙ c.requires.reads;
      id = refl;
      specific = refl;
      said = c.requires.compiled.each ∙ sym (all_said c.args.sequences.items before after moved c.move_into.ensures);
      stands = all_stand c.args.sequences.items before after moved c.move_into.ensures;
    }
