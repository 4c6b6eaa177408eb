use Rattle.std.proofs.Common.{arith}
use Rattle.std.proofs.lemmas.Bool.Decides.{nat_tests}
use Rattle.catalogue.specs.Standing.{format_pair}
use Rattle.catalogue.proofs.Held.{len-bodies}
use Rattle.catalogue.proofs.formats.refusal.Goals as goal

pub returns-then-formats-ge-MOST_FORMATS : goal.returns-then-formats-ge-MOST_FORMATS
returns-then-formats-ge-MOST_FORMATS g c =
    let few = len-bodies format_pair c.args.formats.now c.requires.formats_rise in
    grind (arith, nat_tests)

pub returns : goal.returns
returns g c =
    let few = len-bodies format_pair c.args.formats.now c.requires.formats_rise in
    grind (arith, nat_tests)
