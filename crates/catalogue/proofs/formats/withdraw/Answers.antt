use Rattle.std.proofs.Common.{◌<◌, length, arith}
use Rattle.catalogue.proofs.Changes.{formats_withdrawn}
use Rattle.catalogue.proofs.formats.withdraw.Goals as goal

pub returns-clause-holds : goal.returns-clause-holds
returns-clause-holds c =
    let formats = c.args.formats.now in
    let within : c.args.place < length formats.items = omega (arith, formats.ok.0, c.requires.within) in
    rw c.remove.ensures.items (formats_withdrawn formats.items c.args.place within c.requires.holds c.remove.result)
