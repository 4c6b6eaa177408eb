use Rattle.std.proofs.Common.{◌∙◌}
use Rattle.std.proofs.lemmas.Iterator.{YieldsList-from_slice, YieldsList-from_zip}
use Rattle.std.proofs.lemmas.Iterator.Consumers.{YieldsList-end}
use Rattle.catalogue.specs.Reporting.{hitting_in}
use Rattle.catalogue.proofs.Reporting.{list_unstruck}
use Rattle.catalogue.proofs.report.positive.Goals as goal

pub returns : goal.returns
returns c =
    let end = YieldsList-end (YieldsList-from_zip (YieldsList-from_slice c.args.formats.now cc) (YieldsList-from_slice c.args.flags.now cc)) c.loop-f.yielded c.loop-f.f-iterator c.loop-f.yielded_by c.next.result c.next.new.self c.in-None.is c.next.ensures.steps in
    c.loop-f.invariant.3 ∙ list_unstruck (hitting_in c.args.hitting.now) c.args.formats.now c.args.flags.now c.args.label.now c.loop-f.yielded c.requires.flags end.0
