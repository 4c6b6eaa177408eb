-- What is shown of the list is what the reading holds.
use Rattle.kinds.proofs.held.Held.new.Goals as goal

pub returns : goal.returns
returns g c = c.showable.ensures.front
