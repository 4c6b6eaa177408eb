-- What is shown of the bytes is what the reading holds.
use Rattle.std.proofs.Common.{map, ap}
use Rattle.kinds.specs.Bytes.{byte}
use Rattle.kinds.proofs.bytes.Bytes.new.Goals as goal

pub returns : goal.returns
returns c = ap (map byte) c.showable.ensures.front
