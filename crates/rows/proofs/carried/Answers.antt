-- The bits of the two words, moved.
use Rattle.std.proofs.Common.{arith}
use Rattle.rows.proofs.Words.{bit_carried}
use Rattle.rows.proofs.carried.Goals as goal

pub returns : goal.returns
returns c b = bit_carried c.args.low c.args.high c.args.bits b (omega arith) c.requires
