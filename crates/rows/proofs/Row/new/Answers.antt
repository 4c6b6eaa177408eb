-- Every word is 0.
use Rattle.std.proofs.Common.{refl}
use Rattle.rows.proofs.Members.{member_empty}
use Rattle.rows.proofs.Row.new.Goals as goal

pub returns : goal.returns
returns c = member_empty _ refl
