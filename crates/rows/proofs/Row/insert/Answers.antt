-- The word that k falls in has one bit more.
use Rattle.std.proofs.Common.{refl, rules}
use Rattle.rows.proofs.Members.{member_inserted}
use Rattle.rows.proofs.Row.insert.Goals as goal

pub returns-then-k-lt-WIDTH : goal.returns-then-k-lt-WIDTH
returns-then-k-lt-WIDTH c = member_inserted c.args.self.now _ c.args.k (search rules) c.if-k-lt-WIDTH.true refl
