use Rattle.std.proofs.Common.{◌≡◌, ◌-◌, ◌<◌, length}
use Rattle.lexer.proofs.Lexing.{Alternating}
use Rattle.lexer.proofs.lexer.Cursor.group.Given as goal

-- the runs that were read, with bars behind them
abbrev pub invariant-loop-end : goal.invariant-loop-end
invariant-loop-end g l = record {
  same : l.next.text.now ≡ l.self.text.now;
  order : l.self.place < l.next.place;
  reads : Alternating g.K.Kind.alphabet l.self.text.now l.self.place l.next.place;
}

abbrev pub decreases-loop-end : goal.decreases-loop-end
decreases-loop-end g l = length l.self.text.now - l.next.place
