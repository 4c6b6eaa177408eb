use Rattle.std.proofs.Common.{◌≡◌, ◌+◌, ◌-◌, ◌*◌, ◌≤◌, length, drop}
use Rattle.lexer.specs.Tokens.{pairs}
use Rattle.lexer.proofs.lexer.Cursor.run.Given as goal

-- the pairs that were passed and those that are ahead are those of the text
abbrev pub invariant-loop-later : goal.invariant-loop-later
invariant-loop-later g l = record {
  same : l.end.text.now ≡ l.self.text.now;
  order : l.self.place ≤ l.end.place;
  counted : l.end.place + 2 * pairs g.K.Kind.alphabet (drop l.end.place l.self.text.now) ≡ l.self.place + 2 * pairs g.K.Kind.alphabet (drop l.self.place l.self.text.now);
}

abbrev pub decreases-loop-later : goal.decreases-loop-later
decreases-loop-later g l = length l.self.text.now - l.end.place
