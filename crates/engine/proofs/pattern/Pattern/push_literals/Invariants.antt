use Rattle.std.proofs.Common.{◌≡◌, ◌+◌, ◌-◌, ◌≤◌, ◌++◌, length, drop}
use Rattle.lexer.specs.Meanings.{literals_at}
use Rattle.engine.specs.Reading.{held}
use Rattle.lexer.specs.Tokens.{codes_in, pairs}
use Rattle.engine.proofs.pattern.Pattern.push_literals.Given as goal

-- the items that were put there and those of the pairs ahead are the run's
abbrev pub invariant-loop-element : goal.invariant-loop-element
invariant-loop-element g l = record {
  same : l.next.text.now ≡ l.run;
  codes : l.self.codes.items ≡ l.initial.self.codes.items;
  runs : l.self.runs.items ≡ l.initial.self.runs.items;
  items : held l.self ++ literals_at (l.place + l.next.place) (codes_in g.K.Kind.alphabet (drop l.next.place l.run)) ≡ held l.initial.self ++ literals_at l.place (codes_in g.K.Kind.alphabet l.run);
  room : length (held l.self) + pairs g.K.Kind.alphabet (drop l.next.place l.run) ≤ 199;
}

abbrev pub decreases-loop-element : goal.decreases-loop-element
decreases-loop-element g l = length l.run - l.next.place
