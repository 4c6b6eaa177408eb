use Rattle.std.proofs.Common.{◌≡◌, ◌+◌, ◌-◌, ◌*◌, ◌≤◌, ◌++◌, length, drop}
use Rattle.engine.specs.Reading.{held}
use Rattle.lexer.specs.Tokens.{codes_in}
use Rattle.engine.proofs.pattern.Pattern.push_codes.Given as goal

-- the codes that were put there and those of the pairs ahead are the run's
abbrev pub invariant-loop-element : goal.invariant-loop-element
invariant-loop-element g l = record {
  same : l.next.text.now ≡ l.run;
  codes : l.self.codes.items ++ codes_in g.K.Kind.alphabet (drop l.next.place l.run) ≡ l.initial.self.codes.items ++ codes_in g.K.Kind.alphabet l.run;
  runs : l.self.runs.items ≡ l.initial.self.runs.items;
  items : held l.self ≡ held l.initial.self;
  room : 2 * length l.self.codes.items + length l.run ≤ 200 + l.next.place;
}

abbrev pub decreases-loop-element : goal.decreases-loop-element
decreases-loop-element g l = length l.run - l.next.place
