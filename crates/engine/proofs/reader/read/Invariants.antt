use Rattle.std.proofs.Common.{◌≡◌, ◌-◌, length}
use Rattle.lexer.specs.Tokens.{position_in}
use Rattle.engine.proofs.Reading.{ReadSoFar}
use Rattle.engine.proofs.reader.read.Given as goal

-- what was read before the lexer's place
abbrev pub invariant-loop-token : goal.invariant-loop-token
invariant-loop-token g l =
    (l.lexer.at.text.now ≡ l.text.characters.now)
    × ReadSoFar g.K.Kind.alphabet g.met.K.Kind.lawful l.text.characters.now l.pattern (position_in l.lexer.position) l.lexer.at.place

abbrev pub decreases-loop-token : goal.decreases-loop-token
decreases-loop-token g l = length l.text.characters.now - l.lexer.at.place
