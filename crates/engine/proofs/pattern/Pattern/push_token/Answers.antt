use Rattle.std.proofs.Common.{length, ap, arith}
use Rattle.lexer.specs.Tokens.{codes_in, run_slice}
use Rattle.lexer.proofs.Lexing.{codes_length}
use Rattle.lexer.proofs.Meanings.{literals_many}
use Rattle.lexer.proofs.TokenRuns.{other_written, range_written}
use Rattle.engine.proofs.Groups.{codes_room}
use Rattle.engine.proofs.pattern.Pattern.push_token.Goals as goal

pub push_literals-requires-clause-parts : goal.push_literals-requires-clause-parts
push_literals-requires-clause-parts g c =
    let a = g.K.Kind.alphabet in
    let text = c.in-Literals.run'.text.now in
    let parts = rw c.in-Literals.is at c.requires.parts in
    omega (arith, parts, literals_many c.args.place (codes_in a text), codes_length a text)

pub push_codes-high-requires : goal.push_codes-high-requires
push_codes-high-requires g c =
    let codes = rw c.in-Range.is at c.requires.codes in
    let low = codes_room g.K.Kind.alphabet _ _ c.in-Range.low.text.now c.push_codes-low.ensures.codes in
    omega (arith, codes, low, range_written c.in-Range.inside (run_slice c.in-Range.low) (run_slice c.in-Range.high))

pub returns-in-Range-clause-codes : goal.returns-in-Range-clause-codes
returns-in-Range-clause-codes g c =
    let a = g.K.Kind.alphabet in
    let low = codes_room a _ _ c.in-Range.low.text.now c.push_codes-low.ensures.codes in
    let high = codes_room a _ _ c.in-Range.high.text.now c.push_codes-high.ensures.codes in
    let written_length = range_written c.in-Range.inside (run_slice c.in-Range.low) (run_slice c.in-Range.high) in
    rw c.in-Range.is (omega (arith, ap length c.push_at-in-Range.ensures.codes, low, high, written_length))

pub returns-in-Other-clause-codes : goal.returns-in-Other-clause-codes
returns-in-Other-clause-codes g c =
    let run = codes_room g.K.Kind.alphabet _ _ c.in-Other.run'.text.now c.push_codes-run.ensures.codes in
    let written_length = other_written (run_slice c.in-Other.run') in
    rw c.in-Other.is (omega (arith, ap length c.push_at-in-Other.ensures.codes, run, written_length))
