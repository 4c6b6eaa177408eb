use Rattle.std.proofs.Common.{◌≡◌, ◌++◌, drop, Some, None, Ok, Err, sym, refl, ap, ◌∙◌, subst, append-nil, arith}
use Rattle.patterns.specs.Grammar.{start}
use Rattle.lexer.specs.Tokens.{lexed, lexeme_in, position_in, written}
use Rattle.lexer.proofs.Meanings.{prepended, token_means, end_follows, stop_follows}
use Rattle.engine.specs.Reading.{held, Read}
use Rattle.engine.specs.Stored.{items}
use Rattle.engine.proofs.Reading.{ReadSoFar, read_none, token_inside, room, read_more}
use Rattle.engine.proofs.reader.read.Goals as goal

pub loop-token-init : goal.loop-token-init
loop-token-init g c =
    let a = g.K.Kind.alphabet in
    let law = g.met.K.Kind.lawful in
    let t = c.args.text.characters.now in
    let empty = c.args.pattern.now in
    let none = read_none a law t empty c.requires.codes c.requires.runs (ap (items empty.codes.items empty.runs.items) c.requires.parts) in (
      c.new-lexer.ensures.text,
      subst (λ p. ReadSoFar a law t empty p c.new-lexer.result.at.place) (ap position_in (sym c.new-lexer.ensures.position))
          (subst (ReadSoFar a law t empty start) (sym c.new-lexer.ensures.place) none),
    )

pub push_token-requires : goal.push_token-requires
push_token-requires g c =
    let a = g.K.Kind.alphabet in
    let law = g.met.K.Kind.lawful in
    let t = c.args.text.characters.now in
    let l = c.loop-token in
    let at = l.lexer.at in
    let p = position_in l.lexer.position in
    let x = lexeme_in c.in-Ok-Some.token in
    let later = c.next.new.self.at.place in
    let answer = rw c.in-Ok-Some.field-0-is at c.in-Ok-Some.ensures.answer in
    let cut = rw c.in-Ok-Some.field-0-is at c.in-Ok-Some.ensures.written in
    let moves = rw c.in-Ok-Some.field-0-is at c.in-Ok-Some.ensures.moves in
    let means = token_means a law t p at.place x (sym (subst (λ l. Ok (Some x) ≡ lexed a l p at.place) l.invariant.0 answer)) in
    let ahead = subst (λ l. drop at.place l ≡ written x ++ drop later l) l.invariant.0 cut in
    let fits = room a law t l.pattern p at.place later x l.invariant.1 means ahead moves c.args.text.short in
    let here = c.place-place.ensures in
    record { parts = rw here fits.parts; codes = fits.codes; runs = fits.runs; place = rw here fits.place_fits }

pub loop-token-smaller : goal.loop-token-smaller
loop-token-smaller g c =
    let a = g.K.Kind.alphabet in
    let law = g.met.K.Kind.lawful in
    let t = c.args.text.characters.now in
    let l = c.loop-token in
    let at = l.lexer.at in
    let p = position_in l.lexer.position in
    let x = lexeme_in c.in-Ok-Some.token in
    let later = c.next.new.self.at.place in
    let answer = rw c.in-Ok-Some.field-0-is at c.in-Ok-Some.ensures.answer in
    let cut = rw c.in-Ok-Some.field-0-is at c.in-Ok-Some.ensures.written in
    let moves = rw c.in-Ok-Some.field-0-is at c.in-Ok-Some.ensures.moves in
    let means = token_means a law t p at.place x (sym (subst (λ l. Ok (Some x) ≡ lexed a l p at.place) l.invariant.0 answer)) in
    let ahead = subst (λ l. drop at.place l ≡ written x ++ drop later l) l.invariant.0 cut in
    let inside = token_inside a law t l.pattern p at.place later x l.invariant.1 means ahead moves in
    omega (arith, inside, moves, means.some)

pub loop-token-preserved : goal.loop-token-preserved
loop-token-preserved g c =
    let a = g.K.Kind.alphabet in
    let law = g.met.K.Kind.lawful in
    let t = c.args.text.characters.now in
    let l = c.loop-token in
    let at = l.lexer.at in
    let p = position_in l.lexer.position in
    let x = lexeme_in c.in-Ok-Some.token in
    let later = c.next.new.self.at.place in
    let answer = rw c.in-Ok-Some.field-0-is at c.in-Ok-Some.ensures.answer in
    let cut = rw c.in-Ok-Some.field-0-is at c.in-Ok-Some.ensures.written in
    let moves = rw c.in-Ok-Some.field-0-is at c.in-Ok-Some.ensures.moves in
    let position = rw c.in-Ok-Some.field-0-is at c.in-Ok-Some.ensures.position in
    let means = token_means a law t p at.place x (sym (subst (λ l. Ok (Some x) ≡ lexed a l p at.place) l.invariant.0 answer)) in
    let ahead = subst (λ l. drop at.place l ≡ written x ++ drop later l) l.invariant.0 cut in
    let items = rw c.place-place.ensures at c.push_token.ensures.items in (
      c.next.ensures.same_text ∙ l.invariant.0,
      read_more a law t l.pattern p at.place later x l.invariant.1 means ahead moves c.push_token.new.self (position_in c.next.new.self.position) c.push_token.ensures.codes c.push_token.ensures.runs items position,
    )

pub returns-in-Ok-None : goal.returns-in-Ok-None
returns-in-Ok-None g c =
    let a = g.K.Kind.alphabet in
    let t = c.args.text.characters.now in
    let l = c.loop-token in
    let at = l.lexer.at in
    let p = position_in l.lexer.position in
    let answer = rw c.in-Ok-None.field-0-is at c.in-Ok-None.ensures.answer in
    let end = end_follows a g.met.K.Kind.lawful t p at.place (sym (subst (λ l. Ok None ≡ lexed a l p at.place) l.invariant.0 answer)) in
    l.invariant.1.follows ∙ ap (prepended (held l.pattern)) end ∙ ap Ok (append-nil (held l.pattern))

pub returns-in-Err : goal.returns-in-Err
returns-in-Err g c =
    let a = g.K.Kind.alphabet in
    let t = c.args.text.characters.now in
    let l = c.loop-token in
    let at = l.lexer.at in
    let p = position_in l.lexer.position in
    let answer = c.in-Err.ensures.answer in
    let stop = stop_follows a g.met.K.Kind.lawful t p at.place c.in-Err.stop.place (sym (subst (λ l. Err c.in-Err.stop.place ≡ lexed a l p at.place) l.invariant.0 answer)) in
    subst (λ f. Read a t c.args.sequence (Err f)) (sym c.stopped.ensures) (l.invariant.1.follows ∙ ap (prepended (held l.pattern)) stop, refl, refl)
