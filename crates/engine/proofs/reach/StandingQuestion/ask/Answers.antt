use Rattle.std.proofs.Common.{Some, eqb, ap, ◌∙◌}
use Rattle.std.specs.Option.{option_eq}
use Rattle.patterns.specs.Codes.{codes_of}
use Rattle.engine.proofs.Reaching.{literal_at}
use Rattle.engine.proofs.reach.StandingQuestion.ask.Goals as goal

pub returns-then-offset-len : goal.returns-then-offset-len
returns-then-offset-len g c =
    let asked = c.args.self.now in
    c.eq.ensures ∙ ap (λ o. option_eq eqb o (Some asked.code)) c.code_at.ensures
    ∙ literal_at (codes_of g.R.Element.Kind.alphabet (g.R.Reading.elements asked.reading.now)) c.args.offset asked.code
