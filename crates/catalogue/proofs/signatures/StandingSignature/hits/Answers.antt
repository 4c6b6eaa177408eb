use Rattle.std.proofs.Common.{◌≡◌, false, ◌&&◌, sym, ◌∙◌, subst}
use Rattle.std.specs.List.{list_all}
use Rattle.patterns.specs.Codes.{codes_of}
use Rattle.catalogue.specs.Hitting.{hits_among, standing_hits}
use Rattle.catalogue.proofs.Reported.{parts_hit}
use Rattle.catalogue.proofs.signatures.StandingSignature.hits.Goals as goal

pub returns-then-part_hits : goal.returns-then-part_hits
returns-then-part_hits g c =
    let codes = codes_of g.K.Kind.alphabet (g.R.Reading.elements c.args.reading.now) in
    let vs = c.args.self.now.sequences.items in
    let rest = subst (λ b. (b && list_all (hits_among false codes) vs) ≡ standing_hits codes c.args.self.now) (sym c.part_hits.ensures ∙ c.if-part_hits.true) (parts_hit codes vs) in
    c.part_hits-then-part_hits.ensures ∙ rest

pub returns-else-part_hits : goal.returns-else-part_hits
returns-else-part_hits g c =
    let codes = codes_of g.K.Kind.alphabet (g.R.Reading.elements c.args.reading.now) in
    let vs = c.args.self.now.sequences.items in
    let rest = subst (λ b. (b && list_all (hits_among false codes) vs) ≡ standing_hits codes c.args.self.now) (sym c.part_hits.ensures ∙ c.if-part_hits.false) (parts_hit codes vs) in
    c.if-part_hits.false ∙ rest
