use Rattle.std.proofs.Common.{◌≡◌, inl, inr, map, is_some, ap, ◌∙◌}
use Rattle.patterns.specs.Sequences.{hits_in}
use Rattle.patterns.specs.Codes.{codes_of}
use Rattle.engine.specs.Finding.{starts_of}
use Rattle.engine.specs.Said.{end_in, said}
use Rattle.engine.proofs.Searching.{map_reverse}
use Rattle.engine.proofs.Sounds.{front_decides, back_decides, anywhere_decides}
use Rattle.engine.proofs.search.found.Goals as goal
use Rattle.engine.proofs.search.found.Goals.{in-Front, in-Back}

pub returns : goal.returns
returns g c holds =
    let s = c.args.sequence.now in
    let code = g.R.Element.Kind.alphabet.code in
    let elements = g.R.Reading.elements c.args.reading.now in
    let xs = codes_of g.R.Element.Kind.alphabet elements in
    let starts = c.of-starts.ensures in
    let decided : is_some c.match-sequence.end ≡ hits_in (said s) xs =
    elim c.match-sequence.branch [
      | in-Front w ↦
          ap is_some (w.end-is ∙ w.last_end-end.ensures holds)
          ∙ elim w.in-Front.is [
            | inl (least, most, is) ↦ ap (λ st. is_some (end_in s st xs)) (starts ∙ ap starts_of is) ∙ front_decides s least most xs is
            | inr is ↦ ap (λ st. is_some (end_in s st xs)) (starts ∙ ap starts_of is) ∙ anywhere_decides s xs is
          ]
      | in-Back w ↦
          let codes = ap (map code) w.new-backward.ensures.shows ∙ map_reverse code elements in
          ap is_some (w.end-is ∙ w.last_end-end-in-Back.ensures holds)
          ∙ (λ i. is_some (end_in s ((starts ∙ ap starts_of w.in-Back.is) i) (codes i)))
          ∙ back_decides s w.in-Back.least w.in-Back.most (map code elements) w.in-Back.is
    ] in
    c.is_some.ensures ∙ decided
