use Rattle.std.proofs.Common.{◌≡◌, sym, ap, ◌∙◌, inl, inr}
use Rattle.patterns.proofs.Backs.{mirrored_placed_twice}
use Rattle.patterns.specs.Fragments.{mirrored_placed, oriented}
use Rattle.patterns.specs.declared.reference.Reference.TheVariants.{Back}
use Rattle.engine.specs.Reading.{held}
use Rattle.engine.proofs.Sounds.{text_oriented}
use Rattle.engine.proofs.pattern.Pattern.read_oriented.Goals as goal

pub returns-in_ok-read_text-in-Front : goal.returns-in_ok-read_text-in-Front
returns-in_ok-read_text-in-Front g c =
    let t = c.args.text.characters.now in
    let r = c.args.reference in
    let read = held c.read_text.new.self in
    let order : read ≡ oriented r read =
    elim c.in-Front.is [ inl e ↦ ap (λ r. oriented r read) (sym e.2) | inr e ↦ ap (λ r. oriented r read) (sym e) ] in
    text_oriented g.K.Kind.alphabet t r read read (held c.mirror.new.self) c.in_ok-read_text-in-Front.ensures order c.mirror.ensures c.args.text.short

pub returns-in_ok-read_text-in-Back : goal.returns-in_ok-read_text-in-Back
returns-in_ok-read_text-in-Back g c =
    let t = c.args.text.characters.now in
    let read = held c.read_text-in-Back.new.self in
    let order = c.mirror-in-Back.ensures in
    let mirrors = sym (ap mirrored_placed order ∙ mirrored_placed_twice read) in
    rw c.in-Back.is
    (text_oriented g.K.Kind.alphabet t (Back c.in-Back.least c.in-Back.most) read (held c.mirror-in-Back.new.self) read c.in_ok-read_text-in-Back.ensures order mirrors c.args.text.short)
