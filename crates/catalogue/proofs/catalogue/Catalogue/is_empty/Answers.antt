use Rattle.std.proofs.Common.{◌≡◌, ◌==◌, ◌&&◌, ◌↔◌, IsTrue, length, subst, ap, ◌∙◌}
use Rattle.records.specs.Book.{empty}
use Rattle.catalogue.proofs.Composing.{empty_decided}
use Rattle.catalogue.proofs.catalogue.Catalogue.is_empty.Goals as goal

pub returns-then-is_empty-clause-empty : goal.returns-then-is_empty-clause-empty
returns-then-is_empty-clause-empty g c =
    let signatures = c.self.inside.signatures in
    let formats = c.self.inside.formats in
    let b = c.is_empty-then-is_empty.result in
    let holds = c.self.invariant.0 in
    let first = c.if-is_empty.ensures ∙ ap (λ n. n == 0) signatures.ok.0 in
    let second = c.is_empty-then-is_empty.ensures ∙ ap (λ n. n == 0) formats.ok.0 in
    let both : b ≡ ((length signatures.items == 0) && (length formats.items == 0)) = second ∙ ap (λ t. t && (length formats.items == 0)) first in
    subst (λ x. IsTrue b ↔ (x ≡ empty)) c.self.view_is (empty_decided signatures.items formats.items holds.signatures_hold.rise holds.formats_hold.rise b both)

pub returns-else-is_empty-clause-empty : goal.returns-else-is_empty-clause-empty
returns-else-is_empty-clause-empty g c =
    let signatures = c.self.inside.signatures in
    let formats = c.self.inside.formats in
    let b = c.is_empty.result in
    let holds = c.self.invariant.0 in
    let first = c.if-is_empty.ensures ∙ ap (λ n. n == 0) signatures.ok.0 in
    let neither : b ≡ ((length signatures.items == 0) && (length formats.items == 0)) = c.if-is_empty.false ∙ ap (λ t. t && (length formats.items == 0)) first in
    subst (λ x. IsTrue b ↔ (x ≡ empty)) c.self.view_is (empty_decided signatures.items formats.items holds.signatures_hold.rise holds.formats_hold.rise b neither)
