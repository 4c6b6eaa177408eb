use Rattle.std.proofs.Common.{◌≡◌, ◌++◌, ◌∷◌, [], arith}
use Rattle.std.proofs.lemmas.Result.{err_from_is_err_and}
use Rattle.std.proofs.lemmas.List.{map_push}
use Rattle.kinds.specs.Alphabet.{within}
use Rattle.records.specs.Entries.{label_character}
use Rattle.records.specs.Reading.{text_at, labels_from}
use Rattle.records.specs.Taken.{rest_in, label_in, labels_in}
use Rattle.records.proofs.Loops.{goes_on, ends, is_done, labels_repeat}
use Rattle.records.proofs.format.listed_labels.Goals as goal

pub returns-in_err-label : goal.returns-in_err-label
returns-in_err-label c =
    let p = err_from_is_err_and c.from_residual.result c.from_residual.ensures.1 in
    rw (p.1, p.2) (
      ends (λ _. text_at (within 1 8) label_character) (λ s _. s) (λ _. labels_from) labels_repeat (labels_in c.loop.labels.items) c.args.count c.loop.counter tt (rest_in c.loop.rest) c.in_err-label.field-0.0.place (labels_from c.args.count (rest_in c.args.rest)) c.loop-test.true c.in_err-label.ensures.0 c.loop.invariant.1,
      c.in_err-label.ensures.1,
    )

pub loop-preserved : goal.loop-preserved
loop-preserved c =
    let l = c.in_ok-label.label in
    let pushed : labels_in c.push.new.self.items ≡ labels_in c.loop.labels.items ++ label_in l ∷ [] = rw c.push.ensures.items (map_push _ c.loop.labels.items l) in (
      omega arith,
      rw pushed (goes_on (λ _. text_at (within 1 8) label_character) (λ s _. s) (λ _. labels_from) labels_repeat (labels_in c.loop.labels.items) c.args.count c.loop.counter tt (rest_in c.loop.rest) (label_in l) (rest_in c.in_ok-label.behind) (labels_from c.args.count (rest_in c.args.rest)) c.loop-test.true c.in_ok-label.ensures c.loop.invariant.1),
    )

pub returns : goal.returns
returns c = is_done (λ _. text_at (within 1 8) label_character) (λ s _. s) (λ _. labels_from) labels_repeat (labels_in c.loop.labels.items) c.args.count c.loop.counter tt (rest_in c.loop.rest) (labels_from c.args.count (rest_in c.args.rest)) c.loop-test.false c.loop.invariant.1
