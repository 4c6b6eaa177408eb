use Rattle.std.proofs.Common.{◌≡◌, is_some, rules, subst, arith}
use Rattle.std.proofs.iter.runs.Sources.{inclusive_listed}
use Rattle.std.specs.Iterator.Runs.{ItemsCountUp}
use borrow.Author.Tests.{tests}
use Rattle.lexer.proofs.Scans.{any_below}
use Rattle.lexer.proofs.lexer.begins_pair.Goals as goal

pub returns : goal.returns
returns g c =
    let run = c.any.ensures.runs.0 in
    let listed = inclusive_listed run run.seen in
    let first : listed.0 ≡ 0 = grind arith in
    let last : listed.1 ≡ 256 = grind arith in
    let up = (listed.4 (grind arith)).0 in
    any_below _ _ (λ d. is_some (g.K.Kind.alphabet.named c.args.first d)) (λ x b q call. search (rules, tests)) run 256 (subst (λ a. ItemsCountUp run a 256) first (subst (ItemsCountUp run listed.0) last up)) _ c.any.ensures.runs.2
