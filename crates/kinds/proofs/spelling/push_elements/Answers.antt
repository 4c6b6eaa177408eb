use Rattle.std.proofs.Common.{◌≡◌, ℕ, ◌+◌, ◌*◌, length, length-append, get_or, Some, is_ok, vec_len, take_all, sym, ap, ap₂, ◌∙◌, arith}
use Rattle.std.specs.Result.{result_ok}
use Rattle.std.proofs.lemmas.Grind.{common_steps}
use Rattle.std.proofs.ResultArms.{chosen}
use Rattle.kinds.specs.Spelling.{after, spelled_from}
use Rattle.kinds.proofs.Spellings.{kept_more, spelled_more}
use Rattle.kinds.proofs.spelling.push_elements.Goals as goal

pub loop-number-preserved : goal.loop-number-preserved
loop-number-preserved g c =
    let a = g.K.Kind.alphabet in
    let place = 2 * c.loop-number.number-iterator.count in
    let so_far = c.loop-number.invariant in
    let steps = c.in-Some.ensures.steps in
    let pushed = chosen _ _ _ _ c.push.ensures.items (sym c.map_err.ensures.variant ∙ ap is_ok c.in_ok-map_err.was) in
    let named : a.named (get_or c.in-Some.pair.now 0 0) (get_or c.in-Some.pair.now 1 0) ≡ Some c.in_ok-x.x = sym c.named.ensures ∙ c.ok_or.ensures.ok_part ∙ ap result_ok c.in_ok-x.was in
    let one_more : vec_len c.push.new.self ≡ vec_len c.loop-number.list + 1 = chosen _ _ _ _ c.push.ensures.len (sym c.map_err.ensures.variant ∙ ap is_ok c.in_ok-map_err.was) in
    let on : 2 * c.next.new.self.count ≡ place + 2 = omega (arith, steps.1) in
    let step = spelled_more a c.loop-number.list.items place c.next.new.self.iter.rest.now c.in-Some.pair.now c.in_ok-x.x (omega arith) named in
    record {
      by_two = cc;
      in_text = omega (arith, ap length steps.0.1.0, length-append {A = ℕ});
      read = cc;
      kept = kept_more _ _ _ _ c.in_ok-x.x pushed (omega (arith, so_far.counted, c.loop-number.list.ok.0)) so_far.kept;
      counted = omega (arith, so_far.counted, on, one_more);
      grown = omega (arith, so_far.grown, c.push.ensures.capacity);
    }

pub loop-number-init : goal.loop-number-init
loop-number-init g c =
    let old = c.args.list.now in
    let first = c.into_iter-number-iterator.result in
    let front : 2 * first.count ≡ 0 = grind (arith, common_steps) in
    let whole : first.iter.rest.now ≡ c.args.text.now = grind (arith, common_steps) in
    record {
      by_two = grind (arith, common_steps);
      in_text = grind (arith, common_steps);
      read = ap₂ (λ n left. after old.items (spelled_from g.K.Kind.alphabet n left)) (sym front) (sym whole);
      kept = take_all (vec_len old) old.items (omega (arith, old.ok.0));
      counted = grind (arith, common_steps);
      grown = omega arith;
    }
