use Rattle.std.proofs.Common.{◌≡◌, ◌-◌, [], sym, refl, ap, ◌∙◌, subst, arith}
use Rattle.std.proofs.lemmas.Result.{err_from_is_err_and}
use Rattle.patterns.specs.Patterns as item
use Rattle.patterns.specs.Reader.{alternatives}
use Rattle.lexer.specs.Scanning.{Completes}
use Rattle.lexer.specs.Tokens.{slice}
use Rattle.lexer.proofs.Cursors.{passed_at, none_at, run_at, no_pair_at, no_end_at}
use Rattle.lexer.proofs.Gaps.{stands_true}
use Rattle.lexer.proofs.Lexing.{group_begun, group_alone, group_more, group_done, group_stops, group_none, group_empty}
use Rattle.lexer.proofs.lexer.Cursor.group.Goals as goal

pub returns-in_err-first_end : goal.returns-in_err-first_end
returns-in_err-first_end g c =
    let p = err_from_is_err_and c.from_residual.result c.from_residual.ensures.1 in
    rw (p.1, p.2) (group_none g.K.Kind.alphabet g.met.K.Kind.lawful c.args.self.text.now c.args.self.place _ c.in_err-first_end.ensures)

pub returns-in_err-next : goal.returns-in_err-next
returns-in_err-next g c =
    let a = g.K.Kind.alphabet in
    let t = c.args.self.text.now in
    let place = c.args.self.place in
    let run = run_at a {t = t} {place = place} (c.in_ok-first_end.field-0-0, c.in_ok-first_end.first_end) (record { text = refl; place = refl }) c.in_ok-first_end.ensures in
    let none = no_end_at a 124 _ run.behind c.in_err-next.ensures in
    let p = err_from_is_err_and c.from_residual-in_err-next.result c.from_residual-in_err-next.ensures.1 in
    rw (p.1, p.2) (group_alone a g.met.K.Kind.lawful t place _ run.ran _ none.0 none.1)

pub loop-end-init : goal.loop-end-init
loop-end-init g c =
    let a = g.K.Kind.alphabet in
    let t = c.args.self.text.now in
    let place = c.args.self.place in
    let run = run_at a {t = t} {place = place} (c.in_ok-first_end.field-0-0, c.in_ok-first_end.first_end) (record { text = refl; place = refl }) c.in_ok-first_end.ensures in
    let bar = passed_at 124 c.in_ok-next.next run.behind c.in_ok-next.ensures in
    record {
      same = bar.1.text;
      order = omega (arith, bar.1.place, run.ran.end);
      reads = rw bar.1.place (group_begun a g.met.K.Kind.lawful t place _ run.ran bar.0);
    }

pub returns-in_err-end : goal.returns-in_err-end
returns-in_err-end g c =
    let a = g.K.Kind.alphabet in
    let t = c.args.self.text.now in
    let l = c.loop-end in
    let none = no_pair_at a {t = t} {place = l.next.place} {before = l.next} _ (record { text = l.invariant.same; place = refl }) c.in_err-end.ensures in
    let p = err_from_is_err_and c.from_residual-in_err-end.result c.from_residual-in_err-end.ensures.1 in
    rw (p.1, p.2) (group_empty a g.met.K.Kind.lawful t c.args.self.place l.next.place _ l.invariant.reads none)

pub loop-end-preserved : goal.loop-end-preserved
loop-end-preserved g c =
    let a = g.K.Kind.alphabet in
    let t = c.args.self.text.now in
    let l = c.loop-end in
    let run = run_at a {t = t} {place = l.next.place} (c.in_ok-end.field-0-0, c.in_ok-end.end) (record { text = l.invariant.same; place = refl }) c.in_ok-end.ensures in
    let bar = passed_at 124 c.in-Some.later run.behind c.in-Some.ensures in
    record {
      same = bar.1.text;
      order = omega (arith, l.invariant.order, bar.1.place, run.ran.end);
      reads = rw bar.1.place (group_more a g.met.K.Kind.lawful t l.next.place _ run.ran c.args.self.place l.invariant.reads bar.0);
    }

pub returns-in_err-later-in-None : goal.returns-in_err-later-in-None
returns-in_err-later-in-None g c =
    let a = g.K.Kind.alphabet in
    let t = c.args.self.text.now in
    let l = c.loop-end in
    let run = run_at a {t = t} {place = l.next.place} (c.in_ok-end.field-0-0, c.in_ok-end.end) (record { text = l.invariant.same; place = refl }) c.in_ok-end.ensures in
    let bar = none_at 124 run.behind c.in-None.ensures in
    let none = no_end_at a 41 _ run.behind c.in_err-later-in-None.ensures in
    let p = err_from_is_err_and c.from_residual-in_err-later-in-None.result c.from_residual-in_err-later-in-None.ensures.1 in
    rw (p.1, p.2) (group_stops a g.met.K.Kind.lawful t l.next.place _ run.ran c.args.self.place l.invariant.reads _ bar none.0 none.1)

pub returns-in-None : goal.returns-in-None
returns-in-None g c =
    let a = g.K.Kind.alphabet in
    let t = c.args.self.text.now in
    let place = c.args.self.place in
    let l = c.loop-end in
    let end = c.in_ok-end.end.place in
    let run = run_at a {t = t} {place = l.next.place} (c.in_ok-end.field-0-0, c.in_ok-end.end) (record { text = l.invariant.same; place = refl }) c.in_ok-end.ensures in
    let close = passed_at 41 c.in_ok-later-in-None.later run.behind c.in_ok-later-in-None.ensures in
    let before : end ≡ c.in_ok-later-in-None.later.place - 1 = omega (arith, close.1.place) in
    let group = group_done a g.met.K.Kind.lawful t l.next.place end run.ran place l.invariant.reads close.0 in (
      close.1.text,
      (
        omega (arith, l.invariant.order, close.1.place, run.ran.end),
        omega (arith, close.1.place, (stands_true t end 41 close.0).0),
        (λ i. record { place = place; text = c.text_to-text.ensures i }) ∙ ap (slice t place) before,
        (group.0, subst (Completes a t (alternatives [] []) place (item.group group.0)) (sym close.1.place) group.1),
      ),
    )
