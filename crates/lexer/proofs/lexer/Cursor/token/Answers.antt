use Rattle.std.proofs.Common.{◌+◌, refl, ap, ◌∙◌, sym}
use Rattle.std.proofs.Math.Path.{subst₂}
use Rattle.std.proofs.lemmas.Result.{MatchResult-weaker}
use Rattle.patterns.specs.Patterns as item
use Rattle.patterns.specs.Reader.{bracket}
use Rattle.lexer.specs.Scanning.{CompletesAs, CompletesGroup, Stops}
use Rattle.lexer.specs.Tokens.{literals, group, slice, position_in}
use Rattle.lexer.proofs.Cursors.{run_at}
use Rattle.lexer.proofs.Gaps.{stands}
use Rattle.lexer.proofs.Lexing.{group_opens, range_opens, literal_done}
use Rattle.lexer.proofs.lexer.Cursor.token.Goals as goal

pub returns-in_ok-runs-in-40 : goal.returns-in_ok-runs-in-40
returns-in_ok-runs-in-40 g c =
    let a = g.K.Kind.alphabet in
    let t = c.args.self.text.now in
    let place = c.args.self.place in
    let first = c.in-Some.ensures in
    let sign = stands t place 40 first.0 (sym first.1 ∙ c.in-40.is) in
    let h = c.in_ok-runs-in-40.ensures in
    let later = c.in_ok-runs-in-40.later.place in
    let found = subst₂ (λ l n. CompletesGroup a l n (c.in_ok-runs-in-40.runs, later)) first.2 first.3 h.1 in
    (h.0 ∙ first.2, (item.group found.3.0, later, group_opens a g.met.K.Kind.lawful t (position_in c.args.position) place sign ∙ found.3.1, ap group found.2, refl))

pub returns-in-91 : goal.returns-in-91
returns-in-91 g c =
    let a = g.K.Kind.alphabet in
    let t = c.args.self.text.now in
    let place = c.args.self.place in
    let first = c.in-Some.ensures in
    let opens = range_opens a g.met.K.Kind.lawful t (position_in c.args.position) place (stands t place 91 first.0 (sym first.1 ∙ c.in-91.is)) in
    MatchResult-weaker c.range.result c.range.ensures
    (λ x h.
    let found = subst₂ (λ l n. CompletesAs a l bracket 1 n (x.0, x.1.place)) first.2 first.3 h.1 in
    let token = found.2.2 place refl in
    (h.0 ∙ first.2, (found.2.0, x.1.place, opens ∙ found.2.1, token.0, token.1)))
    (λ stop h. opens ∙ subst₂ (λ l n. Stops a l bracket n stop.place) first.2 first.3 h)

pub returns-in_ok-run-in_default-first : goal.returns-in_ok-run-in_default-first
returns-in_ok-run-in_default-first g c =
    let a = g.K.Kind.alphabet in
    let t = c.args.self.text.now in
    let place = c.args.self.place in
    let run = c.in_ok-run-in_default-first in
    let found = run_at a {t = t} {place = place} (run.run', run.later) (record { text = refl; place = refl }) run.ensures in
    let literal = literal_done a g.met.K.Kind.lawful t (position_in c.args.position) place found.ran.some in
    (found.behind.text, (item.literal literal.0, place + 2, literal.1, ap literals (found.holds ∙ ap (slice t place) found.ran.end), found.ran.end))
