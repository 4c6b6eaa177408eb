use Rattle.std.proofs.Common.{◌≡◌, ℕ, ◌+◌, ◌*◌, ◌<◌, false, length, drop, sym, refl, ap, ◌∙◌, subst, arith}
use Rattle.std.proofs.lemmas.Bool.{both_ways}
use Rattle.std.proofs.lemmas.Result.{err_from_is_err_and}
use Rattle.patterns.specs.Patterns as item
use Rattle.patterns.specs.declared.direction.Direction.TheVariants.{FirstOn}
use Rattle.lexer.specs.Scanning.{standing, opening}
use Rattle.lexer.specs.Tokens.{range, other, lexeme_of, run_slice}
use Rattle.lexer.proofs.Cursors.{passed_at, none_at, run_at, no_pair_at, no_end_at, range_token, other_token}
use Rattle.lexer.proofs.Gaps.{stands_true}
use Rattle.lexer.proofs.Lexing.{codes_length, codes_at, low_none, low_stops, other_done, high_none, range_done, high_stops}
use Rattle.lexer.proofs.lexer.Cursor.bounds.Goals as goal
use Rattle.lexer.proofs.lexer.Cursor.bounds.Goals.{then-not-inside+in_default, else-not-inside}

pub returns-in_err-low : goal.returns-in_err-low
returns-in_err-low g c =
    let p = err_from_is_err_and c.from_residual.result c.from_residual.ensures.1 in
    rw (p.1, p.2) (low_none g.K.Kind.alphabet g.met.K.Kind.lawful c.args.self.text.now c.args.inside c.args.self.place _ c.in_err-low.ensures)

pub returns-in-Some : goal.returns-in-Some
returns-in-Some g c =
    let a = g.K.Kind.alphabet in
    let t = c.args.self.text.now in
    let place = c.args.self.place in
    let colon = c.in_ok-low.low_end.place in
    let low = run_at a {t = t} {place = place} (c.in_ok-low.low, c.in_ok-low.low_end) (record { text = refl; place = refl }) c.in_ok-low.ensures in
    let close = passed_at 93 c.in-Some.later low.behind c.in-Some.ensures in
    let out : c.args.inside ≡ false = c.if-not-inside.true in
    let token : (from : ℕ) → from + opening c.args.inside ≡ place → other (run_slice c.in_ok-low.low) ≡ lexeme_of a t from (colon + 1) (item.other (codes_at a t place)) =
    λ from e. ap other low.holds ∙ other_token a t from place colon (codes_at a t place) (rw out at e) in
    let forward : place < colon = omega (arith, low.ran.end, low.ran.some) in (
      close.1.text,
      (
        omega (arith, close.1.place),
        omega (arith, close.1.place, (stands_true t colon 93 close.0).0),
        (
          item.other (codes_at a t place),
          rw close.1.place (other_done a g.met.K.Kind.lawful t c.args.inside place colon low.ran out close.0),
          rw close.1.place (λ from e. (token from e, refl)),
        ),
      ),
    )

pub returns-in_err-colon_end : goal.returns-in_err-colon_end
returns-in_err-colon_end g c =
    let a = g.K.Kind.alphabet in
    let t = c.args.self.text.now in
    let place = c.args.self.place in
    let colon = c.in_ok-low.low_end.place in
    let low = run_at a {t = t} {place = place} (c.in_ok-low.low, c.in_ok-low.low_end) (record { text = refl; place = refl }) c.in_ok-low.ensures in
    let none = no_end_at a 58 _ low.behind c.in_err-colon_end.ensures in
    let p = err_from_is_err_and c.from_residual-in_err-colon_end.result c.from_residual-in_err-colon_end.ensures.1 in
    let close : c.args.inside ≡ false → standing t colon 93 ≡ false =
    elim c.if-not-inside.branch [
      | then-not-inside+in_default w ↦ λ _. none_at 93 low.behind w.in_default.ensures
      | else-not-inside w ↦ λ e. absurd (both_ways c.args.inside e w.if-not-inside.false)
    ] in
    rw (p.1, p.2) (low_stops a g.met.K.Kind.lawful t c.args.inside place colon low.ran _ close none.0 none.1)

pub returns-in_err-high : goal.returns-in_err-high
returns-in_err-high g c =
    let a = g.K.Kind.alphabet in
    let t = c.args.self.text.now in
    let place = c.args.self.place in
    let colon = c.in_ok-low.low_end.place in
    let low = run_at a {t = t} {place = place} (c.in_ok-low.low, c.in_ok-low.low_end) (record { text = refl; place = refl }) c.in_ok-low.ensures in
    let sign = passed_at 58 c.in_ok-colon_end.colon_end low.behind c.in_ok-colon_end.ensures in
    let none = no_pair_at a _ sign.1 c.in_err-high.ensures in
    let p = err_from_is_err_and c.from_residual-in_err-high.result c.from_residual-in_err-high.ensures.1 in
    rw (p.1, p.2) (high_none a g.met.K.Kind.lawful t c.args.inside place colon low.ran sign.0 _ none)

pub returns-in_err-later : goal.returns-in_err-later
returns-in_err-later g c =
    let a = g.K.Kind.alphabet in
    let t = c.args.self.text.now in
    let place = c.args.self.place in
    let colon = c.in_ok-low.low_end.place in
    let low = run_at a {t = t} {place = place} (c.in_ok-low.low, c.in_ok-low.low_end) (record { text = refl; place = refl }) c.in_ok-low.ensures in
    let sign = passed_at 58 c.in_ok-colon_end.colon_end low.behind c.in_ok-colon_end.ensures in
    let high = run_at a (c.in_ok-high.high, c.in_ok-high.high_end) sign.1 c.in_ok-high.ensures in
    let none = no_end_at a 93 _ high.behind c.in_err-later.ensures in
    let p = err_from_is_err_and c.from_residual-in_err-later.result c.from_residual-in_err-later.ensures.1 in
    rw (p.1, p.2) (high_stops a g.met.K.Kind.lawful t c.args.inside place colon low.ran sign.0 c.in_ok-high.high_end.place high.ran _ none.0 none.1)

pub returns : goal.returns
returns g c =
    let a = g.K.Kind.alphabet in
    let t = c.args.self.text.now in
    let place = c.args.self.place in
    let colon = c.in_ok-low.low_end.place in
    let end = c.in_ok-high.high_end.place in
    let low = run_at a {t = t} {place = place} (c.in_ok-low.low, c.in_ok-low.low_end) (record { text = refl; place = refl }) c.in_ok-low.ensures in
    let sign = passed_at 58 c.in_ok-colon_end.colon_end low.behind c.in_ok-colon_end.ensures in
    let high = run_at a (c.in_ok-high.high, c.in_ok-high.high_end) sign.1 c.in_ok-high.ensures in
    let close = passed_at 93 c.in_ok-later.later high.behind c.in_ok-later.ensures in
    let first = codes_at a t place in
    let second = codes_at a t (colon + 1) in
    let long : colon ≡ place + 2 * length first = omega (arith, low.ran.end, codes_length a (drop place t)) in
    let token : (from : ℕ) → from + opening c.args.inside ≡ place → range c.args.inside (run_slice c.in_ok-low.low) (run_slice c.in_ok-high.high) ≡ lexeme_of a t from (end + 1) (item.range FirstOn c.args.inside first second) =
    λ from e. (λ i. range c.args.inside (low.holds i) (high.holds i)) ∙ range_token a t c.args.inside from place colon end first second e long in
    let forward : place < colon = omega (arith, low.ran.end, low.ran.some) in
    let onward : colon + 1 < end = omega (arith, high.ran.end, high.ran.some) in (
      close.1.text,
      (
        omega (arith, close.1.place),
        omega (arith, close.1.place, (stands_true t end 93 close.0).0),
        (
          item.range FirstOn c.args.inside first second,
          rw close.1.place (range_done a g.met.K.Kind.lawful t c.args.inside place colon low.ran sign.0 end high.ran close.0),
          λ from e. (subst (λ n. range c.args.inside (run_slice c.in_ok-low.low) (run_slice c.in_ok-high.high) ≡ lexeme_of a t from n (item.range FirstOn c.args.inside first second)) (sym close.1.place) (token from e), refl),
        ),
      ),
    )
