use Rattle.std.proofs.Common.{◌≡◌, ◌+◌, ◌-◌, length, take, drop, sym, ap, ◌∙◌, arith, length-drop}
use Rattle.std.proofs.lemmas.List.{take_rest}
use Rattle.std.proofs.lemmas.Bool.{le-leb}
use Rattle.engine.proofs.pattern.Pattern.run_from.Goals as goal

pub returns : goal.returns
returns c =
    let codes = c.args.self.now.codes.items in
    let start = c.args.start in
    let all : c.len.result ≡ length codes = c.len.ensures.value in
    record {
      codes = ap (λ n. take (n - start) (drop start codes)) all ∙ take_rest codes start;
      len = ap (λ n. n - start) all ∙ sym (length-drop start codes);
      within = le-leb (start + (c.len.result - start)) (length codes) (omega (arith, c.requires, all));
    }
