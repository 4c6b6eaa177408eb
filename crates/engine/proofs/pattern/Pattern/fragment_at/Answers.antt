use Rattle.std.proofs.Common.{◌+◌, ◌-◌, length, take, drop, sym, ap, subst, arith}
use Rattle.engine.specs.Compiled.{literal_codes}
use Rattle.engine.specs.Compiling.{part_items}
use Rattle.engine.specs.Codes.{ShiftsOf}
use Rattle.engine.specs.Parts.{HasParts}
use Rattle.engine.proofs.Assembling.{assembled}
use Rattle.engine.proofs.Bodies.{part_codes_are}
use Rattle.engine.proofs.Lengths.{parts_take_within, parts_drop_within}
use Rattle.engine.proofs.Literals.{codes_part}
use Rattle.engine.proofs.pattern.Pattern.fragment_at.Goals as goal

pub least_of-requires-clause-inside : goal.least_of-requires-clause-inside
least_of-requires-clause-inside c =
    let codes = c.args.self.now.codes.items in
    let runs = c.args.self.now.runs.items in
    let first = c.args.first in
    let n = c.args.end - first in
    let slice = c.deref.result.now in
    let within = subst (HasParts c.args.self.now) (sym c.deref.ensures.0) c.args.self.now.parts_within in
    parts_take_within codes runs c.anchor-start.result.start (take n (drop first slice)) (parts_take_within codes runs n (drop first slice) (parts_drop_within codes runs first slice within))

pub literal_codes-codes-requires : goal.literal_codes-codes-requires
literal_codes-codes-requires c =
    let codes = c.args.self.now.codes.items in
    let runs = c.args.self.now.runs.items in
    let first = c.args.first in
    let n = c.args.end - first in
    let slice = c.deref.result.now in
    let body = take n (drop first slice) in
    let start = c.anchor-start.result.start in
    let inner = codes_part codes runs body start (start + c.anchor-start.result.len - start) in
    let same = ap length (part_codes_are codes runs body) in
    let outer = codes_part codes runs slice first n in
    let whole = ap (λ ps. length (literal_codes (part_items codes runs ps))) c.deref.ensures.0 in
    omega (arith, c.requires.few)

pub returns : goal.returns
returns c =
    let codes = c.args.self.now.codes.items in
    let runs = c.args.self.now.runs.items in
    let first = c.args.first in
    let end = c.args.end in
    let slice = c.deref.result.now in
    assembled codes runs c.args.self.now.parts.items c.args.reference first end c.requires.ordered c.requires.inside
    (take (end - first) (drop first slice)) (ap (λ ps. take (end - first) (drop first ps)) c.deref.ensures.0)
    c.anchor-start.result.start c.anchor-start.result.len (c.anchor-start.ensures.anchored codes runs)
    c.args.break_before c.least_of.result c.literal_codes-codes.result c.shifts-shifts.result c.least_of.ensures c.literal_codes-codes.ensures
    (subst (ShiftsOf c.shifts-shifts.result) c.as_slice.ensures.value c.shifts-shifts.ensures)
