use Rattle.std.proofs.Common.{◌≡◌, ◌+◌, ◌++◌, length, ap, ◌∙◌, arith}
use Rattle.records.specs.Entries.{word}
use Rattle.catalogue.specs.Writing.{over_from}
use Rattle.catalogue.proofs.Writing.{written_behind}
use Rattle.catalogue.proofs.standing.write_record.Goals as goal

pub returns-clause-bytes : goal.returns-clause-bytes
returns-clause-bytes c =
    let at = c.args.at in
    let old = c.args.buffer.now in
    let len = word (length c.args.body.now) in
    let kind = word c.args.kind in
    let first : c.write_bytes-at.new.buffer ≡ over_from at len old = c.write_bytes-at.ensures.bytes ∙ ap (λ w. over_from at w old) c.to_le_bytes.ensures in
    let place : c.write_bytes-at.result ≡ at + 2 = c.write_bytes-at.ensures.place ∙ ap (λ w. at + length w) c.to_le_bytes.ensures in
    let second : c.write_bytes-at-2.new.buffer ≡ over_from at (len ++ kind) old = written_behind at c.write_bytes-at.result len kind old c.write_bytes-at.new.buffer c.write_bytes-at-2.new.buffer (omega arith) place first (c.write_bytes-at-2.ensures.bytes ∙ ap (λ w. over_from c.write_bytes-at.result w c.write_bytes-at.new.buffer) c.to_le_bytes-2.ensures) in
    let behind : c.write_bytes-at-2.result ≡ at + 4 = omega (arith, place, c.write_bytes-at-2.ensures.place, ap length c.to_le_bytes-2.ensures) in
    written_behind at c.write_bytes-at-2.result (len ++ kind) c.args.body.now old c.write_bytes-at-2.new.buffer c.write_bytes.new.buffer (omega arith) behind second c.write_bytes.ensures.bytes
