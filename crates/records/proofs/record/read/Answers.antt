use Rattle.std.proofs.Common.{◌≡◌, Some, ap, subst, sym}
use Rattle.std.specs.Result.{result_ok}
use Rattle.records.specs.Book.{signature_in, format_in}
use Rattle.records.specs.Laws.{IsBytes}
use Rattle.records.specs.Reading.{Rest}
use Rattle.records.specs.Taken.{kind_and_body, IsBody}
use Rattle.records.proofs.Bodies.{kind_taken}
use Rattle.records.proofs.Bounds.{bytes_below, signature_short, format_short}
use Rattle.records.proofs.Keeping.{body_bytes}
use Rattle.records.proofs.record.read.Goals as goal
use Rattle.records.proofs.record.read.Goals.{then-found-signature_kind+in_ok-of_body, else-found-signature_kind+in_ok-of_body-2}

-- the body stands behind the first four bytes
pub returns-clause-body : goal.returns-clause-body
returns-clause-body g c =
    ap (λ (r : Rest). r.bytes) (kind_taken _ c.args.bytes.now (kind_and_body c.in_ok-found.found) c.in_ok-found.ensures)

-- it reads as what is answered
pub returns-clause-fits : goal.returns-clause-fits
returns-clause-fits g c =
    let body = c.in_ok-found.found.body.now in
    let behind = ap (λ (r : Rest). r.bytes) (kind_taken _ c.args.bytes.now (kind_and_body c.in_ok-found.found) c.in_ok-found.ensures) in
    let fits : IsBytes body = subst IsBytes (sym behind) (body_bytes c.args.bytes.now (bytes_below c.args.bytes.now c.type_inv.bytes)) in
    elim c.if-found-signature_kind.branch [
      | then-found-signature_kind+in_ok-of_body w ↦
          let reads : signature_in body ≡ Some _ = ap (λ r. result_ok r) w.in_ok-of_body.ensures in
          subst (λ e. IsBody e body) (sym w.entry-is) (reads, signature_short body _ fits reads)
      | else-found-signature_kind+in_ok-of_body-2 w ↦
          let reads : format_in body ≡ Some _ = ap (λ r. result_ok r) w.in_ok-of_body-2.ensures in
          subst (λ e. IsBody e body) (sym w.entry-is) (reads, format_short body _ fits reads)
    ]
