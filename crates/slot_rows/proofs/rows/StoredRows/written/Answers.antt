use Rattle.std.proofs.Common.{sym, ap, arith}
use Rattle.slot_rows.specs.Opens.{OpenView}
use Rattle.slot_rows.proofs.Changed.{open_at}
use Rattle.slot_rows.proofs.rows.StoredRows.written.Goals as goal

pub returns : goal.returns
returns g c =
    let rows = c.args.self.now in
    let many = rows.sixteen in
    let lt = c.requires in
    sym (ap (λ (v : OpenView). v.written) (open_at rows.opens.items c.args.client c.index.result.now (omega (arith, many, lt)) c.index.ensures))
