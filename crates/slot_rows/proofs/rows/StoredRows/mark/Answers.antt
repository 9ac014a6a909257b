use Rattle.std.proofs.Common.{◌≡◌, length, ap, arith}
use Rattle.slot_rows.specs.Opens.{OpenView, log_in}
use Rattle.slot_rows.proofs.Changed.{open_at}
use Rattle.slot_rows.proofs.rows.StoredRows.mark.Goals as goal

pub returns : goal.returns
returns g c =
    let rows = c.args.self.now in
    let many = rows.sixteen in
    let lt = c.requires in
    let at = open_at rows.opens.items c.args.client c.index.result.now (omega (arith, many, lt)) c.index.ensures in
    let long = c.len.ensures in
    let held = c.index.result.now.log.ok.0 in
    let same : length (log_in rows.opens.items c.args.client) ≡ length c.index.result.now.log.items = ap (λ (v : OpenView). length v.log) at in
    omega (arith, long, held, same)
