use Rattle.slot_rows.proofs.Consistent.{consistent}
use Rattle.slot_rows.proofs.laws.store_is_consistent.Goals as goal

pub returns : goal.returns
returns g c = λ reserved sequences none.
    let rows = c.args.rows.now in
    consistent rows.schema reserved sequences (g.S.Slots.state rows.chains.slots) rows.opens.items rows.stored none
