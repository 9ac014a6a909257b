use Rattle.std.proofs.Common.{List, ap, ◌∙◌}
use Rattle.database_meaning.specs.Counts.{sum_below}
use Rattle.slot_rows.specs.declared.open.Open.{Open}
use Rattle.slot_rows.specs.Opens.{open_in}
use Rattle.slot_rows.proofs.Counting.{used_is}
use Rattle.slot_rows.proofs.rows.StoredRows.used.Goals as goal

pub returns : goal.returns
returns g c = λ reserved sequences readable.
    let rows = c.args.self.now in
    used_is rows.schema reserved sequences (g.S.Slots.state rows.chains.slots) rows.opens.items rows.used c.drawn_all.result c.moved.result (rows.counted readable) readable
    (c.drawn_all.ensures.is ∙ ap (λ (os : List Open). sum_below 16 (λ k. (open_in os k).drawn)) c.as_slice.ensures.value) c.drawn_all.ensures.few c.moved.ensures
