use Rattle.std.proofs.Common.{rules, sym, ap, ◌∙◌, subst}
use Rattle.turn_lock.specs.Seats.{PutsBack}
use Rattle.turn_lock.proofs.Calls.{records_one}
use Rattle.turn_lock.proofs.shared.Shared.record.Goals as goal

pub fetch_add-requires : goal.fetch_add-requires
fetch_add-requires g c =
    let j = g.T.Journal in
    let lock = c.requires.lock ∙ sym c.self.view_is in
    let longer = subst (PutsBack j.entries j.client c.args.place.now) c.if-longer.true c.requires.value in
    (ap (λ z. z.table) lock, search rules, records_one j.entries j.client j.origin c.args.place.now c.self.inside.table.shared.key _ longer (ap (λ z. z.key) lock))
