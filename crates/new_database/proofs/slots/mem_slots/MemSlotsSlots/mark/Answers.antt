use Rattle.std.proofs.Common.{length, ap, arith}
use Rattle.storage.specs.Slots.{Transaction}
use Rattle.new_database.proofs.SlotsLemmas.Clients.{transaction_at}
use Rattle.new_database.proofs.slots.mem_slots.MemSlotsSlots.mark.Goals as goal

pub returns : goal.returns
returns c =
    let at = transaction_at c.args.self.now.clients.items c.args.client c.index.result.now (omega (arith, c.args.self.now.sixteen)) c.index.ensures in
    let long = ap (λ (t : Transaction). length t.undo) at in
    omega (arith, long)
