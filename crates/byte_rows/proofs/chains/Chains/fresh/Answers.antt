use Rattle.std.proofs.Common.{ℕ, ap, sym, ◌∙◌}
use Rattle.std.specs.BinaryHeap.{heap_items}
use Rattle.free_slots.specs.Free.{free_in}
use Rattle.storage.specs.Slots.{Transaction}
use Rattle.row_fragments.proofs.Composes.{readable_on}
use Rattle.byte_rows.proofs.Vacancies.{free_unwritten, free_vacant, vacant_back}
use Rattle.byte_rows.proofs.chains.Chains.fresh.Goals as goal

pub returns-in-Ok-clause-vacant : goal.returns-in-Ok-clause-vacant
returns-in-Ok-clause-vacant g c = λ readable.
    let chains = c.next_slot.new.self in
    let s = g.S.Slots.state c.args.self.now.slots in
    let u = g.S.Slots.state chains.slots in
    let e = c.in-Ok.ensures in
    let n = chains.sound.noted e.fine in
    vacant_back s u e.looked.rests readable c.in-Ok.slot
    (free_vacant u chains.places.items (free_in (heap_items chains.free.back) chains.free.end) n.kept n.freed n.exact (readable_on s u e.looked.rests.keeps.observable (e.looked.cause.stays (λ q. cc q)) readable) c.in-Ok.slot e.inside e.lowest.0)

pub returns-in-Ok-clause-unwritten : goal.returns-in-Ok-clause-unwritten
returns-in-Ok-clause-unwritten g c = λ d begun.
    let chains = c.next_slot.new.self in
    let u = g.S.Slots.state chains.slots in
    let e = c.in-Ok.ensures in
    let n = chains.sound.noted e.fine in
    let same = e.looked.rests.transaction in
    ap (λ (f : ℕ → Transaction). (f d).written c.in-Ok.slot) (sym same)
    ∙ free_unwritten u chains.places.items (free_in (heap_items chains.free.back) chains.free.end) n.kept n.freed n.exact c.in-Ok.slot e.inside e.lowest.0 d (ap (λ (f : ℕ → Transaction). (f d).begun) same ∙ begun)
