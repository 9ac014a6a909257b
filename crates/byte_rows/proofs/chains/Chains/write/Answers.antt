use Rattle.std.proofs.Common.{sym, ◌∙◌}
use Rattle.std.specs.BinaryHeap.{heap_items}
use Rattle.free_slots.specs.Free.{free_in}
use Rattle.byte_rows.proofs.LowWrites.{low_noted}
use Rattle.byte_rows.proofs.Sounds.{sound_goes_on}
use Rattle.byte_rows.proofs.chains.Chains.write.Goals as goal

pub invariant_of-self : goal.invariant_of-self
invariant_of-self g c =
    let chains = c.args.self.now in
    let s = g.S.Slots.state chains.slots in
    let t = g.S.Slots.state c.write.new.self in
    let free = free_in (heap_items chains.free.back) chains.free.end in
    let w = c.in-Ok.ensures.ok in
    let same = c.in-Ok.ensures.cause.stays (λ e. cc e) in
    record {
      sound = sound_goes_on s t chains.places.items free chains.clients.items c.args.client chains.failed c.requires.client w.transaction.others c.requires.begun w.transaction.begun same
          (λ fine. low_noted s t c.args.client c.args.slot c.args.bytes.now c.requires.low c.requires.high same c.requires.begun w chains.places.items free chains.clients.items (chains.sound.noted (sym same ∙ fine))) chains.sound;
    }
