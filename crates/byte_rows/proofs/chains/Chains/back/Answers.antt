use Rattle.std.proofs.Common.{sym, ◌∙◌}
use Rattle.std.specs.BinaryHeap.{heap_items}
use Rattle.free_slots.specs.Free.{free_in}
use Rattle.byte_rows.proofs.NotedSteps.{noted_back}
use Rattle.byte_rows.proofs.Sounds.{sound_goes_on}
use Rattle.byte_rows.proofs.chains.Chains.back.Goals as goal

pub invariant_of-self : goal.invariant_of-self
invariant_of-self g c =
    let chains = c.args.self.now in
    let s = g.S.Slots.state chains.slots in
    let t = g.S.Slots.state c.back.new.self in
    let free = free_in (heap_items chains.free.back) chains.free.end in
    let b = c.in-Ok.ensures.ok in
    let same = c.in-Ok.ensures.cause.stays (λ e. cc e) in
    record {
      sound = sound_goes_on s t chains.places.items free chains.clients.items c.args.client chains.failed c.requires.client b.transaction.others c.requires.begun b.transaction.begun same
          (λ fine. noted_back s t chains.places.items free chains.clients.items c.args.client c.args.mark.at same c.requires.begun b (chains.sound.noted (sym same ∙ fine))) chains.sound;
    }
