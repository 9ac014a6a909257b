use Rattle.std.proofs.Common.{false, refl, arith}
use Rattle.new_database.proofs.SlotsLemmas.Changes.{held_idle, held_here, stands_same, keeps, becomes_one, reads_back}
use Rattle.new_database.proofs.slots.mem_slots.MemSlotsSlots.abandon.Goals as goal

pub go_back-requires-clause-held : goal.go_back-requires-clause-held
go_back-requires-clause-held c = held_here c.args.self.now c.requires.client c.index_mut-client.ensures.value

pub invariant_of-self : goal.invariant_of-self
invariant_of-self c =
    stands_same c.args.self.now c.requires.client c.index_mut-client.ensures.value c.go_back.new.slots c.end.new.self c.go_back.ensures.same
    (λ _. held_idle c.go_back.new.slots c.end.new.self c.end.ensures.idle) (omega (arith, c.end.ensures.promised)) c.go_back.ensures.spare

pub returns-clause-ended : goal.returns-clause-ended
returns-clause-ended c =
    let s = c.args.self.now in
    let client = c.index_mut-client.ensures.value in
    record {
      keeps = keeps s c.requires.client client c.go_back.new.slots _ c.go_back.ensures.committed;
      reads = λ _. reads_back s c.requires.client client c.go_back.new.slots 0 c.go_back.ensures.reads;
      transaction = becomes_one s c.requires.client client c.end.new.self _ false 0 c.end.ensures.idle refl (omega arith);
      later = omega arith;
      failed = refl;
    }
