use Rattle.std.proofs.Common.{◌≤◌, ◌∙◌, true, length, take, sym, ap, subst, arith}
use Rattle.storage.specs.Slots.{Transaction}
use Rattle.new_database.proofs.SlotsLemmas.Clients.{held_take}
use Rattle.new_database.proofs.SlotsLemmas.Changes.{here, held_as, held_here, stands_same, keeps, becomes_one, reads_back}
use Rattle.new_database.proofs.slots.mem_slots.MemSlotsSlots.back.Goals as goal

pub go_back-requires-clause-held : goal.go_back-requires-clause-held
go_back-requires-clause-held c = held_here c.args.self.now c.requires.client c.index_mut-client.ensures.value

pub go_back-requires-clause-stand : goal.go_back-requires-clause-stand
go_back-requires-clause-stand c = subst (λ (t : Transaction). c.args.mark.at ≤ length t.undo) (here c.args.self.now c.requires.client c.index_mut-client.ensures.value) c.requires.mark

pub invariant_of-self : goal.invariant_of-self
invariant_of-self c =
    stands_same c.args.self.now c.requires.client c.index_mut-client.ensures.value c.go_back.new.slots c.go_back.new.self c.go_back.ensures.same
    (λ held. held_as c.go_back.new.slots c.go_back.new.self c.go_back.ensures.transaction (held_take c.go_back.new.slots _ c.args.mark.at held)) (omega (arith, c.go_back.ensures.promised)) c.go_back.ensures.spare

pub returns-clause-ok : goal.returns-clause-ok
returns-clause-ok c =
    let s = c.args.self.now in
    let client = c.index_mut-client.ensures.value in
    record {
      keeps = keeps s c.requires.client client c.go_back.new.slots _ c.go_back.ensures.committed;
      reads = λ _. reads_back s c.requires.client client c.go_back.new.slots c.args.mark.at c.go_back.ensures.reads;
      transaction = becomes_one s c.requires.client client c.go_back.new.self _ true _ (c.go_back.ensures.transaction ∙ sym (ap (λ (t : Transaction). record t { undo = take c.args.mark.at t.undo }) (here s c.requires.client client))) c.requires.begun (omega arith);
    }
