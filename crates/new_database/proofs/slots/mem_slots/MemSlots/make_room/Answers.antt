use Rattle.std.proofs.Common.{◌∙◌, List, true, sym, ap, subst, arith}
use Rattle.storage.specs.Slots.{Transaction}
use Rattle.storage.specs.declared.slots.Undo.{Undo}
use Rattle.new_database.specs.slots.Promised.{promised}
use Rattle.new_database.specs.slots.Sparse.{AllHeld}
use Rattle.new_database.proofs.SlotsLemmas.Clients.{promised_most}
use Rattle.new_database.proofs.SlotsLemmas.Changes.{as_one, same_reads, same_committed, same_places, here, stands_there, keeps, becomes_one, rests}
use Rattle.new_database.proofs.slots.mem_slots.MemSlots.make_room.Goals as goal

pub overflow_add-total : goal.overflow_add-total
overflow_add-total c =
    let most = promised_most c.args.self.now.clients.items in
    omega (arith, most, c.args.self.now.sixteen, c.all_promised-total.ensures, ap promised c.deref.ensures.value)

pub make_room-requires-clause-begun : goal.make_room-requires-clause-begun
make_room-requires-clause-begun c = sym (ap (λ (t : Transaction). t.begun) (here c.args.self.now c.requires.client c.index_mut-client.ensures.value)) ∙ c.requires.begun

pub invariant_of-self : goal.invariant_of-self
invariant_of-self c =
    stands_there c.args.self.now c.requires.client c.index_mut-client.ensures.value c.reserve.new.self c.make_room.new.self
    (same_places c.args.self.now.slots c.reserve.new.self c.reserve.ensures.entries.2)
    (λ held. subst (λ (l : List Undo). AllHeld c.reserve.new.self l) (sym c.make_room.ensures.undo) held)
    (omega (arith, c.all_promised-total.ensures, ap promised c.deref.ensures.value, c.make_room.ensures.promised, c.in-Ok.ensures.ok))

pub returns-in-Ok-clause-yes : goal.returns-in-Ok-clause-yes
returns-in-Ok-clause-yes c =
    let s = c.args.self.now in
    let client = c.index_mut-client.ensures.value in
    let old = c.args.self.now.slots in
    let new = c.reserve.new.self in
    let same = c.reserve.ensures.entries.2 in
    λ yes. record {
      keeps = keeps s c.requires.client client c.reserve.new.self _ (same_committed old new same);
      reads = λ _. as_one (same_reads old new same);
      transaction = becomes_one s c.requires.client client c.make_room.new.self _ true c.args.writes (c.make_room.ensures.yes yes ∙ sym (ap (λ (t : Transaction). record t { room = c.args.writes }) (here s c.requires.client client))) c.requires.begun (omega arith);
    }

pub returns-in-Ok-clause-no : goal.returns-in-Ok-clause-no
returns-in-Ok-clause-no c =
    let old = c.args.self.now.slots in
    let new = c.reserve.new.self in
    let same = c.reserve.ensures.entries.2 in
    λ no. rests c.args.self.now c.requires.client c.index_mut-client.ensures.value c.reserve.new.self c.make_room.new.self (same_reads old new same) (same_committed old new same) (c.make_room.ensures.no no)
