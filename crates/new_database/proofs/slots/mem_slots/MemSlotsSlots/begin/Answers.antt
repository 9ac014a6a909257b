use Rattle.std.proofs.Common.{true, ap, refl, arith}
use Rattle.new_database.specs.slots.Promised.{promised}
use Rattle.new_database.proofs.SlotsLemmas.Clients.{held_none, promised_most, either_way}
use Rattle.new_database.proofs.SlotsLemmas.Changes.{as_one, same_reads, same_committed, same_places, held_as, stands_there, keeps, becomes_one, rests}
use Rattle.new_database.proofs.slots.mem_slots.MemSlotsSlots.begin.Goals as goal

pub overflow_add-total : goal.overflow_add-total
overflow_add-total c =
    let most = promised_most c.args.self.now.clients.items in
    omega (arith, most, c.args.self.now.sixteen, c.all_promised-total.ensures, ap promised c.deref.ensures.value)

pub invariant_of-self : goal.invariant_of-self
invariant_of-self c =
    stands_there c.args.self.now c.requires.client c.index_mut-client.ensures.value c.reserve.new.self c.begin.new.self
    (same_places c.args.self.now.slots c.reserve.new.self c.reserve.ensures.entries.2)
    (λ held. either_way c.begin.result (λ yes. held_as c.reserve.new.self c.begin.new.self (c.begin.ensures.yes yes) (held_none c.reserve.new.self)) (λ no. held_as c.reserve.new.self c.begin.new.self (c.begin.ensures.no no) held))
    (omega (arith, c.all_promised-total.ensures, ap promised c.deref.ensures.value, c.begin.ensures.promised, c.in-Ok.ensures.ok))

pub returns-then-begin-clause-ok : goal.returns-then-begin-clause-ok
returns-then-begin-clause-ok c =
    let old = c.args.self.now.slots in
    let new = c.reserve.new.self in
    let same = c.reserve.ensures.entries.2 in
    let client = c.index_mut-client.ensures.value in
    record {
      keeps = keeps c.args.self.now c.requires.client client c.reserve.new.self _ (same_committed old new same);
      reads = λ _. as_one (same_reads old new same);
      transaction = becomes_one c.args.self.now c.requires.client client c.begin.new.self _ true 0 (c.begin.ensures.yes c.if-begin.true) refl (omega arith);
    }

pub returns-else-begin-clause-err : goal.returns-else-begin-clause-err
returns-else-begin-clause-err c =
    let old = c.args.self.now.slots in
    let new = c.reserve.new.self in
    let same = c.reserve.ensures.entries.2 in
    rests c.args.self.now c.requires.client c.index_mut-client.ensures.value c.reserve.new.self c.begin.new.self (same_reads old new same) (same_committed old new same) (c.begin.ensures.no c.if-begin.false)
