use Rattle.std.proofs.Common.{ℕ, ◌<◌, length, sym, ◌∙◌, subst, arith}
use Rattle.std.proofs.lemmas.List.{length-set}
use Rattle.storage.specs.Slots.{Transaction}
use Rattle.open_transactions.specs.Clients.{idle, transaction_of, memory_of}
use Rattle.open_transactions.proofs.Parts.{part_here, part_set, part_same}
use Rattle.open_transactions.proofs.Changed.{lists_stay, apart_same, due_stays, due_in_stays}
use Rattle.open_transactions.proofs.transactions.Transactions.reserve.Goals as goal

pub invariant_of-self : goal.invariant_of-self
invariant_of-self c =
    let cs = c.args.self.now.clients.items in
    let k = c.args.client in
    let old = c.index_mut-client.result.now in
    let is = c.index_mut-client.ensures.value in
    let lt : k < length cs = omega (arith, c.requires.client, c.args.self.now.sixteen) in
    record {
      sixteen = length-set cs k c.reserve.new.self ∙ c.args.self.now.sixteen;
      apart = apart_same cs k old c.reserve.new.self lt is c.reserve.ensures.same.0 c.args.self.now.apart;
    }

pub returns-clause-transactions : goal.returns-clause-transactions
returns-clause-transactions c =
    let cs = c.args.self.now.clients.items in
    let k = c.args.client in
    let old = c.index_mut-client.result.now in
    let is = c.index_mut-client.ensures.value in
    let lt : k < length cs = omega (arith, c.requires.client, c.args.self.now.sixteen) in
    λ i j. part_same idle transaction_of cs k c.reserve.new.self lt (c.reserve.ensures.transaction ∙ sym (part_here idle transaction_of cs k old lt is)) j i

pub returns-clause-yes : goal.returns-clause-yes
returns-clause-yes c =
    let cs = c.args.self.now.clients.items in
    let k = c.args.client in
    let old = c.index_mut-client.result.now in
    let is = c.index_mut-client.ensures.value in
    let lt : k < length cs = omega (arith, c.requires.client, c.args.self.now.sixteen) in
    λ yes. subst (λ (n : ℕ). 0 < n) (sym (part_set 0 memory_of cs k c.reserve.new.self lt)) (c.reserve.ensures.yes yes)

pub returns-clause-promised : goal.returns-clause-promised
returns-clause-promised c =
    let cs = c.args.self.now.clients.items in
    let k = c.args.client in
    let old = c.index_mut-client.result.now in
    let is = c.index_mut-client.ensures.value in
    let lt : k < length cs = omega (arith, c.requires.client, c.args.self.now.sixteen) in
    λ some. c.reserve.ensures.promised (subst (λ (t : Transaction). 0 < t.room) (part_here idle transaction_of cs k old lt is) some)

pub returns-clause-lists : goal.returns-clause-lists
returns-clause-lists c =
    let cs = c.args.self.now.clients.items in
    let k = c.args.client in
    let old = c.index_mut-client.result.now in
    let is = c.index_mut-client.ensures.value in
    let lt : k < length cs = omega (arith, c.requires.client, c.args.self.now.sixteen) in
    lists_stay cs k old c.reserve.new.self lt is (c.reserve.ensures.same.1) (c.reserve.ensures.same.0)

pub returns-clause-due : goal.returns-clause-due
returns-clause-due c =
    let cs = c.args.self.now.clients.items in
    let k = c.args.client in
    let old = c.index_mut-client.result.now in
    let is = c.index_mut-client.ensures.value in
    let lt : k < length cs = omega (arith, c.requires.client, c.args.self.now.sixteen) in
    (due_stays cs k old c.reserve.new.self lt is (c.reserve.ensures.same.0) (c.reserve.ensures.same.2), due_in_stays cs k old c.reserve.new.self lt is (c.reserve.ensures.same.0) (c.reserve.ensures.same.2))
