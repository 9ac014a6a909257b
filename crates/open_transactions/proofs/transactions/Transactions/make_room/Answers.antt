use Rattle.std.proofs.Common.{◌<◌, length, refl, sym, ◌∙◌, ap, arith}
use Rattle.std.proofs.lemmas.List.{length-set}
use Rattle.storage.specs.Slots.{Transaction}
use Rattle.open_transactions.specs.Clients.{idle, transaction_of, transaction_in}
use Rattle.open_transactions.proofs.Parts.{part_here, part_same, becomes_as}
use Rattle.open_transactions.proofs.Changed.{lists_stay, apart_same, due_stays}
use Rattle.open_transactions.proofs.transactions.Transactions.make_room.Goals as goal

pub invariant_of-self : goal.invariant_of-self
invariant_of-self c =
    let cs = c.args.self.now.clients.items in
    let k = c.args.client in
    let old = c.index_mut-client.result.now in
    let is = c.index_mut-client.ensures.value in
    let lt : k < length cs = omega (arith, c.requires.client, c.args.self.now.sixteen) in
    record {
      sixteen = length-set cs k c.make_room.new.self ∙ c.args.self.now.sixteen;
      apart = apart_same cs k old c.make_room.new.self lt is c.make_room.ensures.same.0 c.args.self.now.apart;
    }

pub returns-clause-yes : goal.returns-clause-yes
returns-clause-yes c =
    let cs = c.args.self.now.clients.items in
    let k = c.args.client in
    let old = c.index_mut-client.result.now in
    let is = c.index_mut-client.ensures.value in
    let lt : k < length cs = omega (arith, c.requires.client, c.args.self.now.sixteen) in
    let here = part_here idle transaction_of cs k old lt is in
    λ yes. becomes_as cs k c.make_room.new.self (record (transaction_in cs k) { room = c.args.writes }) (transaction_in cs k).begun c.args.writes lt (c.make_room.ensures.yes yes ∙ sym (ap (λ (t : Transaction). record t { room = c.args.writes }) here)) refl (omega arith)

pub returns-clause-no : goal.returns-clause-no
returns-clause-no c =
    let cs = c.args.self.now.clients.items in
    let k = c.args.client in
    let old = c.index_mut-client.result.now in
    let is = c.index_mut-client.ensures.value in
    let lt : k < length cs = omega (arith, c.requires.client, c.args.self.now.sixteen) in
    λ no. (λ i j. part_same idle transaction_of cs k c.make_room.new.self lt (c.make_room.ensures.no no ∙ sym (part_here idle transaction_of cs k old lt is)) j i)

pub returns-clause-lists : goal.returns-clause-lists
returns-clause-lists c =
    let cs = c.args.self.now.clients.items in
    let k = c.args.client in
    let old = c.index_mut-client.result.now in
    let is = c.index_mut-client.ensures.value in
    let lt : k < length cs = omega (arith, c.requires.client, c.args.self.now.sixteen) in
    lists_stay cs k old c.make_room.new.self lt is (c.make_room.ensures.same.1) (c.make_room.ensures.same.0)

pub returns-clause-due : goal.returns-clause-due
returns-clause-due c =
    let cs = c.args.self.now.clients.items in
    let k = c.args.client in
    let old = c.index_mut-client.result.now in
    let is = c.index_mut-client.ensures.value in
    let lt : k < length cs = omega (arith, c.requires.client, c.args.self.now.sixteen) in
    due_stays cs k old c.make_room.new.self lt is (c.make_room.ensures.same.0) (c.make_room.ensures.same.2)
