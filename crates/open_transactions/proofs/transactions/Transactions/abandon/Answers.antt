use Rattle.std.proofs.Common.{ℕ, ◌<◌, false, List, [], ◌++◌, length, drop, slice_set, refl, sym, ◌∙◌, ap, arith}
use Rattle.std.proofs.lemmas.List.{length-set, take-append-drop}
use Rattle.storage.specs.declared.slots.Undo.{Undo}
use Rattle.storage.specs.Slots.{Transaction}
use Rattle.open_transactions.specs.Clients.{idle, transaction_of, transaction_in, list_of, due_of}
use Rattle.open_transactions.proofs.Parts.{part_here, part_set, part_other, becomes_as}
use Rattle.open_transactions.proofs.Lists.{falls_due}
use Rattle.open_transactions.proofs.Changed.{lists_stay, apart_same, due_within, stands_within}
use Rattle.open_transactions.proofs.transactions.Transactions.abandon.Goals as goal

pub invariant_of-self : goal.invariant_of-self
invariant_of-self c =
    let cs = c.args.self.now.clients.items in
    let k = c.args.client in
    let old = c.index_mut-client.result.now in
    let is = c.index_mut-client.ensures.value in
    let lt : k < length cs = omega (arith, c.requires.client, c.args.self.now.sixteen) in
    record {
      sixteen = length-set cs k c.abandon.new.self ∙ c.args.self.now.sixteen;
      apart = apart_same cs k old c.abandon.new.self lt is c.abandon.ensures.same.1 c.args.self.now.apart;
    }

pub returns-clause-ended : goal.returns-clause-ended
returns-clause-ended c =
    let cs = c.args.self.now.clients.items in
    let k = c.args.client in
    let old = c.index_mut-client.result.now in
    let is = c.index_mut-client.ensures.value in
    let lt : k < length cs = omega (arith, c.requires.client, c.args.self.now.sixteen) in
    becomes_as cs k c.abandon.new.self idle false 0 lt c.abandon.ensures.idle refl (omega arith)

pub returns-clause-lists : goal.returns-clause-lists
returns-clause-lists c =
    let cs = c.args.self.now.clients.items in
    let k = c.args.client in
    let old = c.index_mut-client.result.now in
    let is = c.index_mut-client.ensures.value in
    let lt : k < length cs = omega (arith, c.requires.client, c.args.self.now.sixteen) in
    lists_stay cs k old c.abandon.new.self lt is (c.abandon.ensures.same.2) (c.abandon.ensures.same.1)

pub returns-clause-due : goal.returns-clause-due
returns-clause-due c =
    let cs = c.args.self.now.clients.items in
    let k = c.args.client in
    let old = c.index_mut-client.result.now in
    let is = c.index_mut-client.ensures.value in
    let lt : k < length cs = omega (arith, c.requires.client, c.args.self.now.sixteen) in
    let here = part_here idle transaction_of cs k old lt is in
    falls_due list_of due_of cs (slice_set cs k c.abandon.new.self) k (transaction_in cs k).undo c.args.self.now.apart
    (part_set [] due_of cs k c.abandon.new.self lt ∙ ap (λ (n : ℕ). drop n c.abandon.new.self.undo.items) (c.abandon.ensures.same.0) ∙ c.abandon.ensures.same.1 ∙ sym (take-append-drop old.standing old.undo.items)
    ∙ ap (λ (us : List Undo). us ++ drop old.standing old.undo.items) (sym (ap (λ (t : Transaction). t.undo) here)) ∙ ap (λ (us : List Undo). (transaction_in cs k).undo ++ us) (sym (part_here [] due_of cs k old lt is)))
    (λ j ne. part_other [] due_of cs k j c.abandon.new.self ne)
    (stands_within cs k)
    (due_within cs)
