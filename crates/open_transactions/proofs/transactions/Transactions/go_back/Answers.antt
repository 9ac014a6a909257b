use Rattle.std.proofs.Common.{◌≡◌, ℕ, ◌<◌, ◌≤◌, List, [], ◌++◌, length, take, drop, slice_set, refl, sym, ◌∙◌, ap, arith}
use Rattle.std.proofs.lemmas.List.{length-set, length-take-le, take-append-le, drop-append-le, take-append-drop}
use Rattle.storage.specs.declared.slots.Undo.{Undo}
use Rattle.storage.specs.Slots.{Transaction}
use Rattle.open_transactions.specs.Clients.{idle, transaction_of, transaction_in, list_of, due_of}
use Rattle.open_transactions.proofs.Parts.{part_here, part_set, part_other, becomes_as}
use Rattle.open_transactions.proofs.Lists.{falls_due}
use Rattle.open_transactions.proofs.Changed.{lists_stay, apart_same, due_within, stands_within, drop_within}
use Rattle.open_transactions.proofs.transactions.Transactions.go_back.Goals as goal

pub go_back-requires : goal.go_back-requires
go_back-requires c =
    let cs = c.args.self.now.clients.items in
    let k = c.args.client in
    let old = c.index_mut-client.result.now in
    let is = c.index_mut-client.ensures.value in
    let lt : k < length cs = omega (arith, c.requires.client, c.args.self.now.sixteen) in
    let within = c.requires.stand in
    let long = ap (λ (t : Transaction). length t.undo) (part_here idle transaction_of cs k old lt is) in
    let stands = length-take-le old.standing old.undo.items old.stands in
    omega (arith, within, long, stands)

pub invariant_of-self : goal.invariant_of-self
invariant_of-self c =
    let cs = c.args.self.now.clients.items in
    let k = c.args.client in
    let old = c.index_mut-client.result.now in
    let is = c.index_mut-client.ensures.value in
    let lt : k < length cs = omega (arith, c.requires.client, c.args.self.now.sixteen) in
    record {
      sixteen = length-set cs k c.go_back.new.self ∙ c.args.self.now.sixteen;
      apart = apart_same cs k old c.go_back.new.self lt is c.go_back.ensures.same.0 c.args.self.now.apart;
    }

-- a front of a front
take_take : {A : Type 0} (m n : ℕ) (us : List A) → m ≤ n → n ≤ length us → take m (take n us) ≡ take m us
take_take m n us le long = sym (take-append-le m (take n us) (drop n us) (omega (arith, le, length-take-le n us long))) ∙ ap (take m) (take-append-drop n us)

drop_take : {A : Type 0} (m n : ℕ) (us : List A) → m ≤ n → n ≤ length us → drop m us ≡ drop m (take n us) ++ drop n us
drop_take m n us le long = ap (drop m) (sym (take-append-drop n us)) ∙ drop-append-le m (take n us) (drop n us) (omega (arith, le, length-take-le n us long))

pub returns-clause-becomes : goal.returns-clause-becomes
returns-clause-becomes c =
    let cs = c.args.self.now.clients.items in
    let k = c.args.client in
    let old = c.index_mut-client.result.now in
    let is = c.index_mut-client.ensures.value in
    let lt : k < length cs = omega (arith, c.requires.client, c.args.self.now.sixteen) in
    let here = part_here idle transaction_of cs k old lt is in
    let within : c.args.stand ≤ old.standing = (let w = c.requires.stand in let long = ap (λ (t : Transaction). length t.undo) here in let stands = length-take-le old.standing old.undo.items old.stands in omega (arith, w, long, stands)) in
    becomes_as cs k c.go_back.new.self (record (transaction_in cs k) { undo = take c.args.stand (transaction_in cs k).undo }) (transaction_in cs k).begun (transaction_in cs k).room lt
    (c.go_back.ensures.transaction ∙ ap (λ (us : List Undo). record (transaction_of old) { undo = us }) (sym (take_take c.args.stand old.standing old.undo.items within old.stands)) ∙ sym (ap (λ (t : Transaction). record t { undo = take c.args.stand t.undo }) here)) refl (omega arith)

pub returns-clause-lists : goal.returns-clause-lists
returns-clause-lists c =
    let cs = c.args.self.now.clients.items in
    let k = c.args.client in
    let old = c.index_mut-client.result.now in
    let is = c.index_mut-client.ensures.value in
    let lt : k < length cs = omega (arith, c.requires.client, c.args.self.now.sixteen) in
    lists_stay cs k old c.go_back.new.self lt is (c.go_back.ensures.same.1) (c.go_back.ensures.same.0)

pub returns-clause-due : goal.returns-clause-due
returns-clause-due c =
    let cs = c.args.self.now.clients.items in
    let k = c.args.client in
    let old = c.index_mut-client.result.now in
    let is = c.index_mut-client.ensures.value in
    let lt : k < length cs = omega (arith, c.requires.client, c.args.self.now.sixteen) in
    let here = part_here idle transaction_of cs k old lt is in
    let within : c.args.stand ≤ old.standing = (let w = c.requires.stand in let long = ap (λ (t : Transaction). length t.undo) here in let stands = length-take-le old.standing old.undo.items old.stands in omega (arith, w, long, stands)) in
    falls_due list_of due_of cs (slice_set cs k c.go_back.new.self) k (drop c.args.stand (transaction_in cs k).undo) c.args.self.now.apart
    (part_set [] due_of cs k c.go_back.new.self lt ∙ ap (λ (n : ℕ). drop n c.go_back.new.self.undo.items) (c.go_back.ensures.same.2) ∙ ap (drop c.args.stand) (c.go_back.ensures.same.0) ∙ drop_take c.args.stand old.standing old.undo.items within old.stands
    ∙ ap (λ (us : List Undo). us ++ drop old.standing old.undo.items) (sym (ap (λ (t : Transaction). drop c.args.stand t.undo) here)) ∙ ap (λ (us : List Undo). drop c.args.stand (transaction_in cs k).undo ++ us) (sym (part_here [] due_of cs k old lt is)))
    (λ j ne. part_other [] due_of cs k j c.go_back.new.self ne)
    (λ s w. stands_within cs k s (drop_within c.args.stand (transaction_in cs k).undo s w))
    (due_within cs)
