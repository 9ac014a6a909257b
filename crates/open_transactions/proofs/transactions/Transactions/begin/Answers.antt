use Rattle.std.proofs.Common.{◌≡◌, ℕ, ◌<◌, true, List, [], ◌∷◌, length, drop, None, refl, sym, ◌∙◌, ap, arith, length-drop}
use Rattle.std.proofs.lemmas.List.{length-set}
use Rattle.storage.specs.declared.slots.Undo.{Undo}
use Rattle.storage.specs.Slots.{Transaction}
use Rattle.open_transactions.specs.declared.client.Client.{Client}
use Rattle.open_transactions.specs.Clients.{idle, transaction_of, list_of, list_in, due_of}
use Rattle.open_transactions.proofs.Parts.{part_here, part_set, part_same, flat_same, becomes_as}
use Rattle.open_transactions.proofs.Changed.{others_stay, apart_same, none_due}
use Rattle.open_transactions.proofs.transactions.Transactions.begin.Goals as goal

pub begin-requires-clause-none : goal.begin-requires-clause-none
begin-requires-clause-none c =
    let cs = c.args.self.now.clients.items in
    let k = c.args.client in
    let old = c.index_mut-client.result.now in
    let is = c.index_mut-client.ensures.value in
    let lt : k < length cs = omega (arith, c.requires.client, c.args.self.now.sixteen) in
    sym (part_here [] list_of cs k old lt is) ∙ c.requires.none

pub begin-requires-clause-ended : goal.begin-requires-clause-ended
begin-requires-clause-ended c =
    let cs = c.args.self.now.clients.items in
    let k = c.args.client in
    let old = c.index_mut-client.result.now in
    let is = c.index_mut-client.ensures.value in
    let lt : k < length cs = omega (arith, c.requires.client, c.args.self.now.sixteen) in
    sym (ap (λ (t : Transaction). t.begun) (part_here idle transaction_of cs k old lt is)) ∙ c.requires.idle

pub invariant_of-self : goal.invariant_of-self
invariant_of-self c =
    let cs = c.args.self.now.clients.items in
    let k = c.args.client in
    let old = c.index_mut-client.result.now in
    let is = c.index_mut-client.ensures.value in
    let lt : k < length cs = omega (arith, c.requires.client, c.args.self.now.sixteen) in
    record {
      sixteen = length-set cs k c.begin.new.self ∙ c.args.self.now.sixteen;
      apart = apart_same cs k old c.begin.new.self lt is (c.begin.ensures.none ∙ sym (sym (part_here [] list_of cs k old lt is) ∙ c.requires.none)) c.args.self.now.apart;
    }

pub returns-clause-yes : goal.returns-clause-yes
returns-clause-yes c =
    let cs = c.args.self.now.clients.items in
    let k = c.args.client in
    let old = c.index_mut-client.result.now in
    let is = c.index_mut-client.ensures.value in
    let lt : k < length cs = omega (arith, c.requires.client, c.args.self.now.sixteen) in
    λ yes. becomes_as cs k c.begin.new.self _ true 0 lt (c.begin.ensures.yes yes) refl (omega arith)

pub returns-clause-number : goal.returns-clause-number
returns-clause-number c =
    let cs = c.args.self.now.clients.items in
    let k = c.args.client in
    let old = c.index_mut-client.result.now in
    let is = c.index_mut-client.ensures.value in
    let lt : k < length cs = omega (arith, c.requires.client, c.args.self.now.sixteen) in
    λ yes. part_set None (λ (x : Client). x.number) cs k c.begin.new.self lt ∙ c.begin.ensures.number yes

pub returns-clause-no : goal.returns-clause-no
returns-clause-no c =
    let cs = c.args.self.now.clients.items in
    let k = c.args.client in
    let old = c.index_mut-client.result.now in
    let is = c.index_mut-client.ensures.value in
    let lt : k < length cs = omega (arith, c.requires.client, c.args.self.now.sixteen) in
    λ no. (
      (λ i j. part_same idle transaction_of cs k c.begin.new.self lt (c.begin.ensures.no no ∙ sym (part_here idle transaction_of cs k old lt is)) j i),
      (λ i j. part_same None (λ (x : Client). x.number) cs k c.begin.new.self lt (c.begin.ensures.same no ∙ sym (part_here None (λ (x : Client). x.number) cs k old lt is)) j i),
    )

pub returns-clause-others : goal.returns-clause-others
returns-clause-others c = others_stay c.args.self.now.clients.items c.args.client c.begin.new.self

pub returns-clause-lists : goal.returns-clause-lists
returns-clause-lists c =
    let cs = c.args.self.now.clients.items in
    let k = c.args.client in
    let old = c.index_mut-client.result.now in
    let is = c.index_mut-client.ensures.value in
    let lt : k < length cs = omega (arith, c.requires.client, c.args.self.now.sixteen) in
    let none : c.begin.new.self.undo.items ≡ list_in cs k = c.begin.ensures.none ∙ sym c.requires.none in
    ((λ i j. part_same [] list_of cs k c.begin.new.self lt none j i), flat_same list_of cs k c.begin.new.self lt none)

no_items : (l : List Undo) → length l ≡ 0 → l ≡ []
no_items [] is = refl
no_items (x ∷ l) is = absurd (omega (arith, is))

drop_none : (n : ℕ) (us : List Undo) → us ≡ [] → drop n us ≡ []
drop_none n us is = no_items (drop n us) (omega (arith, length-drop n us, ap (λ (l : List Undo). length l) is))

pub returns-clause-due : goal.returns-clause-due
returns-clause-due c =
    let cs = c.args.self.now.clients.items in
    let k = c.args.client in
    let old = c.index_mut-client.result.now in
    let is = c.index_mut-client.ensures.value in
    let lt : k < length cs = omega (arith, c.requires.client, c.args.self.now.sixteen) in
    flat_same due_of cs k c.begin.new.self lt (drop_none _ _ c.begin.ensures.none ∙ sym (part_here [] due_of cs k old lt is ∙ drop_none _ _ (sym (part_here [] list_of cs k old lt is) ∙ c.requires.none)))

pub returns-clause-none_due : goal.returns-clause-none_due
returns-clause-none_due c =
    let cs = c.args.self.now.clients.items in
    let k = c.args.client in
    let old = c.index_mut-client.result.now in
    let is = c.index_mut-client.ensures.value in
    let lt : k < length cs = omega (arith, c.requires.client, c.args.self.now.sixteen) in
    λ none. none_due cs k c.begin.new.self lt (drop_none _ _ c.begin.ensures.none) none
