use Rattle.std.proofs.Common.{◌≡◌, ℕ, ◌<◌, true, false, List, [], ◌∷◌, length, drop, slice_set, None, refl, sym, ◌∙◌, ap, arith, length-drop}
use Rattle.std.proofs.lemmas.List.{length-set}
use Rattle.storage.specs.declared.slots.Undo.{Undo}
use Rattle.storage.specs.Slots.{wrote}
use Rattle.open_transactions.specs.declared.client.Client.{Client}
use Rattle.open_transactions.specs.Clients.{idle, list_of}
use Rattle.open_transactions.proofs.Parts.{part_set, part_other, but_one, becomes_as}
use Rattle.open_transactions.proofs.Lists.{committed, apart_less}
use Rattle.open_transactions.proofs.Changed.{others_stay, none_due}
use Rattle.open_transactions.proofs.transactions.Transactions.commit.Goals as goal

gone : (us : List Undo) (vs : List Undo) (s : ℕ) → us ≡ [] → wrote us s ≡ true → wrote vs s ≡ true
gone us vs s none w = absurd (never_both (sym w ∙ ap (λ (l : List Undo). wrote l s) none))
  where
    never_both : true ≡ false → ⊥
    never_both e = cc

pub invariant_of-self : goal.invariant_of-self
invariant_of-self c =
    let cs = c.args.self.now.clients.items in
    let k = c.args.client in
    let old = c.index_mut-client.result.now in
    let is = c.index_mut-client.ensures.value in
    let lt : k < length cs = omega (arith, c.requires.client, c.args.self.now.sixteen) in
    record {
      sixteen = length-set cs k c.commit.new.self ∙ c.args.self.now.sixteen;
      apart = apart_less list_of cs (slice_set cs k c.commit.new.self) k c.args.self.now.apart (λ s w. gone _ _ s (part_set [] list_of cs k c.commit.new.self lt ∙ c.commit.ensures.none) w) (λ j ne. part_other [] list_of cs k j c.commit.new.self ne);
    }

pub returns-clause-ended : goal.returns-clause-ended
returns-clause-ended c =
    let cs = c.args.self.now.clients.items in
    let k = c.args.client in
    let old = c.index_mut-client.result.now in
    let is = c.index_mut-client.ensures.value in
    let lt : k < length cs = omega (arith, c.requires.client, c.args.self.now.sixteen) in
    becomes_as cs k c.commit.new.self idle false 0 lt c.commit.ensures.idle refl (omega arith)

pub returns-clause-others : goal.returns-clause-others
returns-clause-others c = others_stay c.args.self.now.clients.items c.args.client c.commit.new.self

pub returns-clause-number : goal.returns-clause-number
returns-clause-number c =
    let cs = c.args.self.now.clients.items in
    let k = c.args.client in
    let old = c.index_mut-client.result.now in
    let is = c.index_mut-client.ensures.value in
    let lt : k < length cs = omega (arith, c.requires.client, c.args.self.now.sixteen) in
    part_set None (λ (x : Client). x.number) cs k c.commit.new.self lt ∙ c.commit.ensures.number

pub returns-clause-list : goal.returns-clause-list
returns-clause-list c =
    let cs = c.args.self.now.clients.items in
    let k = c.args.client in
    let old = c.index_mut-client.result.now in
    let is = c.index_mut-client.ensures.value in
    let lt : k < length cs = omega (arith, c.requires.client, c.args.self.now.sixteen) in
    part_set [] list_of cs k c.commit.new.self lt ∙ c.commit.ensures.none

pub returns-clause-lists : goal.returns-clause-lists
returns-clause-lists c =
    let cs = c.args.self.now.clients.items in
    let k = c.args.client in
    let old = c.index_mut-client.result.now in
    let is = c.index_mut-client.ensures.value in
    let lt : k < length cs = omega (arith, c.requires.client, c.args.self.now.sixteen) in
    but_one cs k c.commit.new.self lt c.commit.ensures.none

no_items : (l : List Undo) → length l ≡ 0 → l ≡ []
no_items [] is = refl
no_items (x ∷ l) is = absurd (omega (arith, is))

drop_none : (n : ℕ) (us : List Undo) → us ≡ [] → drop n us ≡ []
drop_none n us is = no_items (drop n us) (omega (arith, length-drop n us, ap (λ (l : List Undo). length l) is))

pub returns-clause-none_due : goal.returns-clause-none_due
returns-clause-none_due c =
    let cs = c.args.self.now.clients.items in
    let k = c.args.client in
    let old = c.index_mut-client.result.now in
    let is = c.index_mut-client.ensures.value in
    let lt : k < length cs = omega (arith, c.requires.client, c.args.self.now.sixteen) in
    λ none. none_due cs k c.commit.new.self lt (drop_none _ _ c.commit.ensures.none) none

pub returns-clause-joined : goal.returns-clause-joined
returns-clause-joined c =
    let cs = c.args.self.now.clients.items in
    let k = c.args.client in
    let old = c.index_mut-client.result.now in
    let is = c.index_mut-client.ensures.value in
    let lt : k < length cs = omega (arith, c.requires.client, c.args.self.now.sixteen) in
    committed list_of cs (slice_set cs k c.commit.new.self) k c.args.self.now.apart (part_set [] list_of cs k c.commit.new.self lt ∙ c.commit.ensures.none) (λ j ne. part_other [] list_of cs k j c.commit.new.self ne)
