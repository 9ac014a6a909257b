use Rattle.std.proofs.Common.{◌≡◌, ◌≢◌, ℕ, ◌<◌, ◌≤◌, ◌+◌, ◌-◌, ◌==◌, ◌||◌, if◌then◌else◌, true, List, [], ◌∷◌, ◌++◌, length, take, drop, slice_set, None, refl, sym, ◌∙◌, ap, subst, arith, length-append}
use Rattle.std.proofs.lemmas.List.{length-set, length-take-le, take-append-drop, append-nil}
use Rattle.storage.specs.declared.slots.Undo.{Undo}
use Rattle.storage.specs.Slots.{Transaction, is_low}
use Rattle.open_transactions.specs.declared.client.Client.{Client}
use Rattle.open_transactions.specs.Written.{has_written}
use Rattle.open_transactions.specs.Clients.{idle, transaction_of, list_of, list_in, due_of, memory_of}
use Rattle.open_transactions.proofs.Parts.{part_here, part_set, part_other, part_same, becomes}
use Rattle.open_transactions.proofs.Lists.{added, apart_more}
use Rattle.open_transactions.proofs.Changed.{others_stay, none_due, written_push}
use Rattle.open_transactions.proofs.transactions.Transactions.add.Goals as goal

pub add-requires-clause-begun : goal.add-requires-clause-begun
add-requires-clause-begun c =
    let cs = c.args.self.now.clients.items in
    let k = c.args.client in
    let old = c.index_mut-client.result.now in
    let is = c.index_mut-client.ensures.value in
    let lt : k < length cs = omega (arith, c.requires.client, c.args.self.now.sixteen) in
    sym (ap (λ (t : Transaction). t.begun) (part_here idle transaction_of cs k old lt is)) ∙ c.requires.begun

-- where nothing is due all writes stand
all_stand : (n : ℕ) (us : List Undo) → n ≤ length us → drop n us ≡ [] → n ≡ length us
all_stand n us le none = omega (arith, le, length-append (take n us) (drop n us), ap (λ (l : List Undo). length l) (take-append-drop n us), ap (λ (l : List Undo). length l) none, length-take-le n us le)

pub add-requires-clause-stand : goal.add-requires-clause-stand
add-requires-clause-stand c =
    let cs = c.args.self.now.clients.items in
    let k = c.args.client in
    let old = c.index_mut-client.result.now in
    let is = c.index_mut-client.ensures.value in
    let lt : k < length cs = omega (arith, c.requires.client, c.args.self.now.sixteen) in
    all_stand old.standing old.undo.items old.stands (sym (part_here [] due_of cs k old lt is) ∙ c.requires.none_due k)

pub add-requires-clause-room : goal.add-requires-clause-room
add-requires-clause-room c =
    let cs = c.args.self.now.clients.items in
    let k = c.args.client in
    let old = c.index_mut-client.result.now in
    let is = c.index_mut-client.ensures.value in
    let lt : k < length cs = omega (arith, c.requires.client, c.args.self.now.sixteen) in
    λ high. subst (λ (n : ℕ). 0 < n) (part_here 0 memory_of cs k old lt is) (c.requires.room high)

pub add-requires-clause-counted : goal.add-requires-clause-counted
add-requires-clause-counted c =
    let cs = c.args.self.now.clients.items in
    let k = c.args.client in
    let old = c.index_mut-client.result.now in
    let is = c.index_mut-client.ensures.value in
    let lt : k < length cs = omega (arith, c.requires.client, c.args.self.now.sixteen) in
    λ high. subst (λ (t : Transaction). t.counted < 7989) (part_here idle transaction_of cs k old lt is) (c.requires.counted high)

pub add-requires-clause-low : goal.add-requires-clause-low
add-requires-clause-low c =
    let cs = c.args.self.now.clients.items in
    let k = c.args.client in
    let old = c.index_mut-client.result.now in
    let is = c.index_mut-client.ensures.value in
    let lt : k < length cs = omega (arith, c.requires.client, c.args.self.now.sixteen) in
    λ low. subst (λ (t : Transaction). t.low < 10) (part_here idle transaction_of cs k old lt is) (c.requires.low low)

more_list : (cs : List Client) (k : ℕ) (old x : Client) (u : Undo) → list_in cs k ≡ old.undo.items → list_in (slice_set cs k x) k ≡ x.undo.items → x.undo.items ≡ old.undo.items ++ u ∷ [] → list_in (slice_set cs k x) k ≡ list_in cs k ++ u ∷ []
more_list cs k old x u here set more = set ∙ more ∙ ap (λ (l : List Undo). l ++ u ∷ []) (sym here)

pub invariant_of-self : goal.invariant_of-self
invariant_of-self c =
    let cs = c.args.self.now.clients.items in
    let k = c.args.client in
    let old = c.index_mut-client.result.now in
    let is = c.index_mut-client.ensures.value in
    let lt : k < length cs = omega (arith, c.requires.client, c.args.self.now.sixteen) in
    record {
      sixteen = length-set cs k c.add.new.self ∙ c.args.self.now.sixteen;
      apart = apart_more list_of cs (slice_set cs k c.add.new.self) k (record { slot = c.args.slot; old = c.args.old.now }) c.args.self.now.apart
          (more_list cs k old c.add.new.self _ (part_here [] list_of cs k old lt is) (part_set [] list_of cs k c.add.new.self lt) c.add.ensures.undo)
          (λ j ne. part_other [] list_of cs k j c.add.new.self ne) c.requires.alone;
    }

-- all of a list
take_all : (n : ℕ) (us : List Undo) → n ≡ length us → take n us ≡ us
take_all n us is = sym (append-nil (take n us)) ∙ ap (λ (l : List Undo). take n us ++ l) (sym (none_left n us is)) ∙ take-append-drop n us
  where
    none_left : (n : ℕ) (us : List Undo) → n ≡ length us → drop n us ≡ []
    none_left n us is = ap (λ (m : ℕ). drop m us) is ∙ past us
      where
        past : (us : List Undo) → drop (length us) us ≡ []
        past [] = refl
        past (u ∷ us) = past us

pub returns-clause-becomes : goal.returns-clause-becomes
returns-clause-becomes c =
    let cs = c.args.self.now.clients.items in
    let k = c.args.client in
    let old = c.index_mut-client.result.now in
    let is = c.index_mut-client.ensures.value in
    let lt : k < length cs = omega (arith, c.requires.client, c.args.self.now.sixteen) in
    let at = part_here idle transaction_of cs k old lt is in
    becomes cs k c.add.new.self true _ _ _ _ _ lt (c.add.ensures.same.0 ∙ sym (ap (λ (t : Transaction). t.begun) at) ∙ c.requires.begun)
    (take_all c.add.new.self.standing c.add.new.self.undo.items c.add.ensures.standing ∙ c.add.ensures.undo
    ∙ ap (λ (l : List Undo). l ++ record { slot = c.args.slot; old = c.args.old.now } ∷ []) (sym (take_all old.standing old.undo.items (all_stand old.standing old.undo.items old.stands (sym (part_here [] due_of cs k old lt is) ∙ c.requires.none_due k))) ∙ sym (ap (λ (t : Transaction). t.undo) at)))
    (λ j. ap (λ (l : List ℕ). has_written l j) c.add.ensures.written ∙ written_push old.written.items c.args.slot j ∙ ap (λ (t : Transaction). (j == c.args.slot) || t.written j) (sym at))
    (c.add.ensures.counted ∙ ap (λ (t : Transaction). if is_low c.args.slot then t.counted else t.counted + 1) (sym at))
    (c.add.ensures.low ∙ ap (λ (t : Transaction). if is_low c.args.slot then t.low + 1 else t.low) (sym at))
    (subst (λ (t : Transaction). t.room - 1 ≤ c.add.new.self.spare) (sym at) c.add.ensures.room)

pub returns-clause-others : goal.returns-clause-others
returns-clause-others c = others_stay c.args.self.now.clients.items c.args.client c.add.new.self

pub returns-clause-number : goal.returns-clause-number
returns-clause-number c =
    let cs = c.args.self.now.clients.items in
    let k = c.args.client in
    let old = c.index_mut-client.result.now in
    let is = c.index_mut-client.ensures.value in
    let lt : k < length cs = omega (arith, c.requires.client, c.args.self.now.sixteen) in
    λ i j. part_same None (λ (x : Client). x.number) cs k c.add.new.self lt (c.add.ensures.same.1 ∙ sym (part_here None (λ (x : Client). x.number) cs k old lt is)) j i

pub returns-clause-none_due : goal.returns-clause-none_due
returns-clause-none_due c =
    let cs = c.args.self.now.clients.items in
    let k = c.args.client in
    let old = c.index_mut-client.result.now in
    let is = c.index_mut-client.ensures.value in
    let lt : k < length cs = omega (arith, c.requires.client, c.args.self.now.sixteen) in
    none_due cs k c.add.new.self lt (none_left c.add.new.self.standing c.add.new.self.undo.items c.add.ensures.standing) c.requires.none_due
  where
    past : (us : List Undo) → drop (length us) us ≡ []
    past [] = refl
    past (u ∷ us) = past us

    none_left : (n : ℕ) (us : List Undo) → n ≡ length us → drop n us ≡ []
    none_left n us is = ap (λ (m : ℕ). drop m us) is ∙ past us

pub returns-clause-list : goal.returns-clause-list
returns-clause-list c =
    let cs = c.args.self.now.clients.items in
    let k = c.args.client in
    let old = c.index_mut-client.result.now in
    let is = c.index_mut-client.ensures.value in
    let lt : k < length cs = omega (arith, c.requires.client, c.args.self.now.sixteen) in
    more_list cs k old c.add.new.self _ (part_here [] list_of cs k old lt is) (part_set [] list_of cs k c.add.new.self lt) c.add.ensures.undo

pub returns-clause-undone : goal.returns-clause-undone
returns-clause-undone c =
    let cs = c.args.self.now.clients.items in
    let k = c.args.client in
    let old = c.index_mut-client.result.now in
    let is = c.index_mut-client.ensures.value in
    let lt : k < length cs = omega (arith, c.requires.client, c.args.self.now.sixteen) in
    let u : Undo = record { slot = c.args.slot; old = c.args.old.now } in
    let more = more_list cs k old c.add.new.self u (part_here [] list_of cs k old lt is) (part_set [] list_of cs k c.add.new.self lt) c.add.ensures.undo in
    let others = λ (j : ℕ) (ne : j ≢ k). part_other [] list_of cs k j c.add.new.self ne in
    added list_of cs (slice_set cs k c.add.new.self) k u (apart_more list_of cs (slice_set cs k c.add.new.self) k u c.args.self.now.apart more others c.requires.alone) more others
