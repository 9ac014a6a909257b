use Rattle.std.proofs.Common.{◌≡◌, ℕ, zero, suc, ◌<◌, ◌≤◌, true, List, [], ◌∷◌, ◌++◌, length, take, drop, slice_set, None, sym, ◌∙◌, ap, arith, length-append}
use Rattle.std.proofs.lemmas.List.{length-set, length-take-le, take-append-le, drop-append-le}
use Rattle.storage.specs.declared.slots.Undo.{Undo}
use Rattle.storage.specs.Slots.{Transaction, wrote}
use Rattle.open_transactions.specs.declared.client.Client.{Client}
use Rattle.open_transactions.specs.Written.{has_written}
use Rattle.open_transactions.specs.Clients.{idle, transaction_of, list_of, list_in, due_of, lists}
use Rattle.open_transactions.proofs.Parts.{part_here, part_set, part_other, part_same}
use Rattle.open_transactions.proofs.Lists.{popped, apart_less}
use Rattle.open_transactions.proofs.Changed.{others_stay, due_within, wrote_front}
use Rattle.open_transactions.proofs.transactions.Transactions.pop.Goals as goal

pub pop-requires : goal.pop-requires
pop-requires c =
    let cs = c.args.self.now.clients.items in
    let k = c.args.client in
    let old = c.index_mut-client.result.now in
    let is = c.index_mut-client.ensures.value in
    let lt : k < length cs = omega (arith, c.requires.client, c.args.self.now.sixteen) in
    let within = c.requires.due in
    let long = ap (λ (t : Transaction). length t.undo) (part_here idle transaction_of cs k old lt is) in
    let stands = length-take-le old.standing old.undo.items old.stands in
    let all = ap (λ (l : List Undo). length l) (part_here [] list_of cs k old lt is) in
    omega (arith, within, long, stands, all)

-- what is left is long enough for what stands
left : (us : List Undo) (u : Undo) (whole : List Undo) (n : ℕ) → whole ≡ us ++ u ∷ [] → n < length whole → n ≤ length us
left us u whole n is lt = omega (arith, lt, ap (λ (l : List Undo). length l) is, length-append us (u ∷ []))

same_stand : (us : List Undo) (u : Undo) (whole : List Undo) (n : ℕ) → whole ≡ us ++ u ∷ [] → n ≤ length us → take n us ≡ take n whole
same_stand us u whole n is le = sym (take-append-le n us (u ∷ []) le) ∙ ap (take n) (sym is)

less_due : (us : List Undo) (u : Undo) (whole : List Undo) (n : ℕ) → whole ≡ us ++ u ∷ [] → n ≤ length us → drop n whole ≡ drop n us ++ u ∷ []
less_due us u whole n is le = ap (drop n) is ∙ drop-append-le n us (u ∷ []) le

shorter : (us : List Undo) (u : Undo) (whole : List Undo) (s : ℕ) → whole ≡ us ++ u ∷ [] → wrote us s ≡ true → wrote whole s ≡ true
shorter us u whole s is w = ap (λ (l : List Undo). wrote l s) is ∙ wrote_front us u s w

pub invariant_of-self : goal.invariant_of-self
invariant_of-self c =
    let cs = c.args.self.now.clients.items in
    let k = c.args.client in
    let old = c.index_mut-client.result.now in
    let is = c.index_mut-client.ensures.value in
    let lt : k < length cs = omega (arith, c.requires.client, c.args.self.now.sixteen) in
    record {
      sixteen = length-set cs k c.pop.new.self ∙ c.args.self.now.sixteen;
      apart = apart_less list_of cs (slice_set cs k c.pop.new.self) k c.args.self.now.apart
          (λ s w. ap (λ (l : List Undo). wrote l s) (part_here [] list_of cs k old lt is) ∙ shorter c.pop.new.self.undo.items c.pop.result old.undo.items s c.pop.ensures.undo (sym (ap (λ (l : List Undo). wrote l s) (part_set [] list_of cs k c.pop.new.self lt)) ∙ w))
          (λ j ne. part_other [] list_of cs k j c.pop.new.self ne);
    }

pub returns-clause-list : goal.returns-clause-list
returns-clause-list c =
    let cs = c.args.self.now.clients.items in
    let k = c.args.client in
    let old = c.index_mut-client.result.now in
    let is = c.index_mut-client.ensures.value in
    let lt : k < length cs = omega (arith, c.requires.client, c.args.self.now.sixteen) in
    part_here [] list_of cs k old lt is ∙ c.pop.ensures.undo ∙ ap (λ (l : List Undo). l ++ c.pop.result ∷ []) (sym (part_set [] list_of cs k c.pop.new.self lt))

pub returns-clause-others : goal.returns-clause-others
returns-clause-others c = others_stay c.args.self.now.clients.items c.args.client c.pop.new.self

-- the transaction is what it was
same_transaction : (old new : Client) → new.begun ≡ old.begun → take new.standing new.undo.items ≡ take old.standing old.undo.items → new.written.items ≡ old.written.items → new.counted ≡ old.counted → new.low ≡ old.low → new.spare ≡ old.spare → transaction_of new ≡ transaction_of old
same_transaction old new begun undo written counted low spare = λ i. record { begun = begun i; undo = undo i; written = has_written (written i); counted = counted i; low = low i; room = spare i }

pub returns-clause-transactions : goal.returns-clause-transactions
returns-clause-transactions c =
    let cs = c.args.self.now.clients.items in
    let k = c.args.client in
    let old = c.index_mut-client.result.now in
    let is = c.index_mut-client.ensures.value in
    let lt : k < length cs = omega (arith, c.requires.client, c.args.self.now.sixteen) in
    let within : old.standing < length old.undo.items = (let w = c.requires.due in let long = ap (λ (t : Transaction). length t.undo) (part_here idle transaction_of cs k old lt is) in let stands = length-take-le old.standing old.undo.items old.stands in let all = ap (λ (l : List Undo). length l) (part_here [] list_of cs k old lt is) in omega (arith, w, long, stands, all)) in
    let le = left c.pop.new.self.undo.items c.pop.result old.undo.items old.standing c.pop.ensures.undo within in
    λ i j. part_same idle transaction_of cs k c.pop.new.self lt
    (same_transaction old c.pop.new.self (c.pop.ensures.same.0) (ap (λ (n : ℕ). take n c.pop.new.self.undo.items) (c.pop.ensures.same.2) ∙ same_stand c.pop.new.self.undo.items c.pop.result old.undo.items old.standing c.pop.ensures.undo le) (c.pop.ensures.same.3) (c.pop.ensures.counts.0) (c.pop.ensures.counts.1) (c.pop.ensures.counts.2)
    ∙ sym (part_here idle transaction_of cs k old lt is)) j i

pub returns-clause-number : goal.returns-clause-number
returns-clause-number c =
    let cs = c.args.self.now.clients.items in
    let k = c.args.client in
    let old = c.index_mut-client.result.now in
    let is = c.index_mut-client.ensures.value in
    let lt : k < length cs = omega (arith, c.requires.client, c.args.self.now.sixteen) in
    λ i j. part_same None (λ (x : Client). x.number) cs k c.pop.new.self lt (c.pop.ensures.same.1 ∙ sym (part_here None (λ (x : Client). x.number) cs k old lt is)) j i

pub returns-clause-undone : goal.returns-clause-undone
returns-clause-undone c =
    let cs = c.args.self.now.clients.items in
    let k = c.args.client in
    let old = c.index_mut-client.result.now in
    let is = c.index_mut-client.ensures.value in
    let lt : k < length cs = omega (arith, c.requires.client, c.args.self.now.sixteen) in
    popped list_of cs (slice_set cs k c.pop.new.self) k c.pop.new.self.undo.items c.pop.result c.args.self.now.apart (part_here [] list_of cs k old lt is ∙ c.pop.ensures.undo) (part_set [] list_of cs k c.pop.new.self lt) (λ j ne. part_other [] list_of cs k j c.pop.new.self ne)

pub returns-clause-due_undone : goal.returns-clause-due_undone
returns-clause-due_undone c =
    let cs = c.args.self.now.clients.items in
    let k = c.args.client in
    let old = c.index_mut-client.result.now in
    let is = c.index_mut-client.ensures.value in
    let lt : k < length cs = omega (arith, c.requires.client, c.args.self.now.sixteen) in
    let within : old.standing < length old.undo.items = (let w = c.requires.due in let long = ap (λ (t : Transaction). length t.undo) (part_here idle transaction_of cs k old lt is) in let stands = length-take-le old.standing old.undo.items old.stands in let all = ap (λ (l : List Undo). length l) (part_here [] list_of cs k old lt is) in omega (arith, w, long, stands, all)) in
    let le = left c.pop.new.self.undo.items c.pop.result old.undo.items old.standing c.pop.ensures.undo within in
    popped due_of cs (slice_set cs k c.pop.new.self) k (drop old.standing c.pop.new.self.undo.items) c.pop.result
    (λ a b s v w. c.args.self.now.apart a b s (due_within cs a s v) (due_within cs b s w))
    (part_here [] due_of cs k old lt is ∙ less_due c.pop.new.self.undo.items c.pop.result old.undo.items old.standing c.pop.ensures.undo le)
    (part_set [] due_of cs k c.pop.new.self lt ∙ ap (λ (n : ℕ). drop n c.pop.new.self.undo.items) (c.pop.ensures.same.2))
    (λ j ne. part_other [] due_of cs k j c.pop.new.self ne)

-- a list shorter by one
fewer : (cs : List Client) (k : ℕ) (x : Client) → k < length cs → length x.undo.items < length (list_in cs k) → length (lists (slice_set cs k x)) < length (lists cs)
fewer [] k x lt less = absurd (omega (arith, lt))
fewer (c ∷ cs) zero x lt less = omega (arith, less, length-append x.undo.items (lists cs), length-append c.undo.items (lists cs))
fewer (c ∷ cs) (suc k) x lt less = let rest = fewer cs k x (omega (arith, lt)) less in omega (arith, rest, length-append c.undo.items (lists (slice_set cs k x)), length-append c.undo.items (lists cs))

pub returns-clause-fewer : goal.returns-clause-fewer
returns-clause-fewer c =
    let cs = c.args.self.now.clients.items in
    let k = c.args.client in
    let old = c.index_mut-client.result.now in
    let is = c.index_mut-client.ensures.value in
    let lt : k < length cs = omega (arith, c.requires.client, c.args.self.now.sixteen) in
    fewer cs k c.pop.new.self lt (omega (arith, ap (λ (l : List Undo). length l) (part_here [] list_of cs k old lt is ∙ c.pop.ensures.undo), length-append c.pop.new.self.undo.items (c.pop.result ∷ [])))
