-- The transactions of the clients, and what is promised to them.
use Rattle.std.proofs.Common.{◌≡◌, ◌≢◌, inl, inr, ℕ, zero, suc, ◌+◌, ◌*◌, ◌<◌, ◌≤◌, ◌==◌, ◌||◌, Bool, true, false, List, [], ◌∷◌, ◌++◌, length, slice_index_or, slice_set, refl, sym, ◌∙◌, ap, subst, arith, length-append, take}
use Rattle.std.proofs.lemmas.Bool.{cases_eq, cases_lt}
use Rattle.std.proofs.lemmas.List.{get_or_append_left, get_or_push, get_or-take, length-take}
use Rattle.std.proofs.lemmas.List.Sums.{sum_by-set, sum_by-cons}
use Rattle.std.specs.HashMap.{HashMap}
use Rattle.storage.specs.Slots.{Transaction, Becomes}
use Rattle.storage.specs.declared.slots.Undo.{Undo}
use Rattle.new_database.specs.declared.slots.slot.Slot.{Slot}
use Rattle.new_database.specs.declared.slots.client.Client.{Client}
use Rattle.new_database.specs.slots.Mem.{transaction_of, transaction_in, idle}
use Rattle.new_database.specs.slots.Promised.{promised_to, promised}
use Rattle.new_database.specs.slots.Sparse.{holds, has_written, no_undo, AllHeld}

pub transaction_at : (cs : List Client) (k : ℕ) (x : Client) → k < length cs → x ≡ slice_index_or cs k x → transaction_in cs k ≡ transaction_of x
transaction_at [] k x lt is = absurd (omega arith)
transaction_at (c ∷ cs) zero x lt is = ap transaction_of (sym is)
transaction_at (c ∷ cs) (suc k) x lt is = transaction_at cs k x (omega arith) is

pub transaction_set_same : (cs : List Client) (k : ℕ) (x : Client) → k < length cs → transaction_in (slice_set cs k x) k ≡ transaction_of x
transaction_set_same [] k x lt = absurd (omega arith)
transaction_set_same (c ∷ cs) zero x lt = refl
transaction_set_same (c ∷ cs) (suc k) x lt = transaction_set_same cs k x (omega arith)

pub transaction_set_other : (cs : List Client) (k j : ℕ) (x : Client) → j ≢ k → transaction_in (slice_set cs k x) j ≡ transaction_in cs j
transaction_set_other [] k j x ne = refl
transaction_set_other (c ∷ cs) zero zero x ne = absurd (ne refl)
transaction_set_other (c ∷ cs) zero (suc j) x ne = refl
transaction_set_other (c ∷ cs) (suc k) zero x ne = refl
transaction_set_other (c ∷ cs) (suc k) (suc j) x ne = transaction_set_other cs k j x (λ e. ne (ap suc e))

-- the transaction of one of sixteen clients
pub transaction_of_one : (cs : List Client) (k : ℕ) (x : Client) → length cs ≡ 16 → k < 16 → x ≡ slice_index_or cs k x → transaction_in cs k ≡ transaction_of x
transaction_of_one cs k x sixteen lt is = transaction_at cs k x (omega (arith, sixteen, lt)) is

-- a client that is changed to one that means the same
pub transaction_same : (cs : List Client) (k : ℕ) (x : Client) → k < length cs → transaction_of x ≡ transaction_in cs k → transaction_in (slice_set cs k x) ≡ transaction_in cs
transaction_same cs k x lt is = λ i j. at j i
  where
    at : (j : ℕ) → transaction_in (slice_set cs k x) j ≡ transaction_in cs j
    at j = elim (cases_eq j k) [
      | inl e ↦ subst (λ (n : ℕ). transaction_in (slice_set cs k x) n ≡ transaction_in cs n) (sym e) (transaction_set_same cs k x lt ∙ is)
      | inr ne ↦ transaction_set_other cs k j x ne
    ]

-- a client that is changed to one that means this
pub becomes : (cs : List Client) (k : ℕ) (x : Client) (goes_on : Bool) (writes : List Undo) (touched : ℕ → Bool) (many few more : ℕ) → k < length cs
    → x.begun ≡ goes_on → x.undo.items ≡ writes → ((j : ℕ) → has_written x.written.items j ≡ touched j) → x.counted ≡ many → x.low ≡ few → more ≤ x.spare → Becomes k (transaction_in cs) (transaction_in (slice_set cs k x)) goes_on writes touched many few more
becomes cs k x goes_on writes touched many few more lt begun undo written counted low room =
    let at = transaction_set_same cs k x lt in
    record {
      others = λ j ne. transaction_set_other cs k j x ne;
      begun = ap (λ (t : Transaction). t.begun) at ∙ begun;
      undo = ap (λ (t : Transaction). t.undo) at ∙ undo;
      written = λ j. ap (λ (t : Transaction). t.written j) at ∙ written j;
      counted = ap (λ (t : Transaction). t.counted) at ∙ counted;
      low = ap (λ (t : Transaction). t.low) at ∙ low;
      room = subst (λ (t : Transaction). more ≤ t.room) (sym at) room;
    }

-- each write has its place after a client has changed, where no place went
pub held_set : {S : Type 0} (ss new : HashMap ℕ Slot S) (cs : List Client) (k : ℕ) (x : Client) → k < length cs → ((j : ℕ) → holds ss j ≡ true → holds new j ≡ true)
    → ((j : ℕ) → AllHeld ss (transaction_in cs j).undo) → AllHeld new x.undo.items → (j : ℕ) → AllHeld new (transaction_in (slice_set cs k x) j).undo
held_set ss new cs k x lt more held here j = elim (cases_eq j k) [
  | inl e ↦ subst (λ (n : ℕ). AllHeld new (transaction_in (slice_set cs k x) n).undo) (sym e) (subst (λ (t : Transaction). AllHeld new t.undo) (sym (transaction_set_same cs k x lt)) here)
  | inr ne ↦ subst (λ (t : Transaction). AllHeld new t.undo) (sym (transaction_set_other cs k j x ne)) (λ i il. more _ (held j i il))
]

-- what is promised after a client has changed
pub promised_set : (cs : List Client) (k : ℕ) (old x : Client) → k < length cs → old ≡ slice_index_or cs k old → promised (slice_set cs k x) + promised_to old ≡ promised cs + promised_to x
promised_set cs k old x lt is = ap (λ (c : Client). promised (slice_set cs k x) + promised_to c) is ∙ sum_by-set promised_to cs k x old lt

-- the promises of a client and of the others
promised_cons : (c : Client) (cs : List Client) → promised (c ∷ cs) ≡ promised_to c + promised cs
promised_cons c cs = sum_by-cons promised_to c cs

-- no client is promised more than all are
pub room_within : (cs : List Client) (k : ℕ) → (transaction_in cs k).room ≤ promised cs
room_within [] k = omega arith
room_within (c ∷ cs) zero = let more = promised_cons c cs in omega (arith, more)
room_within (c ∷ cs) (suc k) = let sum = promised_cons c cs in let more = room_within cs k in omega (arith, more, sum)

-- a begun transaction with fewer than ten writes of low slots is promised one more
pub low_within : (cs : List Client) (k : ℕ) → (transaction_in cs k).begun ≡ true → 10 ≤ (transaction_in cs k).low + promised cs
low_within [] k begun = absurd (cc)
low_within (c ∷ cs) zero begun = let sum = promised_cons c cs in let lows = c.lows begun in omega (arith, lows, sum)
low_within (c ∷ cs) (suc k) begun = let sum = promised_cons c cs in let more = low_within cs k begun in omega (arith, more, sum)

-- each client is promised at most 8,000 writes
pub promised_most : (cs : List Client) → promised cs ≤ 8000 * length cs
promised_most [] = omega arith
promised_most (c ∷ cs) = let sum = promised_cons c cs in let more = promised_most cs in omega (arith, more, sum)

-- one client more that has no transaction
pub idle_more : (cs : List Client) (x : Client) → transaction_of x ≡ idle → ((k : ℕ) → transaction_in cs k ≡ idle) → (k : ℕ) → transaction_in (cs ++ x ∷ []) k ≡ idle
idle_more [] x is all zero = is
idle_more [] x is all (suc k) = refl
idle_more (c ∷ cs) x is all zero = all 0
idle_more (c ∷ cs) x is all (suc k) = idle_more cs x is (λ j. all (suc j)) k

-- one write more that has its place
pub held_push : {S : Type 0} (ss : HashMap ℕ Slot S) (us : List Undo) (u : Undo) → AllHeld ss us → holds ss u.slot ≡ true → AllHeld ss (us ++ u ∷ [])
held_push ss us u all here i il = elim (cases_lt i (length us)) [
  | inl lt ↦ subst (λ (w : Undo). holds ss w.slot ≡ true) (sym (get_or_append_left us (u ∷ []) no_undo i lt)) (all i lt)
  | inr le ↦
      let last : i ≡ length us = (let long = length-append us (u ∷ []) in omega (arith, long)) in
      subst (λ (w : Undo). holds ss w.slot ≡ true) (sym (get_or_push us u no_undo i (sym last))) here
]

-- the writes of a front of the list have their places
pub held_take : {S : Type 0} (ss : HashMap ℕ Slot S) (us : List Undo) (n : ℕ) → AllHeld ss us → AllHeld ss (take n us)
held_take ss us n all i il =
    let front : i < n = (let l = length-take n us in omega (arith, l)) in
    let whole : i < length us = (let l = length-take n us in omega (arith, l)) in
    subst (λ (w : Undo). holds ss w.slot ≡ true) (sym (get_or-take n us i no_undo front)) (all i whole)

-- one slot more
pub written_push : (slots : List ℕ) (slot k : ℕ) → has_written (slots ++ slot ∷ []) k ≡ ((k == slot) || has_written slots k)
written_push [] slot k = refl
written_push (s ∷ slots) slot k = ap (λ (b : Bool). (k == s) || b) (written_push slots slot k) ∙ swapped (k == s) (k == slot) (has_written slots k)
  where
    swapped : (a b c : Bool) → (a || (b || c)) ≡ (b || (a || c))
    swapped true true c = refl
    swapped true false c = refl
    swapped false b c = refl

-- the client has no write
pub held_none : {S : Type 0} (ss : HashMap ℕ Slot S) → AllHeld ss []
held_none ss i il = absurd (omega arith)

pub either_way : {P : Type 0} (b : Bool) → (b ≡ true → P) → (b ≡ false → P) → P
either_way true f g = f refl
either_way false f g = g refl
