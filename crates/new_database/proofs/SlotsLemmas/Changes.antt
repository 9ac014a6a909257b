-- A call that changes one client and slots: the type's invariant after it, and what the slots then mean.
use Rattle.std.proofs.Common.{◌≡◌, ℕ, ◌+◌, ◌<◌, ◌≤◌, Bool, true, false, List, length, drop, slice_index_or, slice_set, sym, ◌∙◌, ap, subst, refl, arith, nat_eq, is_some, BuildHasherDefault, FoldHasher}
use Rattle.std.proofs.lemmas.List.{length-set}
use Rattle.std.specs.HashMap.{HashMap, spare, get}
use Rattle.storage.specs.Slots.{Transaction, Becomes, KeepsCommitted, Rests, undone}
use Rattle.new_database.specs.declared.slots.slot.Slot.{Slot}
use Rattle.new_database.specs.declared.slots.client.Client.{Client}
use Rattle.new_database.specs.declared.slots.mem_slots.MemSlots.{MemSlots}
use Rattle.new_database.specs.slots.Mem.{transaction_of, transaction_in, idle, state_of}
use Rattle.new_database.specs.slots.Promised.{promised_to, promised}
use Rattle.new_database.specs.slots.Sparse.{part_of, slot_in, committed_in, holds, AllHeld}
use Rattle.new_database.proofs.SlotsLemmas.Clients.{transaction_of_one, transaction_same, becomes, held_set, promised_set, held_none}

-- the type's invariant, in terms of the slots and the clients
abbrev pub Stands : {S : Type 0} → HashMap ℕ Slot S → List Client → ℕ → Type 0
Stands ss cs end = record {
  sixteen : length cs ≡ 16;
  has_room : promised cs ≤ spare ss;
  held : (k : ℕ) → AllHeld ss (transaction_in cs k).undo;
  small : end ≤ 1048576;
  blank : (k : ℕ) → end ≤ k → holds ss k ≡ false;
}

-- a client's writes have their places if the writes of the transaction that it represents do
pub held_as : {S : Type 0} (ss : HashMap ℕ Slot S) (x : Client) {t : Transaction} → transaction_of x ≡ t → AllHeld ss t.undo → AllHeld ss x.undo.items
held_as ss x meaning held = subst (λ (u : Transaction). AllHeld ss u.undo) (sym meaning) held

-- a client without a transaction has no write
pub held_idle : {S : Type 0} (ss : HashMap ℕ Slot S) (x : Client) → transaction_of x ≡ idle → AllHeld ss x.undo.items
held_idle ss x meaning = held_as ss x meaning (held_none ss)

-- two functions of numbers are the same if they agree at each
pub as_one : {A : Type 0} {f g : ℕ → A} → ((k : ℕ) → f k ≡ g k) → f ≡ g
as_one same = λ i k. same k i

-- the same slots in another order
module _ {S : Type 0} (ss new : HashMap ℕ Slot S) (same : (q : ℕ) → get nat_eq new q ≡ get nat_eq ss q) where
  pub same_reads : (j : ℕ) → slot_in new j ≡ slot_in ss j
  same_reads j = ap (part_of (λ (s : Slot). s.now)) (same j)

  pub same_committed : (j : ℕ) → committed_in new j ≡ committed_in ss j
  same_committed j = ap (part_of (λ (s : Slot). s.committed)) (same j)

  pub same_places : (j : ℕ) → holds new j ≡ holds ss j
  same_places j = ap is_some (same j)

-- one of the clients of slots in memory
module _ (s : MemSlots) {k : ℕ} {old : Client} (lt : k < 16) (is : old ≡ slice_index_or s.clients.items k old) where
  -- it represents the transaction of its number
  pub here : transaction_in s.clients.items k ≡ transaction_of old
  here = transaction_of_one s.clients.items k old s.sixteen lt is

  -- each write of the client has its place
  pub held_here : AllHeld s.slots old.undo.items
  held_here = subst (λ (t : Transaction). AllHeld s.slots t.undo) here (s.held k)

  -- the client represents this transaction
  pub becomes_one : (x : Client) (t : Transaction) (goes_on : Bool) (more : ℕ) → transaction_of x ≡ t → t.begun ≡ goes_on → more ≤ t.room
      → Becomes k (transaction_in s.clients.items) (transaction_in (slice_set s.clients.items k x)) goes_on t.undo t.written t.counted t.low more
  becomes_one x t goes_on more meaning begun room =
      becomes s.clients.items k x goes_on t.undo t.written t.counted t.low more (omega (arith, s.sixteen, lt))
      (ap (λ (u : Transaction). u.begun) meaning ∙ begun) (ap (λ (u : Transaction). u.undo) meaning) (λ j. ap (λ (u : Transaction). u.written j) meaning) (ap (λ (u : Transaction). u.counted) meaning) (ap (λ (u : Transaction). u.low) meaning)
      (subst (λ (u : Transaction). more ≤ u.room) (sym meaning) room)

  -- where other slots are there
  module _ (new : HashMap ℕ Slot (BuildHasherDefault FoldHasher)) where
    -- the invariant holds if no place is lost, each write of the client has one, there is memory for what it was promised more, and there is no
    -- place from the end on
    pub stands : (x : Client) (end : ℕ) → ((j : ℕ) → holds s.slots j ≡ true → holds new j ≡ true) → (AllHeld new old.undo.items → AllHeld new x.undo.items) → promised s.clients.items + promised_to x ≤ spare new + promised_to old
        → end ≤ 1048576 → ((j : ℕ) → end ≤ j → holds new j ≡ false) → Stands new (slice_set s.clients.items k x) end
    stands x end more held fits small blank =
        let within : k < length s.clients.items = omega (arith, s.sixteen, lt) in
        let sum = promised_set s.clients.items k old x within is in
        record {
          sixteen = length-set s.clients.items k x ∙ s.sixteen;
          has_room = omega (arith, sum, fits);
          held = held_set s.slots new s.clients.items k x within more s.held (held (λ i il. more _ (held_here i il)));
          small = small;
          blank = blank;
        }

    -- the same where the places are the same
    pub stands_there : (x : Client) → ((j : ℕ) → holds new j ≡ holds s.slots j) → (AllHeld new old.undo.items → AllHeld new x.undo.items) → promised s.clients.items + promised_to x ≤ spare new + promised_to old
        → Stands new (slice_set s.clients.items k x) s.end
    stands_there x same held fits = stands x s.end (λ j h. same j ∙ h) held fits s.small (λ j le. same j ∙ s.blank j le)

    -- the same where the client is promised no more besides
    pub stands_same : (x : Client) → ((j : ℕ) → holds new j ≡ holds s.slots j) → (AllHeld new old.undo.items → AllHeld new x.undo.items) → promised_to x ≤ promised_to old → spare new ≡ spare s.slots
        → Stands new (slice_set s.clients.items k x) s.end
    stands_same x same held fits room = stands_there x same held (omega (arith, fits, room, s.has_room))

    -- what is committed stays
    pub keeps : (cs : List Client) → ((j : ℕ) → committed_in new j ≡ committed_in s.slots j) → KeepsCommitted (state_of s.slots s.clients.items) (state_of new cs)
    keeps cs same = record { observable = refl; committed = λ _. as_one same; doubt = λ _. as_one same }

    -- nothing changes if the client represents the same transaction
    pub rests : (x : Client) → ((j : ℕ) → slot_in new j ≡ slot_in s.slots j) → ((j : ℕ) → committed_in new j ≡ committed_in s.slots j) → transaction_of x ≡ transaction_of old
        → Rests (state_of s.slots s.clients.items) (state_of new (slice_set s.clients.items k x))
    rests x reads committed meaning = record {
      keeps = keeps (slice_set s.clients.items k x) committed;
      reads = λ _. as_one reads;
      transaction = transaction_same s.clients.items k x (omega (arith, s.sixteen, lt)) (meaning ∙ sym here);
    }

    -- what reads return after the client's writes since a mark were undone
    pub reads_back : (mark : ℕ) → ((j : ℕ) → slot_in new j ≡ undone (drop mark old.undo.items) (slot_in s.slots) j)
        → slot_in new ≡ undone (drop mark (transaction_in s.clients.items k).undo) (slot_in s.slots)
    reads_back mark reads = as_one reads ∙ sym (ap (λ (t : Transaction). undone (drop mark t.undo) (slot_in s.slots)) here)
