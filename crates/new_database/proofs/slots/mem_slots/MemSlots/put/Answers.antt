use Rattle.std.proofs.Common.{◌≡◌, ◌≤◌, ◌<◌, ◌∙◌, ◌+◌, ◌-◌, ◌==◌, ◌||◌, if◌then◌else◌, ℕ, List, Bool, true, false, [], ◌∷◌, ◌++◌, sym, ap, subst, refl, arith}
use Rattle.storage.specs.Slots.{Transaction, is_low}
use Rattle.storage.specs.declared.slots.Undo.{Undo}
use Rattle.new_database.specs.declared.slots.client.Client.{Client}
use Rattle.new_database.specs.slots.Mem.{transaction_in}
use Rattle.new_database.specs.slots.Promised.{promised}
use Rattle.new_database.specs.slots.Sparse.{slot_in, holds, has_written, AllHeld}
use Rattle.new_database.proofs.SlotsLemmas.Places.{put_at}
use Rattle.new_database.proofs.SlotsLemmas.Clients.{becomes, written_push, held_push, room_within, low_within}
use Rattle.new_database.proofs.SlotsLemmas.Changes.{as_one, here, stands, keeps}
use Rattle.new_database.proofs.slots.mem_slots.MemSlots.put.Goals as goal

pub add-requires-clause-begun : goal.add-requires-clause-begun
add-requires-clause-begun c =
    let at = here c.args.self.now c.requires.client c.index_mut-client.ensures.value in
    sym (ap (λ (t : Transaction). t.begun) at) ∙ c.requires.begun

pub add-requires-clause-room : goal.add-requires-clause-room
add-requires-clause-room c =
    let at = here c.args.self.now c.requires.client c.index_mut-client.ensures.value in
    λ high. subst (λ (t : Transaction). 0 < t.room) at (c.requires.room high)

pub add-requires-clause-counted : goal.add-requires-clause-counted
add-requires-clause-counted c =
    let at = here c.args.self.now c.requires.client c.index_mut-client.ensures.value in
    λ high. subst (λ (t : Transaction). t.counted < 7989) at (c.requires.counted high)

pub add-requires-clause-low : goal.add-requires-clause-low
add-requires-clause-low c =
    let at = here c.args.self.now c.requires.client c.index_mut-client.ensures.value in
    λ low. subst (λ (t : Transaction). t.low < 10) at (c.requires.low low)

-- some write more of a client finds memory, whether the slot is low or not
one_promised : (cs : List Client) (k : ℕ) (low : Bool) → (transaction_in cs k).begun ≡ true → (low ≡ false → 0 < (transaction_in cs k).room) → (low ≡ true → (transaction_in cs k).low < 10) → 0 < promised cs
one_promised cs k true begun room few = let l = low_within cs k begun in let f = few refl in omega (arith, l, f)
one_promised cs k false begun room few = let w = room_within cs k in let r = room refl in omega (arith, w, r)

pub reach-requires : goal.reach-requires
reach-requires c =
    let one = one_promised c.args.self.now.clients.items c.args.client (is_low c.args.slot) c.requires.begun c.requires.room c.requires.low in
    λ _. omega (arith, one, c.args.self.now.has_room)

pub invariant_of-self : goal.invariant_of-self
invariant_of-self c =
    let s = c.args.self.now in
    let old = c.index_mut-client.result.now in
    let new = c.put_bytes-before.new.slots in
    let more : (j : ℕ) → holds c.reach.new.slots j ≡ true → holds new j ≡ true = λ j h. c.put_bytes-before.ensures.held j ∙ h in
    stands s c.requires.client c.index_mut-client.ensures.value new c.add.new.self c.end_after-self.result
    (λ j h. more j (c.reach.ensures.held j h))
    (λ held. subst (λ (l : List Undo). AllHeld new l) (sym c.add.ensures.undo) (held_push new old.undo.items (record { slot = c.args.slot; old = c.put_bytes-before.result }) held (more c.args.slot c.reach.ensures.here)))
    (omega (arith, c.add.ensures.promised, c.reach.ensures.spare, c.put_bytes-before.ensures.spare, s.has_room))
    c.end_after-self.ensures.small
    (λ j le.
    let above = c.end_after-self.ensures.above in
    let past = c.end_after-self.ensures.past in
    c.put_bytes-before.ensures.held j ∙ c.reach.ensures.others j (λ e. omega (arith, e, le, past)) ∙ s.blank j (omega (arith, le, above)))

pub returns : goal.returns
returns c =
    let s = c.args.self.now in
    let old = c.index_mut-client.result.now in
    let client = c.index_mut-client.ensures.value in
    let at = here s c.requires.client client in
    let new = c.put_bytes-before.new.slots in
    record {
      keeps = keeps s c.requires.client client new _ (λ j. c.put_bytes-before.ensures.committed j ∙ c.reach.ensures.committed j);
      reads = λ _. as_one (λ k. c.put_bytes-before.ensures.reads k ∙ put_at (slot_in c.reach.new.slots) (slot_in s.slots) c.args.slot c.args.bytes.now k (c.reach.ensures.reads k));
      before = c.put_bytes-before.result;
      before_is = λ _. c.put_bytes-before.ensures.before ∙ c.reach.ensures.reads c.args.slot;
      transaction = becomes s.clients.items c.args.client c.add.new.self true _ _ _ _ _ (omega (arith, s.sixteen, c.requires.client)) c.add.ensures.begun
          (c.add.ensures.undo ∙ ap (λ (l : List Undo). l ++ record { slot = c.args.slot; old = c.put_bytes-before.result } ∷ []) (sym (ap (λ (x : Transaction). x.undo) at)))
          (λ j. ap (λ (l : List ℕ). has_written l j) c.add.ensures.written ∙ written_push old.written.items c.args.slot j ∙ ap (λ (x : Transaction). (j == c.args.slot) || x.written j) (sym at))
          (c.add.ensures.counted ∙ ap (λ (x : Transaction). if is_low c.args.slot then x.counted else x.counted + 1) (sym at))
          (c.add.ensures.low ∙ ap (λ (x : Transaction). if is_low c.args.slot then x.low + 1 else x.low) (sym at))
          (subst (λ (x : Transaction). x.room - 1 ≤ c.add.new.self.spare) (sym at) c.add.ensures.room);
    }
