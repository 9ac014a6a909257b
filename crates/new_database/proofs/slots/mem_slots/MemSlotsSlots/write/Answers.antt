use Rattle.std.proofs.Common.{◌≡◌, ◌≤◌, ◌<◌, ◌∙◌, ℕ, sym, ap, subst, refl, arith}
use Rattle.storage.specs.Slots.{Transaction}
use Rattle.new_database.proofs.SlotsLemmas.Clients.{transaction_at}
use Rattle.new_database.proofs.SlotsLemmas.Composes.{writes_after_grows}
use Rattle.new_database.specs.slots.Mem.{transaction_in, state_of}
use Rattle.new_database.proofs.slots.mem_slots.MemSlotsSlots.write.Goals as goal

pub returns-then-index-ge-MAX_SLOT_WRITES-clause-full : goal.returns-then-index-ge-MAX_SLOT_WRITES-clause-full
returns-then-index-ge-MAX_SLOT_WRITES-clause-full c =
    let cs = c.args.self.now.clients.items in
    let at = transaction_at cs c.args.client c.index.result.now (omega (arith, c.args.self.now.sixteen)) c.index.ensures in
    (λ _. (sym c.has_low_number.ensures ∙ c.if-has_low_number.false, subst (λ (t : Transaction). 7989 ≤ t.counted) (sym at) c.if-index-ge-MAX_SLOT_WRITES.true), λ _. refl)

pub put-requires-then-index-gt0-clause-room : goal.put-requires-then-index-gt0-clause-room
put-requires-then-index-gt0-clause-room c =
    let at = transaction_at c.args.self.now.clients.items c.args.client c.index-2.result.now (omega (arith, c.args.self.now.sixteen)) c.index-2.ensures in
    λ _. subst (λ (t : Transaction). 0 < t.room) (sym at) c.if-index-gt0.true

pub put-requires-then-index-gt0-clause-counted : goal.put-requires-then-index-gt0-clause-counted
put-requires-then-index-gt0-clause-counted c =
    let at = transaction_at c.args.self.now.clients.items c.args.client c.index.result.now (omega (arith, c.args.self.now.sixteen)) c.index.ensures in
    λ _. subst (λ (t : Transaction). t.counted < 7989) (sym at) c.if-index-ge-MAX_SLOT_WRITES.false

pub returns-then-index-gt0-clause-full : goal.returns-then-index-gt0-clause-full
returns-then-index-gt0-clause-full c =
    let at = transaction_at c.args.self.now.clients.items c.args.client c.index.result.now (omega (arith, c.args.self.now.sixteen)) c.index.ensures in
    let few = subst (λ (t : Transaction). t.counted < 7989) (sym at) c.if-index-ge-MAX_SLOT_WRITES.false in
    (λ e. absurd (cc (e)), λ full. absurd (omega (arith, few, full.1)))

pub returns-then-not-make_room-clause-full : goal.returns-then-not-make_room-clause-full
returns-then-not-make_room-clause-full c =
    let at = transaction_at c.args.self.now.clients.items c.args.client c.index.result.now (omega (arith, c.args.self.now.sixteen)) c.index.ensures in
    let few = subst (λ (t : Transaction). t.counted < 7989) (sym at) c.if-index-ge-MAX_SLOT_WRITES.false in
    (λ e. absurd (cc (e)), λ full. absurd (omega (arith, few, full.1)))

pub returns-then-not-make_room-clause-room : goal.returns-then-not-make_room-clause-room
returns-then-not-make_room-clause-room c =
    let at = transaction_at c.args.self.now.clients.items c.args.client c.index-2.result.now (omega (arith, c.args.self.now.sixteen)) c.index-2.ensures in
    λ some _. let here = subst (λ (t : Transaction). 0 < t.room) at some in omega (arith, here, c.if-index-gt0.false)

pub put-requires-2-clause-counted : goal.put-requires-2-clause-counted
put-requires-2-clause-counted c =
    let at = transaction_at c.args.self.now.clients.items c.args.client c.index.result.now (omega (arith, c.args.self.now.sixteen)) c.index.ensures in
    let few = subst (λ (t : Transaction). t.counted < 7989) (sym at) c.if-index-ge-MAX_SLOT_WRITES.false in
    let grown = c.make_room.ensures.yes c.if-not-make_room.false in
    λ _. subst (λ (n : ℕ). n < 7989) (sym grown.transaction.counted) few

pub returns-clause-ok : goal.returns-clause-ok
returns-clause-ok c =
    let old = c.args.self.now in
    let mid = c.make_room.new.self in
    let new = c.put-2.new.self in
    let at = transaction_at old.clients.items c.args.client c.index-2.result.now (omega (arith, old.sixteen)) c.index-2.ensures in
    let none : (transaction_in old.clients.items c.args.client).room ≡ 0 = (let room = ap (λ (t : Transaction). t.room) at in omega (arith, room, c.if-index-gt0.false)) in
    writes_after_grows (state_of old.slots old.clients.items) (state_of mid.slots mid.clients.items) (state_of new.slots new.clients.items) c.args.client c.args.slot 1 c.args.bytes.now refl none (c.make_room.ensures.yes c.if-not-make_room.false) c.put-2.ensures

pub returns-clause-full : goal.returns-clause-full
returns-clause-full c =
    let at = transaction_at c.args.self.now.clients.items c.args.client c.index.result.now (omega (arith, c.args.self.now.sixteen)) c.index.ensures in
    let few = subst (λ (t : Transaction). t.counted < 7989) (sym at) c.if-index-ge-MAX_SLOT_WRITES.false in
    (λ e. absurd (cc (e)), λ full. absurd (omega (arith, few, full.1)))
