use Rattle.std.proofs.Common.{◌≡◌, ℕ, []}
use Rattle.slot_rows.specs.Opens.{log_in, touched_in}
use Rattle.slot_rows.proofs.Chaining.{opened_chains}
use Rattle.slot_rows.proofs.OtherSlots.{counted_over, held_over, stored_over}
use Rattle.slot_rows.proofs.Quiet.{quiet_opened}
use Rattle.slot_rows.proofs.rows.StoredRows.with_slots.Goals as goal

pub invariant_of-result-clause-stored : goal.invariant_of-result-clause-stored
invariant_of-result-clause-stored g c =
    let rows = c.args.self in
    let s = g.S.Slots.state rows.chains.slots in
    let t = g.T.Slots.state c.args.slots in
    let undone : (d : ℕ) → (s.transaction d).undo ≡ [] = λ d. (rows.chains.sound.noted c.requires.fine_before).kept.idle d (c.requires.ended d) in
    rw c.with_slots.ensures.slots
    (stored_over rows.schema s t (log_in rows.opens.items) (touched_in rows.opens.items) rows.stored c.requires.ended undone c.requires.fine_before c.requires.settled c.requires.same c.requires.clean)

pub invariant_of-result-clause-counted : goal.invariant_of-result-clause-counted
invariant_of-result-clause-counted g c =
    let rows = c.args.self in
    let s = g.S.Slots.state rows.chains.slots in
    let t = g.T.Slots.state c.args.slots in
    let undone : (d : ℕ) → (s.transaction d).undo ≡ [] = λ d. (rows.chains.sound.noted c.requires.fine_before).kept.idle d (c.requires.ended d) in
    rw c.with_slots.ensures.slots
    (counted_over rows.schema s t (log_in rows.opens.items) (touched_in rows.opens.items) rows.stored c.requires.ended undone c.requires.fine_before c.requires.settled c.requires.same rows.used rows.counted)

pub invariant_of-result-clause-quiet : goal.invariant_of-result-clause-quiet
invariant_of-result-clause-quiet g c =
    rw c.with_slots.ensures.slots (quiet_opened (g.T.Slots.state c.args.slots) c.requires.idle c.requires.certain)

pub invariant_of-result-clause-laid : goal.invariant_of-result-clause-laid
invariant_of-result-clause-laid g c =
    let rows = c.args.self in
    let s = g.S.Slots.state rows.chains.slots in
    let t = g.T.Slots.state c.args.slots in
    let undone : (d : ℕ) → (s.transaction d).undo ≡ [] = λ d. (rows.chains.sound.noted c.requires.fine_before).kept.idle d (c.requires.ended d) in
    rw c.with_slots.ensures.slots
    (opened_chains t (g.T.Slots.stop c.args.slots) c.requires.fine c.requires.settled c.requires.certain c.requires.stops
    (λ readable. (held_over rows.schema s t (log_in rows.opens.items) (touched_in rows.opens.items) rows.stored c.requires.ended undone c.requires.fine_before c.requires.settled c.requires.same readable).chains))
