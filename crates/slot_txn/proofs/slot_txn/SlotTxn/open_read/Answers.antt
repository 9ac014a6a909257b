use Rattle.std.proofs.Common.{◌≡◌, ◌∙◌, ℕ, Bool, IsTrue, List, [], Some, None, Err, refl, sym, ap, subst, arith}
use Rattle.std.proofs.Math.Logic.{∥∥₁_map}
use Rattle.storage.specs.declared.slots.Undo.{Undo}
use Rattle.storage.specs.Slots.{Transaction, undone}
use Rattle.bi_log.specs.Logs.{HasNotes}
use Rattle.bi_recovery.specs.declared.open_fault.OpenFault.{OpenFault}
use Rattle.open_transactions.specs.Clients.{lists, list_in, number_in}
use Rattle.slot_area.specs.Area.{view, unwritten}
use Rattle.checkpoint.specs.kept.KeptLog.{KeptLog}
use Rattle.slot_txn.specs.logged.Stops.{StayRecoverable}
use Rattle.slot_txn.proofs.Opened.{none_listed, none_is_due, is_whole, is_kept, fresh_log, recovered_slots, stop_now, stop_then, recoverable_opened}
use Rattle.bi_log.specs.Lengths.{StayShort}
use Rattle.bi_log.proofs.Lengths.{short_now, short_run}
use Rattle.slot_txn.proofs.slot_txn.SlotTxn.open_read.Goals as goal

pub invariant_of-result-clause-past : goal.invariant_of-result-clause-past
invariant_of-result-clause-past g c = let later = c.recovered_parts.ensures.time.later in let at = c.moment-since.ensures in omega (arith, later, at)

pub invariant_of-result-clause-recoverable : goal.invariant_of-result-clause-recoverable
invariant_of-result-clause-recoverable g c = subst (λ (m : ℕ). StayRecoverable (g.D.Disk.left c.recovered_parts.new.disk) m) (sym c.moment-since.ensures)
    (recoverable_opened _ _ (g.D.Disk.left c.args.disk) (g.D.Disk.left c.recovered_parts.new.disk) c.recovered_parts.ensures.time)

no_note : (n : ℕ) → None ≡ Some n → ⊥
no_note n is = cc

pub invariant_of-result-clause-changes : goal.invariant_of-result-clause-changes
invariant_of-result-clause-changes g c = λ fine slot note is. absurd (no_note note (sym (c.in-Ok.parts.unchanged slot) ∙ is))

pub invariant_of-result-clause-counts : goal.invariant_of-result-clause-counts
invariant_of-result-clause-counts g c = λ fine. let a = c.in-Ok.parts.counts.0 in let b = c.in-Ok.parts.counts.1 in omega (arith, a, b)

pub invariant_of-result-clause-emptied : goal.invariant_of-result-clause-emptied
invariant_of-result-clause-emptied g c = λ fine empty. c.in-Ok.parts.counts.1 ∙ sym (c.in-Ok.parts.counts.0)

pub invariant_of-result-clause-extents : goal.invariant_of-result-clause-extents
invariant_of-result-clause-extents g c = let e = c.in-Ok.parts.extents in let within = e.0 in let same = e.1 in let high = c.in-Ok.parts.slots.high in (within, omega (arith, within, same, high))

pub invariant_of-result-clause-kept : goal.invariant_of-result-clause-kept
invariant_of-result-clause-kept g c = λ known'.
    let known : IsTrue (g.D.Disk.observable c.args.disk) = subst (λ (b : Bool). IsTrue b) c.recovered_parts.ensures.same_observable known' in
    let p = c.in-Ok.parts in
    is_kept (g.D.Disk.seen c.args.disk) (g.D.Disk.seen c.recovered_parts.new.disk) _ p.log p.slots p.transactions.clients.items p.generation.number p.generation.extent (c.in-Ok.ensures.ok known) (g.met.D.Disk.reads_left c.recovered_parts.new.disk known') p.reads p.none

pub invariant_of-result-clause-whole : goal.invariant_of-result-clause-whole
invariant_of-result-clause-whole g c = λ known' fine.
    let known : IsTrue (g.D.Disk.observable c.args.disk) = subst (λ (b : Bool). IsTrue b) c.recovered_parts.ensures.same_observable known' in
    let p = c.in-Ok.parts in
    is_whole (g.D.Disk.seen c.args.disk) (g.D.Disk.seen c.recovered_parts.new.disk) _ p.log p.slots p.transactions.clients.items p.generation.number p.generation.extent (c.in-Ok.ensures.ok known) (g.met.D.Disk.reads_left c.recovered_parts.new.disk known') p.reads p.none

pub invariant_of-result-clause-sound : goal.invariant_of-result-clause-sound
invariant_of-result-clause-sound g c = λ known' fine.
    let known : IsTrue (g.D.Disk.observable c.args.disk) = subst (λ (b : Bool). IsTrue b) c.recovered_parts.ensures.same_observable known' in
    let p = c.in-Ok.parts in
    let cs = p.transactions.clients.items in
    let v = view p.slots (g.D.Disk.seen c.recovered_parts.new.disk 0) in
    subst (λ (f : ℕ). ∥ KeptLog (undone (lists cs) v) v (g.D.Disk.left c.recovered_parts.new.disk (g.D.Disk.time c.recovered_parts.new.disk)) p.log (unwritten p.slots) (number_in cs) (list_in cs) p.generation.number p.generation.extent f 1 ∥₁) (sym (p.extents.1))
    (∥∥₁_map p.notes (λ (n : HasNotes p.log.buffer []).
    fresh_log (g.D.Disk.seen c.args.disk) (g.D.Disk.seen c.recovered_parts.new.disk) _ p.log p.slots cs p.generation.number p.generation.extent (c.in-Ok.ensures.ok known) (g.met.D.Disk.reads_left c.recovered_parts.new.disk known') p.reads p.none p.at n p.unchanged p.numbers))

pub returns-in-Ok-clause-ok : goal.returns-in-Ok-clause-ok
returns-in-Ok-clause-ok g c =
    let p = c.in-Ok.parts in
    let cs = p.transactions.clients.items in
    let new = c.recovered_parts.new.disk in
    let v = view p.slots (g.D.Disk.seen new 0) in
    record {
      idle = λ k. ap (λ (t : Transaction). t.begun) (p.inactive k);
      clean = λ k. ap (λ (t : Transaction). t.undo) (p.inactive k);
      fine = refl;
      same_observable = c.recovered_parts.ensures.same_observable;
      since = c.moment-since.ensures;
      settled = ap (λ (us : List Undo). undone us v) (none_listed cs p.none) ∙ sym (ap (λ (us : List Undo). undone us v) (none_is_due cs p.none));
      certain = refl;
      recovered = λ known.
          let known' : IsTrue (g.D.Disk.observable new) = subst (λ (b : Bool). IsTrue b) (sym c.recovered_parts.ensures.same_observable) known in
          recovered_slots (g.D.Disk.seen c.args.disk) (g.D.Disk.seen new) _ p.log p.slots cs p.generation.number p.generation.extent (c.in-Ok.ensures.ok known) (g.met.D.Disk.reads_left new known') p.reads p.none;
      now = λ slots st.
          let known : IsTrue (g.D.Disk.observable c.args.disk) = subst (λ (b : Bool). IsTrue b) c.recovered_parts.ensures.same_observable (st.0) in
          stop_now (g.D.Disk.seen c.args.disk) (g.D.Disk.seen new) _ p.log p.slots cs p.generation.number p.generation.extent (c.in-Ok.ensures.ok known) (g.met.D.Disk.reads_left new (st.0)) p.reads p.none (st.3.0) slots (st.3.1) (st.3.2);
      stops = λ all m slots st. stop_then (g.D.Disk.observable new) (g.D.Disk.time c.args.disk) (g.D.Disk.time new) (g.D.Disk.left c.args.disk) (g.D.Disk.left new) (undone (lists cs) v) c.recovered_parts.ensures.time all m slots
          (st.0, (let from = st.1 in let at = c.moment-since.ensures in omega (arith, from, at)), st.2, st.3);
    }

pub returns-clause-none : goal.returns-clause-none
returns-clause-none g c = λ is known slots r. c.in-Err.ensures.none (ap (λ (f : OpenFault). Err f) is) known slots r

pub invariant_of-result-clause-stays_short : goal.invariant_of-result-clause-stays_short
invariant_of-result-clause-stays_short g c = subst (λ (m : ℕ). StayShort (g.D.Disk.left c.recovered_parts.new.disk) m) (sym c.moment-since.ensures)
    (short_run (g.D.Disk.time c.args.disk) _ _ (g.D.Disk.left c.args.disk) (g.D.Disk.left c.recovered_parts.new.disk) c.recovered_parts.ensures.within (omega arith) (short_now _ _ (λ m image left. (g.met.D.Disk.image_known c.args.disk m image left).past)))

pub returns-in-Ok-clause-short : goal.returns-in-Ok-clause-short
returns-in-Ok-clause-short g c = short_run (g.D.Disk.time c.args.disk) _ _ (g.D.Disk.left c.args.disk) (g.D.Disk.left c.recovered_parts.new.disk) c.recovered_parts.ensures.within (omega arith) (short_now _ _ (λ m image left. (g.met.D.Disk.image_known c.args.disk m image left).past))

pub returns-clause-err_short : goal.returns-clause-err_short
returns-clause-err_short g c = short_run (g.D.Disk.time c.args.disk) _ _ (g.D.Disk.left c.args.disk) (g.D.Disk.left c.recovered_parts.new.disk) c.recovered_parts.ensures.within (omega arith) (short_now _ _ (λ m image left. (g.met.D.Disk.image_known c.args.disk m image left).past))
