use Rattle.std.proofs.Common.{◌≡◌, ◌+◌, ◌-◌, ◌<◌, ℕ, [], length, drop, Bool, IsTrue, refl, sym, ◌∙◌, subst, arith}
use Rattle.storage.specs.declared.slots.Undo.{Undo}
use Rattle.storage.specs.Slots.{undone}
use Rattle.log_meaning.specs.Images.{slot_of}
use Rattle.bi_recovery.proofs.Writing.{wrote_at, more_written, more_past, reads_more}
use Rattle.bi_recovery.proofs.slots_written.write_slots.Goals as goal

abbrev no_slot : Undo
no_slot = record { slot = 0; old = [] }

pub write_slot-requires : goal.write_slot-requires
write_slot-requires g c = record { small = c.requires.small _ (wrote_at c.args.slots.now (c.slots.i - 1) no_slot (let within = c.slots.invariant.within in let some = c.slots-test.true in omega (arith, within, some))) }

pub slots-preserved : goal.slots-preserved
slots-preserved g c =
    let lt : c.slots.i - 1 < length c.args.slots.now = (let within = c.slots.invariant.within in let some = c.slots-test.true in omega (arith, within, some)) in
    let next : c.slots.i - 1 + 1 ≡ c.slots.i = (let some = c.slots-test.true in omega (arith, some)) in
    let known_at : IsTrue (g.D.Disk.observable c.args.disk.now) → IsTrue (g.D.Disk.observable c.slots.disk) = λ known. subst (λ (b : Bool). IsTrue b) (sym c.slots.invariant.same_observable) known in
    record {
      within = omega (arith, lt);
      same_slots = refl;
      same_observable = c.write_slot.ensures.same_observable ∙ c.slots.invariant.same_observable;
      past = more_past _ _ _ _ _ _ c.slots.invariant.past c.write_slot.ensures.past;
      time = λ extent batches there may. more_written _ _ _ _ _ _ extent batches there (c.slots.invariant.time extent batches there may) (λ still.
          c.write_slot.ensures.time extent batches still (may _ (wrote_at c.args.slots.now (c.slots.i - 1) no_slot lt)));
      reads = λ known. reads_more c.args.slots.now (c.slots.i - 1) no_slot (slot_of (g.D.Disk.seen c.args.disk.now 0)) (slot_of (g.D.Disk.seen c.slots.disk 0)) (slot_of (g.D.Disk.seen c.write_slot.new.disk 0)) lt
          (λ s. subst (λ (k : ℕ). slot_of (g.D.Disk.seen c.slots.disk 0) s ≡ undone (drop k c.args.slots.now) (slot_of (g.D.Disk.seen c.args.disk.now 0)) s) (sym next) (c.slots.invariant.reads known s))
          (c.in_ok-write_slot.ensures.reads (known_at known));
      failures = c.in_ok-write_slot.ensures.cause.stays refl ∙ c.slots.invariant.failures;
      others = λ known k other. c.write_slot.ensures.others (known_at known) k other ∙ c.slots.invariant.others known k other;
    }

pub returns-in_err-write_slot-clause-time : goal.returns-in_err-write_slot-clause-time
returns-in_err-write_slot-clause-time g c = λ extent batches there may.
    let lt : c.slots.i - 1 < length c.args.slots.now = (let within = c.slots.invariant.within in let some = c.slots-test.true in omega (arith, within, some)) in
    more_written _ _ _ _ _ _ extent batches there (c.slots.invariant.time extent batches there may) (λ still.
    c.write_slot.ensures.time extent batches still (may _ (wrote_at c.args.slots.now (c.slots.i - 1) no_slot lt)))
