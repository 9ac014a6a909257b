use Rattle.std.proofs.Common.{◌≡◌, ◌/◌, ◌+◌, ◌-◌, ◌<◌, ◌^◌, ℕ, List, Bool, true, IsTrue, [], length, refl, sym, ◌∙◌, ap, subst, arith}
use Rattle.storage.specs.declared.slots.Undo.{Undo}
use Rattle.storage.specs.Slots.{wrote, undone}
use Rattle.log_meaning.specs.steps.Steps.{Image}
use Rattle.log_meaning.specs.Images.{slot_of, Recovers}
use Rattle.log_meaning.proofs.Filling.{filled_none}
use Rattle.bi_recovery.specs.NoteSlots.{IsAscending}
use Rattle.bi_recovery.specs.Reopening.{SameRecovery}
use Rattle.bi_recovery.proofs.Recovery.{after_stay, then_stay, with_extent, run_if, ready, ready_over}
use Rattle.bi_log.proofs.Lengths.{run_more}
use Rattle.bi_recovery.proofs.Lengths.{none_longer, none_then, then_none}
use Rattle.bi_recovery.proofs.recovery_run.reopen.Goals as goal

pub returns-in_err-rebuild-clause-time : goal.returns-in_err-rebuild-clause-time
returns-in_err-rebuild-clause-time g c = after_stay _ _ _ _ _ _ _ _ _ _ c.length.ensures.rest (λ m image left. (g.met.D.Disk.image_known c.args.disk.now m image left).past)
    (run_if _ _ _ _ SameRecovery (IsTrue (g.D.Disk.observable c.args.disk.now)) c.rebuild.ensures.past
    (λ m image left. subst (λ (b : Bool). IsTrue b) (c.rebuild.ensures.same_observable ∙ c.length.ensures.rest.same_observable) (g.met.D.Disk.image_known c.rebuild.new.disk m image left).same_observable)
    (λ known.
    let known1 : IsTrue (g.D.Disk.observable c.length.new.self) = subst (λ (b : Bool). IsTrue b) (sym c.length.ensures.rest.same_observable) known in
    let r = (ready _ _ (g.D.Disk.seen c.args.disk.now) (g.D.Disk.seen c.length.new.self) _ _ (g.D.Disk.left c.args.disk.now) (g.D.Disk.left c.length.new.self) c.args.log.now.area c.args.log.now.generation c.in_ok-length.length (c.requires.log known).notes c.deref-2.result.now c.deref.result.now c.args.log.now.slots.items c.length.ensures.rest
    (λ m image left. (g.met.D.Disk.image_known c.args.disk.now m image left).same_observable) known c.requires.synced (c.requires.log known).log (c.in_ok-length.ensures.length known) (c.requires.log known).are c.deref-2.ensures.value c.deref.ensures.value (c.is_filled.ensures c.if-not-is_filled.false)) in
    c.rebuild.ensures.time (c.in_ok-length.length / 256) r.batches (slot_of (g.D.Disk.seen c.length.new.self 0)) known1 r.agrees r.gives))

pub returns-in_err-after-clause-time : goal.returns-in_err-after-clause-time
returns-in_err-after-clause-time g c = then_stay _ _ _ _ _ _ _ _ _ _ (after_stay _ _ _ _ _ _ _ _ _ _ c.length.ensures.rest (λ m image left. (g.met.D.Disk.image_known c.args.disk.now m image left).past)
    (run_if _ _ _ _ SameRecovery (IsTrue (g.D.Disk.observable c.args.disk.now)) c.rebuild.ensures.past
    (λ m image left. subst (λ (b : Bool). IsTrue b) (c.rebuild.ensures.same_observable ∙ c.length.ensures.rest.same_observable) (g.met.D.Disk.image_known c.rebuild.new.disk m image left).same_observable)
    (λ known.
    let known1 : IsTrue (g.D.Disk.observable c.length.new.self) = subst (λ (b : Bool). IsTrue b) (sym c.length.ensures.rest.same_observable) known in
    let r = (ready _ _ (g.D.Disk.seen c.args.disk.now) (g.D.Disk.seen c.length.new.self) _ _ (g.D.Disk.left c.args.disk.now) (g.D.Disk.left c.length.new.self) c.args.log.now.area c.args.log.now.generation c.in_ok-length.length (c.requires.log known).notes c.deref-2.result.now c.deref.result.now c.args.log.now.slots.items c.length.ensures.rest
    (λ m image left. (g.met.D.Disk.image_known c.args.disk.now m image left).same_observable) known c.requires.synced (c.requires.log known).log (c.in_ok-length.ensures.length known) (c.requires.log known).are c.deref-2.ensures.value c.deref.ensures.value (c.is_filled.ensures c.if-not-is_filled.false)) in
    c.rebuild.ensures.time (c.in_ok-length.length / 256) r.batches (slot_of (g.D.Disk.seen c.length.new.self 0)) known1 r.agrees r.gives)))
    c.length-2.ensures.rest (λ m image left. (g.met.D.Disk.image_known c.rebuild.new.disk m image left).past)

pub returns-clause-time : goal.returns-clause-time
returns-clause-time g c = then_stay _ _ _ _ _ _ _ _ _ _ (after_stay _ _ _ _ _ _ _ _ _ _ c.length.ensures.rest (λ m image left. (g.met.D.Disk.image_known c.args.disk.now m image left).past)
    (run_if _ _ _ _ SameRecovery (IsTrue (g.D.Disk.observable c.args.disk.now)) c.rebuild.ensures.past
    (λ m image left. subst (λ (b : Bool). IsTrue b) (c.rebuild.ensures.same_observable ∙ c.length.ensures.rest.same_observable) (g.met.D.Disk.image_known c.rebuild.new.disk m image left).same_observable)
    (λ known.
    let known1 : IsTrue (g.D.Disk.observable c.length.new.self) = subst (λ (b : Bool). IsTrue b) (sym c.length.ensures.rest.same_observable) known in
    let r = (ready _ _ (g.D.Disk.seen c.args.disk.now) (g.D.Disk.seen c.length.new.self) _ _ (g.D.Disk.left c.args.disk.now) (g.D.Disk.left c.length.new.self) c.args.log.now.area c.args.log.now.generation c.in_ok-length.length (c.requires.log known).notes c.deref-2.result.now c.deref.result.now c.args.log.now.slots.items c.length.ensures.rest
    (λ m image left. (g.met.D.Disk.image_known c.args.disk.now m image left).same_observable) known c.requires.synced (c.requires.log known).log (c.in_ok-length.ensures.length known) (c.requires.log known).are c.deref-2.ensures.value c.deref.ensures.value (c.is_filled.ensures c.if-not-is_filled.false)) in
    c.rebuild.ensures.time (c.in_ok-length.length / 256) r.batches (slot_of (g.D.Disk.seen c.length.new.self 0)) known1 r.agrees r.gives)))
    c.length-2.ensures.rest (λ m image left. (g.met.D.Disk.image_known c.rebuild.new.disk m image left).past)

pub returns-clause-ok : goal.returns-clause-ok
returns-clause-ok g c = λ known.
    let known1 : IsTrue (g.D.Disk.observable c.length.new.self) = subst (λ (b : Bool). IsTrue b) (sym c.length.ensures.rest.same_observable) known in
    let r = (ready _ _ (g.D.Disk.seen c.args.disk.now) (g.D.Disk.seen c.length.new.self) _ _ (g.D.Disk.left c.args.disk.now) (g.D.Disk.left c.length.new.self) c.args.log.now.area c.args.log.now.generation c.in_ok-length.length (c.requires.log known).notes c.deref-2.result.now c.deref.result.now c.args.log.now.slots.items c.length.ensures.rest
    (λ m image left. (g.met.D.Disk.image_known c.args.disk.now m image left).same_observable) known c.requires.synced (c.requires.log known).log (c.in_ok-length.ensures.length known) (c.requires.log known).are c.deref-2.ensures.value c.deref.ensures.value (c.is_filled.ensures c.if-not-is_filled.false)) in
    let known2 : IsTrue (g.D.Disk.observable c.rebuild.new.disk) = subst (λ (b : Bool). IsTrue b) (sym c.rebuild.ensures.same_observable) known1 in
    let back : (image : Image) → g.D.Disk.left c.length-2.new.self (g.D.Disk.time c.length-2.new.self) image → g.D.Disk.left c.rebuild.new.disk (g.D.Disk.time c.rebuild.new.disk) image = (λ image left. subst (λ (m : ℕ). g.D.Disk.left c.rebuild.new.disk m image) c.length-2.ensures.rest.moment (c.length-2.ensures.rest.nothing_else _ image left)) in
    record {
      slots = undone c.deref-2.result.now (slot_of (g.D.Disk.seen c.length.new.self 0));
      was = subst (λ (i : Image). Recovers i (undone c.deref-2.result.now (slot_of (g.D.Disk.seen c.length.new.self 0)))) (c.length.ensures.rest.same known) r.was;
      log = record {
        batches = [];
        base = undone c.deref-2.result.now (slot_of (g.D.Disk.seen c.length.new.self 0));
        agrees = λ image left. with_extent (3 - c.args.log.now.area) (c.args.log.now.generation + 1) (c.in_ok-length.length / 256) c.in_ok-after.after (undone c.deref-2.result.now (slot_of (g.D.Disk.seen c.length.new.self 0))) image
            (c.in_ok-after.ensures.length known2 ∙ ap (length {A = ℕ}) (sym (c.in_ok-rebuild.ensures.zero image (back image left))))
            (c.in_ok-rebuild.ensures.ok (c.in_ok-length.length / 256) r.batches (slot_of (g.D.Disk.seen c.length.new.self 0)) known1 r.agrees r.gives image (back image left));
        rests = λ image left. let k = c.in_ok-rebuild.ensures.rests image (back image left) in record { at = k.at; there = k.there };
        recovers = λ p s. refl;
        filled = filled_none (c.in_ok-after.after / 256);
      };
    }

pub returns-in_err-gate-clause-time : goal.returns-in_err-gate-clause-time
returns-in_err-gate-clause-time g c = after_stay _ _ _ _ _ _ _ _ _ _ c.length.ensures.rest (λ m image left. (g.met.D.Disk.image_known c.args.disk.now m image left).past)
    (run_if _ _ _ _ SameRecovery (IsTrue (g.D.Disk.observable c.args.disk.now)) c.reopen_carrying.ensures.past
    (λ m image left. subst (λ (b : Bool). IsTrue b) (c.reopen_carrying.ensures.same_observable ∙ c.length.ensures.rest.same_observable) (g.met.D.Disk.image_known c.reopen_carrying.new.disk m image left).same_observable)
    (λ known.
    let known1 : IsTrue (g.D.Disk.observable c.length.new.self) = subst (λ (b : Bool). IsTrue b) (sym c.length.ensures.rest.same_observable) known in
    let r = (ready_over _ _ (g.D.Disk.seen c.args.disk.now) (g.D.Disk.seen c.length.new.self) _ _ (g.D.Disk.left c.args.disk.now) (g.D.Disk.left c.length.new.self) c.args.log.now.area c.args.log.now.generation c.in_ok-length.length (c.requires.log known).notes c.deref-then-not-is_filled.result.now c.args.log.now.slots.items c.length.ensures.rest
    (λ m image left. (g.met.D.Disk.image_known c.args.disk.now m image left).same_observable) known c.requires.synced (c.requires.log known).log (c.in_ok-length.ensures.length known) (c.requires.log known).are c.deref-then-not-is_filled.ensures.value) in
    c.reopen_carrying.ensures.time (c.in_ok-length.length / 256) r.batches (slot_of (g.D.Disk.seen c.length.new.self 0)) known1 r.agrees r.are))

pub returns-then-not-is_filled-clause-time : goal.returns-then-not-is_filled-clause-time
returns-then-not-is_filled-clause-time g c = after_stay _ _ _ _ _ _ _ _ _ _ c.length.ensures.rest (λ m image left. (g.met.D.Disk.image_known c.args.disk.now m image left).past)
    (run_if _ _ _ _ SameRecovery (IsTrue (g.D.Disk.observable c.args.disk.now)) c.reopen_carrying.ensures.past
    (λ m image left. subst (λ (b : Bool). IsTrue b) (c.reopen_carrying.ensures.same_observable ∙ c.length.ensures.rest.same_observable) (g.met.D.Disk.image_known c.reopen_carrying.new.disk m image left).same_observable)
    (λ known.
    let known1 : IsTrue (g.D.Disk.observable c.length.new.self) = subst (λ (b : Bool). IsTrue b) (sym c.length.ensures.rest.same_observable) known in
    let r = (ready_over _ _ (g.D.Disk.seen c.args.disk.now) (g.D.Disk.seen c.length.new.self) _ _ (g.D.Disk.left c.args.disk.now) (g.D.Disk.left c.length.new.self) c.args.log.now.area c.args.log.now.generation c.in_ok-length.length (c.requires.log known).notes c.deref-then-not-is_filled.result.now c.args.log.now.slots.items c.length.ensures.rest
    (λ m image left. (g.met.D.Disk.image_known c.args.disk.now m image left).same_observable) known c.requires.synced (c.requires.log known).log (c.in_ok-length.ensures.length known) (c.requires.log known).are c.deref-then-not-is_filled.ensures.value) in
    c.reopen_carrying.ensures.time (c.in_ok-length.length / 256) r.batches (slot_of (g.D.Disk.seen c.length.new.self 0)) known1 r.agrees r.are))

pub returns-then-not-is_filled-clause-ok : goal.returns-then-not-is_filled-clause-ok
returns-then-not-is_filled-clause-ok g c = λ known.
    let known1 : IsTrue (g.D.Disk.observable c.length.new.self) = subst (λ (b : Bool). IsTrue b) (sym c.length.ensures.rest.same_observable) known in
    let r = (ready_over _ _ (g.D.Disk.seen c.args.disk.now) (g.D.Disk.seen c.length.new.self) _ _ (g.D.Disk.left c.args.disk.now) (g.D.Disk.left c.length.new.self) c.args.log.now.area c.args.log.now.generation c.in_ok-length.length (c.requires.log known).notes c.deref-then-not-is_filled.result.now c.args.log.now.slots.items c.length.ensures.rest
    (λ m image left. (g.met.D.Disk.image_known c.args.disk.now m image left).same_observable) known c.requires.synced (c.requires.log known).log (c.in_ok-length.ensures.length known) (c.requires.log known).are c.deref-then-not-is_filled.ensures.value) in
    record {
      slots = undone c.deref-then-not-is_filled.result.now (slot_of (g.D.Disk.seen c.length.new.self 0));
      was = subst (λ (i : Image). Recovers i (undone c.deref-then-not-is_filled.result.now (slot_of (g.D.Disk.seen c.length.new.self 0)))) (c.length.ensures.rest.same known) r.was;
      log = c.in_ok-gate.ensures.ok (c.in_ok-length.length / 256) r.batches (slot_of (g.D.Disk.seen c.length.new.self 0)) known1 r.agrees r.are;
    }

pub reopen_carrying-requires-clause-small : goal.reopen_carrying-requires-clause-small
reopen_carrying-requires-clause-small g c = subst (λ (l : List Undo). (s : ℕ) → wrote l s ≡ true → s < 2 ^ 20) (sym c.deref-then-not-is_filled.ensures.value) c.args.log.now.small

pub reopen_carrying-requires-clause-ascending : goal.reopen_carrying-requires-clause-ascending
reopen_carrying-requires-clause-ascending g c = subst IsAscending (sym c.deref-then-not-is_filled.ensures.value) c.args.log.now.ascending

pub rebuild-requires-clause-small : goal.rebuild-requires-clause-small
rebuild-requires-clause-small g c = subst (λ (l : List Undo). (s : ℕ) → wrote l s ≡ true → s < 2 ^ 20) (sym c.deref-2.ensures.value) c.args.log.now.small

pub returns-in_err-rebuild-clause-within : goal.returns-in_err-rebuild-clause-within
returns-in_err-rebuild-clause-within g c = none_then _ _ _ _ _ _ _ _ _ _ 167772160 c.length.ensures.rest (λ m image left. (g.met.D.Disk.image_known c.args.disk.now m image left).past) (run_more _ _ _ _ 167772160 33 (omega arith) c.rebuild.ensures.within)

pub returns-in_err-after-clause-within : goal.returns-in_err-after-clause-within
returns-in_err-after-clause-within g c = then_none _ _ _ _ _ _ _ _ _ _ 167772160 (none_then _ _ _ _ _ _ _ _ _ _ 167772160 c.length.ensures.rest (λ m image left. (g.met.D.Disk.image_known c.args.disk.now m image left).past) (run_more _ _ _ _ 167772160 33 (omega arith) c.rebuild.ensures.within)) c.length-2.ensures.rest (λ m image left. (g.met.D.Disk.image_known c.rebuild.new.disk m image left).past)

pub returns-clause-within : goal.returns-clause-within
returns-clause-within g c = then_none _ _ _ _ _ _ _ _ _ _ 167772160 (none_then _ _ _ _ _ _ _ _ _ _ 167772160 c.length.ensures.rest (λ m image left. (g.met.D.Disk.image_known c.args.disk.now m image left).past) (run_more _ _ _ _ 167772160 33 (omega arith) c.rebuild.ensures.within)) c.length-2.ensures.rest (λ m image left. (g.met.D.Disk.image_known c.rebuild.new.disk m image left).past)

pub returns-in_err-gate-clause-within : goal.returns-in_err-gate-clause-within
returns-in_err-gate-clause-within g c = none_then _ _ _ _ _ _ _ _ _ _ 167772160 c.length.ensures.rest (λ m image left. (g.met.D.Disk.image_known c.args.disk.now m image left).past) c.reopen_carrying.ensures.within

pub returns-then-not-is_filled-clause-within : goal.returns-then-not-is_filled-clause-within
returns-then-not-is_filled-clause-within g c = none_then _ _ _ _ _ _ _ _ _ _ 167772160 c.length.ensures.rest (λ m image left. (g.met.D.Disk.image_known c.args.disk.now m image left).past) c.reopen_carrying.ensures.within

pub returns-in_err-length-clause-within : goal.returns-in_err-length-clause-within
returns-in_err-length-clause-within g c = none_longer _ _ _ _ _ _ _ _ 167772160 c.length.ensures.rest (λ m image left. (g.met.D.Disk.image_known c.args.disk.now m image left).past)
