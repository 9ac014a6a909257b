use Rattle.std.proofs.Common.{◌≡◌, ◌∙◌, Bool, IsTrue, Err, length, sym, ap, subst}
use Rattle.std.proofs.lemmas.Result.{err_from_is_err_and}
use Rattle.log_meaning.specs.steps.Steps.{Image}
use Rattle.bi_recovery.specs.Reopening.{SameRecovery}
use Rattle.bi_recovery.proofs.Reopening.{stage}
use Rattle.bi_recovery.proofs.Recovery.{then_stay}
use Rattle.bi_recovery.proofs.Lengths.{then_none}
use Rattle.bi_log.proofs.Lengths.{run_twice}
use Rattle.slot_txn.proofs.Recovered.{same_error, run_recovers, run_again, later_left}
use Rattle.slot_txn.proofs.recovering.recover_torn.Goals as goal

pub returns-in_err-again-clause-time : goal.returns-in_err-again-clause-time
returns-in_err-again-clause-time g c = stage _ _ _ _ _ _ SameRecovery c.note_slot.ensures.time c.recover_again.ensures.time (λ d image there step. step)

pub returns-in_err-again-clause-within : goal.returns-in_err-again-clause-within
returns-in_err-again-clause-within g c = run_twice _ _ _ _ _ _ 167772160 c.note_slot.ensures.within c.recover_again.ensures.within

pub returns-in_err-again-clause-none : goal.returns-in_err-again-clause-none
returns-in_err-again-clause-none g c = λ h known slots r.
    let p = err_from_is_err_and c.from_residual-in_err-again.result c.from_residual-in_err-again.ensures.1 in
    let fault = c.in_err-again.field-0.0 in
    let is : c.from_residual-in_err-again.result ≡ Err fault = cc (p.1, p.2) in
    let known1 : IsTrue (g.D.Disk.observable c.note_slot.new.disk) = subst (λ (b : Bool). IsTrue b) (sym c.note_slot.ensures.same_observable) known in
    let one = c.requires.log known in
    c.in_err-again.ensures.none (same_error fault _ (sym is ∙ h)) known1 one.slots (run_recovers (g.D.Disk.seen c.note_slot.new.disk) _ _ _ _ _ _ _ _ one.slots c.note_slot.ensures.time (g.met.D.Disk.reads_left c.note_slot.new.disk known1) one.log)

pub returns-in_err-length-clause-time : goal.returns-in_err-length-clause-time
returns-in_err-length-clause-time g c = then_stay _ _ _ _ _ _ _ _ _ _ (stage _ _ _ _ _ _ SameRecovery c.note_slot.ensures.time c.recover_again.ensures.time (λ d image there step. step)) c.length.ensures.rest (λ m image left. (g.met.D.Disk.image_known c.recover_again.new.disk m image left).past)

pub returns-in_err-length-clause-within : goal.returns-in_err-length-clause-within
returns-in_err-length-clause-within g c = then_none _ _ _ _ _ _ _ _ _ _ 167772160 (run_twice _ _ _ _ _ _ 167772160 c.note_slot.ensures.within c.recover_again.ensures.within) c.length.ensures.rest (λ m image left. (g.met.D.Disk.image_known c.recover_again.new.disk m image left).past)

pub returns-in_err-end-clause-time : goal.returns-in_err-end-clause-time
returns-in_err-end-clause-time g c = then_stay _ _ _ _ _ _ _ _ _ _ (stage _ _ _ _ _ _ SameRecovery c.note_slot.ensures.time c.recover_again.ensures.time (λ d image there step. step)) c.length.ensures.rest (λ m image left. (g.met.D.Disk.image_known c.recover_again.new.disk m image left).past)

pub returns-in_err-end-clause-within : goal.returns-in_err-end-clause-within
returns-in_err-end-clause-within g c = then_none _ _ _ _ _ _ _ _ _ _ 167772160 (run_twice _ _ _ _ _ _ 167772160 c.note_slot.ensures.within c.recover_again.ensures.within) c.length.ensures.rest (λ m image left. (g.met.D.Disk.image_known c.recover_again.new.disk m image left).past)

pub returns-clause-time : goal.returns-clause-time
returns-clause-time g c = then_stay _ _ _ _ _ _ _ _ _ _ (stage _ _ _ _ _ _ SameRecovery c.note_slot.ensures.time c.recover_again.ensures.time (λ d image there step. step)) c.length.ensures.rest (λ m image left. (g.met.D.Disk.image_known c.recover_again.new.disk m image left).past)

pub returns-clause-within : goal.returns-clause-within
returns-clause-within g c = then_none _ _ _ _ _ _ _ _ _ _ 167772160 (run_twice _ _ _ _ _ _ 167772160 c.note_slot.ensures.within c.recover_again.ensures.within) c.length.ensures.rest (λ m image left. (g.met.D.Disk.image_known c.recover_again.new.disk m image left).past)

pub returns-clause-ok : goal.returns-clause-ok
returns-clause-ok g c = λ known.
    let known1 : IsTrue (g.D.Disk.observable c.note_slot.new.disk) = subst (λ (b : Bool). IsTrue b) (sym c.note_slot.ensures.same_observable) known in
    later_left (g.D.Disk.seen c.args.disk.now) _ _ _ _ _ _ _ _ _ _ _ _ c.length.ensures.rest
    (run_again (g.D.Disk.seen c.args.disk.now) (g.D.Disk.seen c.note_slot.new.disk) _ _ _ _ _ _ _ _ _ _ _ _ _ c.note_slot.ensures.time (g.met.D.Disk.reads_left c.note_slot.new.disk known1) (c.requires.log known) (c.in_ok-again.ensures.ok known1))

pub returns-clause-whole : goal.returns-clause-whole
returns-clause-whole g c = λ known.
    let known1 : IsTrue (g.D.Disk.observable c.note_slot.new.disk) = subst (λ (b : Bool). IsTrue b) (sym c.note_slot.ensures.same_observable) known in
    let known2 : IsTrue (g.D.Disk.observable c.recover_again.new.disk) = subst (λ (b : Bool). IsTrue b) (sym c.recover_again.ensures.same_observable) known1 in
    ap (λ (i : Image). length (i 0)) (c.length.ensures.rest.same known2) ∙ sym (c.in_ok-length.ensures.length known2) ∙ c.in_ok-end.ensures.whole
