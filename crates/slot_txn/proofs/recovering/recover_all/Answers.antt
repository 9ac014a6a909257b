use Rattle.std.proofs.Common.{◌≡◌, ◌∙◌, Bool, IsTrue, Err, sym, subst}
use Rattle.std.proofs.lemmas.Result.{err_from_is_err_and}
use Rattle.bi_recovery.specs.declared.recovery_run.Reopened.{Reopened}
use Rattle.bi_recovery.specs.Reopening.{SameRecovery, Reopens}
use Rattle.bi_recovery.proofs.Reopening.{stage}
use Rattle.slot_txn.proofs.Recovered.{ok_map, again_slots, given_slots}
use Rattle.bi_log.proofs.Lengths.{run_twice}
use Rattle.slot_txn.proofs.recovering.recover_all.Goals as goal

pub returns-in-Err-clause-time : goal.returns-in-Err-clause-time
returns-in-Err-clause-time g c = stage _ _ _ _ _ _ SameRecovery c.recover_read.ensures.time c.recover.ensures.time (λ d image there step. step)

pub returns-in-Err-clause-none : goal.returns-in-Err-clause-none
returns-in-Err-clause-none g c = λ is known slots r.
    let known1 : IsTrue (g.D.Disk.observable c.recover_read.new.disk) = subst (λ (b : Bool). IsTrue b) (sym c.recover_read.ensures.same_observable) known in
    let one = c.in_ok-opened.ensures.ok known in
    c.in-Err.ensures.none is known1 one.slots (given_slots _ _ _ _ _ one.slots one.log (g.D.Disk.seen c.recover_read.new.disk) (g.met.D.Disk.reads_left c.recover_read.new.disk known1))

pub returns-in-Ok-clause-time : goal.returns-in-Ok-clause-time
returns-in-Ok-clause-time g c = stage _ _ _ _ _ _ SameRecovery c.recover_read.ensures.time c.recover.ensures.time (λ d image there step. step)

pub returns-in-Ok-clause-ok : goal.returns-in-Ok-clause-ok
returns-in-Ok-clause-ok g c = ok_map c.without_notes.result _ _ c.without_notes.ensures.ok (λ r is known.
    let known1 : IsTrue (g.D.Disk.observable c.recover_read.new.disk) = subst (λ (b : Bool). IsTrue b) (sym c.recover_read.ensures.same_observable) known in
    subst (λ (x : Reopened). Reopens (g.D.Disk.seen c.args.disk.now) (g.D.Disk.left c.recover.new.disk (g.D.Disk.time c.recover.new.disk)) x.area x.generation x.extent x.gate) (sym (is.0))
    (again_slots (g.D.Disk.seen c.args.disk.now) (g.D.Disk.seen c.recover_read.new.disk) _ _ _ _ _ _ _ _ _ _ (c.in_ok-opened.ensures.ok known) (g.met.D.Disk.reads_left c.recover_read.new.disk known1) (c.in-Ok.ensures.ok known1)))

pub returns-in_err-opened-clause-none : goal.returns-in_err-opened-clause-none
returns-in_err-opened-clause-none g c = λ h.
    let p = err_from_is_err_and c.from_residual.result c.from_residual.ensures.1 in
    let fault = c.in_err-opened.field-0.0 in
    let is : c.from_residual.result ≡ Err fault = cc (p.1, p.2) in
    absurd (c.in_err-opened.ensures.never (sym is ∙ h))

pub returns-in-Err-clause-within : goal.returns-in-Err-clause-within
returns-in-Err-clause-within g c = run_twice _ _ _ _ _ _ 167772160 c.recover_read.ensures.within c.recover.ensures.within

pub returns-in-Ok-clause-within : goal.returns-in-Ok-clause-within
returns-in-Ok-clause-within g c = run_twice _ _ _ _ _ _ 167772160 c.recover_read.ensures.within c.recover.ensures.within
