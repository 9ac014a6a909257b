use Rattle.std.proofs.Common.{◌≡◌, Bool, IsTrue, Result, Ok, Err, sym, subst}
use Rattle.std.specs.Prelude.{IfOk}
use Rattle.storage.specs.declared.slots.Undo.{Undo}
use Rattle.log_meaning.specs.steps.Steps.{Image}
use Rattle.log_meaning.proofs.StepsLemmas.Runs.{wider}
use Rattle.bi_recovery.specs.Reopening.{IsReadAs, SameRecovery, Reopens}
use Rattle.bi_recovery.proofs.Recovery.{after_same}
use Rattle.bi_recovery.proofs.Reopening.{keeps_none}
use Rattle.bi_log.proofs.Lengths.{run_same, run_twice}
use Rattle.bi_recovery.proofs.recovery_run.recover_read.Goals as goal

ok_map : {T E : Type 0} (r : Result T E) (P Q : T → Type 0) → IfOk r P → ((x : T) → P x → Q x) → IfOk r Q
ok_map (Ok x) P Q p f = f x p
ok_map (Err e) P Q p f = tt

pub returns-in_err-sync_all-clause-time : goal.returns-in_err-sync_all-clause-time
returns-in_err-sync_all-clause-time g c = wider _ _ _ _ (λ old new. new ≡ old) SameRecovery c.sync_all.ensures.time (λ d image there s. keeps_none d image s)

pub returns-in_err-sync_all-clause-within : goal.returns-in_err-sync_all-clause-within
returns-in_err-sync_all-clause-within g c = run_same _ _ _ _ 167772160 c.sync_all.ensures.time

pub reopen-requires-clause-log : goal.reopen-requires-clause-log
reopen-requires-clause-log g c = λ known1.
    let known : IsTrue (g.D.Disk.observable c.args.disk.now) = subst (λ (b : Bool). IsTrue b) c.sync_all.ensures.same_observable known1 in
    subst (λ (i : Image). IsReadAs i c.args.log.now.area c.args.log.now.generation c.args.log.now.slots.items) (sym (c.sync_all.ensures.seen known)) (c.requires.log known)

pub returns-clause-time : goal.returns-clause-time
returns-clause-time g c = after_same _ _ _ _ _ _ c.sync_all.ensures.time c.reopen.ensures.time

pub returns-clause-ok : goal.returns-clause-ok
returns-clause-ok g c = ok_map c.reopen.result _ _ c.reopen.ensures.ok (λ r reopens known.
    let known1 : IsTrue (g.D.Disk.observable c.sync_all.new.disk) = subst (λ (b : Bool). IsTrue b) (sym c.sync_all.ensures.same_observable) known in
    subst (λ (i : Image). Reopens i (g.D.Disk.left c.reopen.new.disk (g.D.Disk.time c.reopen.new.disk)) r.area r.generation r.extent r.gate) (c.sync_all.ensures.seen known) (reopens known1))

pub returns-clause-within : goal.returns-clause-within
returns-clause-within g c = run_twice _ _ _ _ _ _ 167772160 (run_same _ _ _ _ 167772160 c.sync_all.ensures.time) c.reopen.ensures.within
