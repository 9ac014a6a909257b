use Rattle.std.proofs.Common.{◌≡◌, ℕ, List, Bool, IsTrue, Result, Ok, Err, sym, ◌∙◌, ap, subst}
use Rattle.std.specs.Prelude.{IfOk, IsErrOf}
use Rattle.std.proofs.lemmas.Result.{err_from_is_err_and}
use Rattle.log_meaning.specs.steps.Steps.{Image}
use Rattle.log_meaning.proofs.StepsLemmas.Runs.{wider, stayed}
use Rattle.log_meaning.specs.Images.{Recovers}
use Rattle.bi_recovery.specs.Reopening.{IsReadAs, SameRecovery, Reopens}
use Rattle.bi_recovery.proofs.Recovery.{after_same, after_stay, stay_synced}
use Rattle.bi_recovery.proofs.Reopening.{keeps_none}
use Rattle.bi_log.proofs.Lengths.{run_same, run_twice}
use Rattle.bi_recovery.proofs.Lengths.{none_then, then_none}
use Rattle.bi_recovery.proofs.recovery_run.recover.Goals as goal

ok_map : {T E : Type 0} (r : Result T E) (P Q : T → Type 0) → IfOk r P → ((x : T) → P x → Q x) → IfOk r Q
ok_map (Ok x) P Q p f = f x p
ok_map (Err e) P Q p f = tt

abbrev error_or : {T E : Type 0} → E → Result T E → E
error_or d (Ok x) = d
error_or d (Err e) = e

same_error : {T U E : Type 0} (e f : E) → IsErrOf {T = T} (Err e) f → IsErrOf {T = U} (Err e) f
same_error e f is = ap (λ x. Err x) (ap (error_or e) is)

pub returns-in_err-log-clause-none : goal.returns-in_err-log-clause-none
returns-in_err-log-clause-none g c = λ h known.
    let p = err_from_is_err_and c.from_residual-in_err-log.result c.from_residual-in_err-log.ensures.1 in
    let fault = c.in_err-log.field-0.0 in
    let is : c.from_residual-in_err-log.result ≡ Err fault = cc (p.1, p.2) in
    let known1 : IsTrue (g.D.Disk.observable c.sync_all.new.disk) = subst (λ (b : Bool). IsTrue b) (sym c.sync_all.ensures.same_observable) known in
    subst (λ (i : Image). (slots : ℕ → List ℕ) → Recovers i slots → ⊥) (c.sync_all.ensures.seen known) (c.in_err-log.ensures.none (same_error fault _ (sym is ∙ h)) known1)

pub returns-in_err-sync_all-clause-time : goal.returns-in_err-sync_all-clause-time
returns-in_err-sync_all-clause-time g c = wider _ _ _ _ (λ old new. new ≡ old) SameRecovery c.sync_all.ensures.time (λ d image there s. keeps_none d image s)

pub returns-in_err-sync_all-clause-within : goal.returns-in_err-sync_all-clause-within
returns-in_err-sync_all-clause-within g c = run_same _ _ _ _ 167772160 c.sync_all.ensures.time

pub returns-in_err-log-clause-time : goal.returns-in_err-log-clause-time
returns-in_err-log-clause-time g c = after_same _ _ _ _ _ _ c.sync_all.ensures.time (stayed _ _ _ _ _ _ _ _ SameRecovery c.read_log.ensures.rest (λ m image left. (g.met.D.Disk.image_known c.sync_all.new.disk m image left).past))

pub returns-in_err-log-clause-within : goal.returns-in_err-log-clause-within
returns-in_err-log-clause-within g c = then_none _ _ _ _ _ _ _ _ _ _ 167772160 (run_same _ _ _ _ 167772160 c.sync_all.ensures.time) c.read_log.ensures.rest (λ m image left. (g.met.D.Disk.image_known c.sync_all.new.disk m image left).past)

pub reopen-requires-clause-synced : goal.reopen-requires-clause-synced
reopen-requires-clause-synced g c = stay_synced _ _ _ _ _ _ _ _ c.read_log.ensures.rest (λ m image left. (g.met.D.Disk.image_known c.sync_all.new.disk m image left).same_observable) c.in_ok-sync_all.ensures.ok

pub reopen-requires-clause-log : goal.reopen-requires-clause-log
reopen-requires-clause-log g c = λ known2.
    let known1 : IsTrue (g.D.Disk.observable c.sync_all.new.disk) = subst (λ (b : Bool). IsTrue b) c.read_log.ensures.rest.same_observable known2 in
    subst (λ (i : Image). IsReadAs i c.in_ok-log.log.area c.in_ok-log.log.generation c.in_ok-log.log.slots.items) (sym (c.read_log.ensures.rest.same known1)) (c.in_ok-log.ensures.ok known1)

pub returns-clause-time : goal.returns-clause-time
returns-clause-time g c = after_same _ _ _ _ _ _ c.sync_all.ensures.time
    (after_stay _ _ _ _ _ _ _ _ _ _ c.read_log.ensures.rest (λ m image left. (g.met.D.Disk.image_known c.sync_all.new.disk m image left).past) c.reopen.ensures.time)

pub returns-clause-ok : goal.returns-clause-ok
returns-clause-ok g c = ok_map c.reopen.result _ _ c.reopen.ensures.ok (λ r reopens known.
    let known1 : IsTrue (g.D.Disk.observable c.sync_all.new.disk) = subst (λ (b : Bool). IsTrue b) (sym c.sync_all.ensures.same_observable) known in
    let known2 : IsTrue (g.D.Disk.observable c.read_log.new.disk) = subst (λ (b : Bool). IsTrue b) (sym c.read_log.ensures.rest.same_observable) known1 in
    subst (λ (i : Image). Reopens i (g.D.Disk.left c.reopen.new.disk (g.D.Disk.time c.reopen.new.disk)) r.area r.generation r.extent r.gate) (c.read_log.ensures.rest.same known1 ∙ c.sync_all.ensures.seen known) (reopens known2))

pub returns-clause-none : goal.returns-clause-none
returns-clause-none g c = λ is. absurd (c.reopen.ensures.never is)

pub returns-clause-within : goal.returns-clause-within
returns-clause-within g c = run_twice _ _ _ _ _ _ 167772160 (run_same _ _ _ _ 167772160 c.sync_all.ensures.time) (none_then _ _ _ _ _ _ _ _ _ _ 167772160 c.read_log.ensures.rest (λ m image left. (g.met.D.Disk.image_known c.sync_all.new.disk m image left).past) c.reopen.ensures.within)
