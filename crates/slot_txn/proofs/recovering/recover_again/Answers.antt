use Rattle.std.proofs.Common.{◌≡◌, ◌∙◌, ℕ, List, Bool, IsTrue, Err, sym, subst}
use Rattle.std.proofs.lemmas.Result.{err_from_is_err_and}
use Rattle.log_meaning.specs.steps.Steps.{Image}
use Rattle.log_meaning.specs.Images.{Recovers}
use Rattle.log_meaning.proofs.StepsLemmas.Runs.{stayed}
use Rattle.bi_recovery.specs.Reopening.{IsReadAs, SameRecovery, Reopens}
use Rattle.bi_recovery.proofs.Recovery.{after_stay}
use Rattle.bi_recovery.proofs.Lengths.{none_longer, none_then}
use Rattle.slot_txn.proofs.Recovered.{ok_map, same_error}
use Rattle.slot_txn.proofs.recovering.recover_again.Goals as goal

pub returns-in_err-log-clause-time : goal.returns-in_err-log-clause-time
returns-in_err-log-clause-time g c = stayed _ _ _ _ _ _ _ _ SameRecovery c.read_log.ensures.rest (λ m image left. (g.met.D.Disk.image_known c.args.disk.now m image left).past)

pub returns-in_err-log-clause-within : goal.returns-in_err-log-clause-within
returns-in_err-log-clause-within g c = none_longer _ _ _ _ _ _ _ _ 167772160 c.read_log.ensures.rest (λ m image left. (g.met.D.Disk.image_known c.args.disk.now m image left).past)

pub returns-in_err-log-clause-none : goal.returns-in_err-log-clause-none
returns-in_err-log-clause-none g c = λ h.
    let p = err_from_is_err_and c.from_residual.result c.from_residual.ensures.1 in
    let fault = c.in_err-log.field-0.0 in
    let is : c.from_residual.result ≡ Err fault = cc (p.1, p.2) in
    c.in_err-log.ensures.none (same_error fault _ (sym is ∙ h))

pub recover_all-requires : goal.recover_all-requires
recover_all-requires g c = record {
  log = λ known1.
      let known : IsTrue (g.D.Disk.observable c.args.disk.now) = subst (λ (b : Bool). IsTrue b) c.read_log.ensures.rest.same_observable known1 in
      subst (λ (i : Image). IsReadAs i c.in_ok-log.log.area c.in_ok-log.log.generation c.in_ok-log.log.slots.items) (sym (c.read_log.ensures.rest.same known)) (c.in_ok-log.ensures.ok known);
}

pub returns-clause-time : goal.returns-clause-time
returns-clause-time g c = after_stay _ _ _ _ _ _ _ _ _ _ c.read_log.ensures.rest (λ m image left. (g.met.D.Disk.image_known c.args.disk.now m image left).past) c.recover_all.ensures.time

pub returns-clause-within : goal.returns-clause-within
returns-clause-within g c = none_then _ _ _ _ _ _ _ _ _ _ 167772160 c.read_log.ensures.rest (λ m image left. (g.met.D.Disk.image_known c.args.disk.now m image left).past) c.recover_all.ensures.within

pub returns-clause-ok : goal.returns-clause-ok
returns-clause-ok g c = ok_map c.recover_all.result _ _ c.recover_all.ensures.ok (λ r reopens known.
    let known1 : IsTrue (g.D.Disk.observable c.read_log.new.disk) = subst (λ (b : Bool). IsTrue b) (sym c.read_log.ensures.rest.same_observable) known in
    subst (λ (i : Image). Reopens i (g.D.Disk.left c.recover_all.new.disk (g.D.Disk.time c.recover_all.new.disk)) r.area r.generation r.extent r.gate) (c.read_log.ensures.rest.same known) (reopens known1))

pub returns-clause-none : goal.returns-clause-none
returns-clause-none g c = λ is known.
    let known1 : IsTrue (g.D.Disk.observable c.read_log.new.disk) = subst (λ (b : Bool). IsTrue b) (sym c.read_log.ensures.rest.same_observable) known in
    subst (λ (i : Image). (slots : ℕ → List ℕ) → Recovers i slots → ⊥) (c.read_log.ensures.rest.same known) (c.recover_all.ensures.none is known1)
