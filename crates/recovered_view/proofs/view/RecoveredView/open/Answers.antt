use Rattle.std.proofs.Common.{◌≡◌, ◌∙◌, Bool, IsTrue, Err, sym, subst}
use Rattle.std.proofs.lemmas.Result.{err_from_is_err_and}
use Rattle.log_meaning.specs.steps.Steps.{Image}
use Rattle.log_meaning.specs.Images.{Recovers}
use Rattle.bi_recovery.specs.Reopening.{IsReadAs}
use Rattle.recovered_view.specs.View.{slot_in}
use Rattle.recovered_view.proofs.Loaded.{same_error}
use Rattle.recovered_view.proofs.view.RecoveredView.open.Goals as goal

pub returns-in_err-log-clause-none : goal.returns-in_err-log-clause-none
returns-in_err-log-clause-none g c = λ h.
    let p = err_from_is_err_and c.from_residual.result c.from_residual.ensures.1 in
    let fault = c.in_err-log.field-0.0 in
    let is : c.from_residual.result ≡ Err fault = cc (p.1, p.2) in
    c.in_err-log.ensures.none (same_error fault _ (sym is ∙ h))

pub returns-in_err-slots-clause-none : goal.returns-in_err-slots-clause-none
returns-in_err-slots-clause-none g c = λ h.
    let p = err_from_is_err_and c.from_residual-in_err-slots.result c.from_residual-in_err-slots.ensures.1 in
    let fault = c.in_err-slots.field-0.0 in
    let is : c.from_residual-in_err-slots.result ≡ Err fault = cc (p.1, p.2) in
    absurd (c.in_err-slots.ensures.never (same_error fault _ (sym is ∙ h)))

pub returns-clause-recovers : goal.returns-clause-recovers
returns-clause-recovers g c = λ known.
    let rest = c.read_log.ensures.rest in
    let known1 : IsTrue (g.D.Disk.observable c.read_log.new.disk) = subst (λ (b : Bool). IsTrue b) (sym rest.same_observable) known in
    let log = c.in_ok-log.log in
    subst (λ (i : Image). Recovers i (slot_in c.in_ok-slots.slots.items)) (rest.same known)
    (c.in_ok-slots.ensures.recovers known1 (subst (λ (i : Image). IsReadAs i log.area log.generation log.slots.items) (sym (rest.same known)) (c.in_ok-log.ensures.ok known)))
