use Rattle.std.proofs.Common.{◌≡◌, ◌∙◌, ◌*◌, ℕ, Bool, IsTrue, Err, sym, ap, subst}
use Rattle.std.proofs.lemmas.Result.{err_from_is_err_and}
use Rattle.slot_txn.proofs.Recovered.{same_error}
use Rattle.slot_txn.proofs.Opened.{fresh_from}
use Rattle.slot_txn.proofs.opening.recovered_parts.Goals as goal

pub returns-clause-ok : goal.returns-clause-ok
returns-clause-ok g c = λ known.
    let known1 : IsTrue (g.D.Disk.observable c.recover_whole.new.disk) = subst (λ (b : Bool). IsTrue b) (sym c.recover_whole.ensures.same_observable) known in
    fresh_from (g.D.Disk.seen c.args.disk.now) (g.D.Disk.seen c.recover_whole.new.disk) (g.D.Disk.seen c.recover_whole.new.disk) _ _ c.in_ok-new.field-0.log _ _ _ _ _ _ _ (c.in_ok-whole.ensures.ok known) c.in_ok-whole.ensures.gate (g.met.D.Disk.reads_left c.recover_whole.new.disk known1)
    (λ image left. left) c.in_ok-new.ensures.area c.in_ok-new.ensures.generation c.in_ok-new.ensures.extent
    (c.in_ok-whole.ensures.whole known ∙ ap (λ (n : ℕ). 256 * n) (sym c.in_ok-new.ensures.end))

pub returns-in_err-whole-clause-none : goal.returns-in_err-whole-clause-none
returns-in_err-whole-clause-none g c = λ h.
    let p = err_from_is_err_and c.from_residual.result c.from_residual.ensures.1 in
    let fault = c.in_err-whole.field-0.0 in
    let is : c.from_residual.result ≡ Err fault = cc (p.1, p.2) in
    c.in_err-whole.ensures.none (same_error fault _ (sym is ∙ h))
