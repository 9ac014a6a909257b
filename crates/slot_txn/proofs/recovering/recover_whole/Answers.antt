use Rattle.std.proofs.Common.{◌≡◌, ◌∙◌, Bool, IsTrue, Err, sym, subst}
use Rattle.std.proofs.lemmas.Result.{err_from_is_err_and}
use Rattle.log_meaning.specs.steps.Steps.{Image}
use Rattle.log_meaning.specs.Images.{Recovers}
use Rattle.bi_recovery.specs.Reopening.{SameRecovery, Reopens}
use Rattle.bi_recovery.proofs.Reopening.{stage}
use Rattle.bi_recovery.proofs.Recovery.{then_stay}
use Rattle.bi_recovery.proofs.Lengths.{then_none}
use Rattle.bi_log.proofs.Lengths.{run_twice}
use Rattle.slot_txn.proofs.Recovered.{ok_map, same_error, given_slots, again_slots, later_left, stays_reopened}
use Rattle.slot_txn.proofs.recovering.recover_whole.Goals as goal

pub recover_torn-requires-clause-log : goal.recover_torn-requires-clause-log
recover_torn-requires-clause-log g c = λ known.
    let known1 : IsTrue (g.D.Disk.observable c.recover_all.new.disk) = subst (λ (b : Bool). IsTrue b) c.length.ensures.rest.same_observable known in
    let known0 : IsTrue (g.D.Disk.observable c.args.disk.now) = subst (λ (b : Bool). IsTrue b) c.recover_all.ensures.same_observable known1 in
    stays_reopened _ _ (g.D.Disk.seen c.recover_all.new.disk) _ (g.D.Disk.seen c.args.disk.now) _ _ _ _ _ _ _ _ c.length.ensures.rest known1 (g.met.D.Disk.reads_left c.recover_all.new.disk known1) (c.in_ok-opened.ensures.ok known0)

pub returns-in_err-opened-clause-none : goal.returns-in_err-opened-clause-none
returns-in_err-opened-clause-none g c = λ h.
    let p = err_from_is_err_and c.from_residual.result c.from_residual.ensures.1 in
    let fault = c.in_err-opened.field-0.0 in
    let is : c.from_residual.result ≡ Err fault = cc (p.1, p.2) in
    c.in_err-opened.ensures.none (same_error fault _ (sym is ∙ h))

pub returns-in_err-length-clause-time : goal.returns-in_err-length-clause-time
returns-in_err-length-clause-time g c = then_stay _ _ _ _ _ _ _ _ _ _ c.recover_all.ensures.time c.length.ensures.rest (λ m image left. (g.met.D.Disk.image_known c.recover_all.new.disk m image left).past)

pub returns-in_err-length-clause-within : goal.returns-in_err-length-clause-within
returns-in_err-length-clause-within g c = then_none _ _ _ _ _ _ _ _ _ _ 167772160 c.recover_all.ensures.within c.length.ensures.rest (λ m image left. (g.met.D.Disk.image_known c.recover_all.new.disk m image left).past)

pub returns-in_ok-end-in-None-clause-ok : goal.returns-in_ok-end-in-None-clause-ok
returns-in_ok-end-in-None-clause-ok g c = λ known. later_left (g.D.Disk.seen c.args.disk.now) _ _ _ _ _ _ _ _ _ _ _ _ c.length.ensures.rest (c.in_ok-opened.ensures.ok known)

pub returns-in-Some-clause-time : goal.returns-in-Some-clause-time
returns-in-Some-clause-time g c = stage _ _ _ _ _ _ SameRecovery
    (then_stay _ _ _ _ _ _ _ _ _ _ c.recover_all.ensures.time c.length.ensures.rest (λ m image left. (g.met.D.Disk.image_known c.recover_all.new.disk m image left).past))
    c.recover_torn.ensures.time (λ d image there step. step)

pub returns-in-Some-clause-within : goal.returns-in-Some-clause-within
returns-in-Some-clause-within g c = run_twice _ _ _ _ _ _ 167772160
    (then_none _ _ _ _ _ _ _ _ _ _ 167772160 c.recover_all.ensures.within c.length.ensures.rest (λ m image left. (g.met.D.Disk.image_known c.recover_all.new.disk m image left).past))
    c.recover_torn.ensures.within

pub returns-in-Some-clause-ok : goal.returns-in-Some-clause-ok
returns-in-Some-clause-ok g c = ok_map c.recover_torn.result _ _ c.recover_torn.ensures.ok (λ w is known.
    let known1 : IsTrue (g.D.Disk.observable c.recover_all.new.disk) = subst (λ (b : Bool). IsTrue b) (sym c.recover_all.ensures.same_observable) known in
    let known2 : IsTrue (g.D.Disk.observable c.length.new.self) = subst (λ (b : Bool). IsTrue b) (sym c.length.ensures.rest.same_observable) known1 in
    again_slots (g.D.Disk.seen c.args.disk.now) (g.D.Disk.seen c.recover_all.new.disk) _ _ _ _ _ _ _ _ _ _ (c.in_ok-opened.ensures.ok known) (g.met.D.Disk.reads_left c.recover_all.new.disk known1)
    (subst (λ (i : Image). Reopens i (g.D.Disk.left c.recover_torn.new.disk (g.D.Disk.time c.recover_torn.new.disk)) w.opened.area w.opened.generation w.opened.extent w.opened.gate) (c.length.ensures.rest.same known1) (is known2)))

pub returns-in-Some-clause-whole : goal.returns-in-Some-clause-whole
returns-in-Some-clause-whole g c = ok_map c.recover_torn.result _ _ c.recover_torn.ensures.whole (λ w is known.
    let known1 : IsTrue (g.D.Disk.observable c.recover_all.new.disk) = subst (λ (b : Bool). IsTrue b) (sym c.recover_all.ensures.same_observable) known in
    is (subst (λ (b : Bool). IsTrue b) (sym c.length.ensures.rest.same_observable) known1))

pub returns-in-Some-clause-none : goal.returns-in-Some-clause-none
returns-in-Some-clause-none g c = λ is known slots r.
    let known1 : IsTrue (g.D.Disk.observable c.recover_all.new.disk) = subst (λ (b : Bool). IsTrue b) (sym c.recover_all.ensures.same_observable) known in
    let known2 : IsTrue (g.D.Disk.observable c.length.new.self) = subst (λ (b : Bool). IsTrue b) (sym c.length.ensures.rest.same_observable) known1 in
    let one = c.in_ok-opened.ensures.ok known in
    let at_first : Recovers (g.D.Disk.seen c.recover_all.new.disk) one.slots = given_slots _ _ _ _ _ one.slots one.log (g.D.Disk.seen c.recover_all.new.disk) (g.met.D.Disk.reads_left c.recover_all.new.disk known1) in
    c.recover_torn.ensures.none is known2 one.slots (subst (λ (i : Image). Recovers i one.slots) (sym (c.length.ensures.rest.same known1)) at_first)
