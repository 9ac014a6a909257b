-- The log read, and then the slots opened.
use Rattle.std.proofs.Common.{◌≡◌, ℕ, List, Bool, IsTrue, Ok, Err, sym, ap, subst, arith}
use Rattle.log_meaning.specs.steps.Steps.{Image}
use Rattle.log_meaning.specs.Images.{Recovers}
use Rattle.log_meaning.proofs.StepsLemmas.Runs.{stayed}
use Rattle.bi_log.specs.Lengths.{StayShort}
use Rattle.bi_log.proofs.Lengths.{short_now, short_run}
use Rattle.bi_recovery.specs.declared.open_fault.OpenFault.{OpenFault}
use Rattle.bi_recovery.specs.Reopening.{IsReadAs, SameRecovery}
use Rattle.bi_recovery.proofs.Recovery.{after_stay}
use Rattle.bi_recovery.proofs.Lengths.{none_longer}
use Rattle.slot_txn.proofs.Recovered.{ok_map, err_map}
use Rattle.slot_txn.proofs.Opened.{opened_before}
use Rattle.slot_txn.proofs.slot_txn.SlotTxn.open.Goals as goal

pub open_read-requires : goal.open_read-requires
open_read-requires g c = record {
  log = λ known1.
      let known : IsTrue (g.D.Disk.observable c.args.disk) = subst (λ (b : Bool). IsTrue b) c.read_log.ensures.rest.same_observable known1 in
      subst (λ (i : Image). IsReadAs i c.in-Ok.log.area c.in-Ok.log.generation c.in-Ok.log.slots.items) (sym (c.read_log.ensures.rest.same known)) (c.in-Ok.ensures.ok known);
}

pub returns-in-Ok-clause-ok : goal.returns-in-Ok-clause-ok
returns-in-Ok-clause-ok g c = ok_map c.open_read.result _ _ c.open_read.ensures.ok (λ s opened. opened_before _ _ _ _ _ _ _ _ c.read_log.ensures.rest _ _ opened)

pub returns-in-Ok-clause-run : goal.returns-in-Ok-clause-run
returns-in-Ok-clause-run g c = ok_map c.open_read.result _ _ c.open_read.ensures.run (λ s run. after_stay _ _ _ _ _ _ _ _ _ _ c.read_log.ensures.rest (λ m image left. (g.met.D.Disk.image_known c.args.disk m image left).past) run)

pub returns-in-Ok-clause-err_run : goal.returns-in-Ok-clause-err_run
returns-in-Ok-clause-err_run g c = err_map c.open_read.result _ _ c.open_read.ensures.err_run (λ e run. after_stay _ _ _ _ _ _ _ _ _ _ c.read_log.ensures.rest (λ m image left. (g.met.D.Disk.image_known c.args.disk m image left).past) run)

pub returns-in-Ok-clause-short : goal.returns-in-Ok-clause-short
returns-in-Ok-clause-short g c = ok_map c.open_read.result _ _ c.open_read.ensures.short (λ s short. subst (StayShort (g.D.Disk.left s.slots.disk)) c.read_log.ensures.rest.moment short)

pub returns-in-Ok-clause-err_short : goal.returns-in-Ok-clause-err_short
returns-in-Ok-clause-err_short g c = err_map c.open_read.result _ _ c.open_read.ensures.err_short (λ e short. subst (StayShort (g.D.Disk.left e.1)) c.read_log.ensures.rest.moment short)

pub returns-in-Ok-clause-none : goal.returns-in-Ok-clause-none
returns-in-Ok-clause-none g c = err_map c.open_read.result _ _ c.open_read.ensures.none (λ e none is known.
    let known1 : IsTrue (g.D.Disk.observable c.read_log.new.disk) = subst (λ (b : Bool). IsTrue b) (sym c.read_log.ensures.rest.same_observable) known in
    subst (λ (i : Image). (slots : ℕ → List ℕ) → Recovers i slots → ⊥) (c.read_log.ensures.rest.same known) (none is known1))

pub returns-in-Err-clause-none : goal.returns-in-Err-clause-none
returns-in-Err-clause-none g c = λ is. c.in-Err.ensures.none (ap (λ (f : OpenFault). Err f) is)

pub returns-in-Err-clause-err_run : goal.returns-in-Err-clause-err_run
returns-in-Err-clause-err_run g c = stayed _ _ _ _ _ _ _ _ SameRecovery c.read_log.ensures.rest (λ m image left. (g.met.D.Disk.image_known c.args.disk m image left).past)

pub returns-in-Err-clause-err_short : goal.returns-in-Err-clause-err_short
returns-in-Err-clause-err_short g c = short_run (g.D.Disk.time c.args.disk) _ _ (g.D.Disk.left c.args.disk) (g.D.Disk.left c.read_log.new.disk)
    (none_longer _ _ _ _ _ _ _ _ 167772160 c.read_log.ensures.rest (λ m image left. (g.met.D.Disk.image_known c.args.disk m image left).past)) (omega arith) (short_now _ _ (λ m image left. (g.met.D.Disk.image_known c.args.disk m image left).past))
