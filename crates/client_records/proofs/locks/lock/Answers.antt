use Rattle.std.proofs.Common.{Some, sym, subst}
use Rattle.flat_machine.specs.Flat as flat
use Rattle.block_meaning.specs.Frames.{content_of, table_of}
use Rattle.block_meaning.specs.Program.{Program}
use Rattle.block_meaning.specs.State.{State}
use Rattle.client_machine.specs.Machine.{stack_in, state_in}
use Rattle.client_machine.specs.KeepsFrom.{KeepsFrom}
use Rattle.client_machine.specs.declared.machine.Machine.{Machine}
use Rattle.client_machine.specs.declared.mode.Completion.TheVariants as completion
use Rattle.client_machine.specs.declared.mode.LineFault.TheVariants as line_fault
use Rattle.client_machine.specs.declared.mode.Mode.TheVariants as mode
use Rattle.record_rules.specs.declared.lines.complaint.Complaint.TheVariants as complaint
use Rattle.client_machine.specs.declared.mode.changes.ChangeAnswer.TheVariants as change_answer
use Rattle.client_records.specs.Locks.{LockIs}
use Rattle.client_records.specs.Reads.{ReadsOf}
use Rattle.client_records.proofs.Kept.{ask_kept, begun_mode, mode_kept, reads_of}
use Rattle.client_records.proofs.locks.lock.Goals as goal

pub returns-in-Enough-clause-ok : goal.returns-in-Enough-clause-ok
returns-in-Enough-clause-ok c =
    let mid = c.lock_step.new.machine in
    let b = c.args.buffer in
    let from = λ (m : Machine) (p : Program) (s : State). flat.lock_step (content_of b s) (table_of b s) b (stack_in m) s in
    let goes = subst (λ (m : Machine). (p : Program) (rest : State) → ReadsOf p rest m → LockIs c.in_ok-lock_step.field-0 b (state_in rest m)) (sym c.lock_step.ensures.same) c.in_ok-lock_step.ensures.goes in
    let goes_so = rw c.in-Enough.is at goes in
    subst (λ (m : Machine). KeepsFrom (from m) m c.complete.new.machine) c.lock_step.ensures.same
    (mode_kept (from mid) mid c.complete.new.machine (mode.Unwind completion.Normal) c.complete.ensures (λ o. o) (λ p rest f. goes_so p rest (reads_of p rest begun_mode mid f) (stack_in mid)))

pub returns-in-ReadNoLock-clause-ok : goal.returns-in-ReadNoLock-clause-ok
returns-in-ReadNoLock-clause-ok c =
    let mid = c.lock_step.new.machine in
    let b = c.args.buffer in
    let from = λ (m : Machine) (p : Program) (s : State). flat.lock_step (content_of b s) (table_of b s) b (stack_in m) s in
    let goes = subst (λ (m : Machine). (p : Program) (rest : State) → ReadsOf p rest m → LockIs c.in_ok-lock_step.field-0 b (state_in rest m)) (sym c.lock_step.ensures.same) c.in_ok-lock_step.ensures.goes in
    let goes_so = rw c.in-ReadNoLock.is at goes in
    subst (λ (m : Machine). KeepsFrom (from m) m c.complain.new.machine) c.lock_step.ensures.same
    (mode_kept (from mid) mid c.complain.new.machine (mode.Unwind (completion.Faults (Some (line_fault.Complaint (complaint.ReadNoLock b))))) c.complain.ensures (λ o. o) (λ p rest f. goes_so p rest (reads_of p rest begun_mode mid f) (stack_in mid)))

pub returns-in-Asks-clause-ok : goal.returns-in-Asks-clause-ok
returns-in-Asks-clause-ok c =
    let mid = c.lock_step.new.machine in
    let b = c.args.buffer in
    let from = λ (m : Machine) (p : Program) (s : State). flat.lock_step (content_of b s) (table_of b s) b (stack_in m) s in
    let goes = subst (λ (m : Machine). (p : Program) (rest : State) → ReadsOf p rest m → LockIs c.in_ok-lock_step.field-0 b (state_in rest m)) (sym c.lock_step.ensures.same) c.in_ok-lock_step.ensures.goes in
    let goes_so = rw c.in-Asks.is at goes in
    subst (λ (m : Machine). KeepsFrom (from m) m c.ask.new.self) c.lock_step.ensures.same
    (ask_kept (from mid) mid c.ask.new.self c.in-Asks.op (change_answer.WasUpgraded b c.in-Asks.row c.in-Asks.values c.in-Asks.made) c.ask.ensures.moved c.ask.ensures.mode c.ask.ensures.asks
    (λ p rest f. (goes_so p rest (reads_of p rest begun_mode mid f)).0)
    (λ p rest f. (goes_so p rest (reads_of p rest begun_mode mid f)).1 (stack_in mid)))
