use Rattle.std.proofs.Common.{◌≡◌, Some, ap, refl, sym, subst, ◌∙◌}
use Rattle.flat_machine.specs.Flat as flat
use Rattle.block_meaning.specs.Frames.{content_of, table_of}
use Rattle.block_meaning.specs.Program.{Program}
use Rattle.block_meaning.specs.State.{State}
use Rattle.buffer_steps.specs.changes.Buffers.{HasTables}
use Rattle.buffer_steps.specs.changes.Steps.{SettleGoes}
use Rattle.client_machine.specs.Machine.{stack_in, state_in}
use Rattle.client_machine.specs.Step.{KeepsTask}
use Rattle.client_machine.specs.declared.machine.Machine.{Machine}
use Rattle.client_machine.specs.declared.mode.Completion.TheVariants as completion
use Rattle.client_machine.specs.declared.mode.LineFault.TheVariants as line_fault
use Rattle.client_machine.specs.declared.mode.Mode.TheVariants as mode
use Rattle.client_machine.specs.declared.mode.Task.TheVariants as task
use Rattle.client_machine.specs.declared.mode.changes.ChangeAnswer.TheVariants as change_answer
use Rattle.client_machine.specs.declared.mode.changes.ChangeTask.TheVariants as change_task
use Rattle.client_machine.specs.declared.mode.ends.EndTask.TheVariants as end_task
use Rattle.client_records.specs.Locks.{StoresRow}
use Rattle.client_records.specs.Reads.{ReadsOf}
use Rattle.client_records.proofs.Kept.{ask_kept, begun_mode, mode_kept, reads_of, task_step_from}
use Rattle.client_records.proofs.stores.settles_one.Goals as goal

pub returns-in-Nothing-clause-ok : goal.returns-in-Nothing-clause-ok
returns-in-Nothing-clause-ok c =
    let mid = c.store_step.new.machine in
    let b = c.args.buffer in
    let from = λ (p : Program) (s : State). flat.settle_step p (content_of b s) (table_of b s) b (stack_in mid) s in
    let goes = subst (λ (m : Machine). (p : Program) (rest : State) → HasTables p m.inputs.schema → ReadsOf p rest m → SettleGoes c.in_ok-store_step.field-0 p b (state_in rest m)) (sym c.store_step.ensures.same) c.in_ok-store_step.ensures.goes in
    let goes_so = rw c.in-Nothing.is at goes in
    subst (λ (m : Machine). KeepsTask (task.Change (change_task.SettlesOne b)) m c.complete.new.machine) (c.store_step.ensures.same ∙ c.table-table.ensures.same)
    (task_step_from (change_task.SettlesOne b) from mid c.complete.new.machine (λ p s. refl)
    (mode_kept from mid c.complete.new.machine (mode.Unwind completion.Normal) c.complete.ensures (λ o. o) (λ p rest f. goes_so p rest f.program.tables (reads_of p rest begun_mode mid f) (stack_in mid))))

pub returns-in-Inserts-clause-ok : goal.returns-in-Inserts-clause-ok
returns-in-Inserts-clause-ok c =
    let mid = c.store_step.new.machine in
    let b = c.args.buffer in
    let from = λ (p : Program) (s : State). flat.settle_step p (content_of b s) (table_of b s) b (stack_in mid) s in
    let goes = subst (λ (m : Machine). (p : Program) (rest : State) → HasTables p m.inputs.schema → ReadsOf p rest m → SettleGoes c.in_ok-store_step.field-0 p b (state_in rest m)) (sym c.store_step.ensures.same) c.in_ok-store_step.ensures.goes in
    let goes_so = rw c.in-Inserts.is at goes in
    subst (λ (m : Machine). KeepsTask (task.Change (change_task.SettlesOne b)) m c.insert.new.machine) (c.store_step.ensures.same ∙ c.table-table.ensures.same)
    (task_step_from (change_task.SettlesOne b) from mid c.insert.new.machine (λ p s. refl)
    (mode_kept from mid c.insert.new.machine (mode.Execute (task.End (end_task.EntersOne (record { out = 0; number = b })))) c.insert.ensures (λ o. o) (λ p rest f. goes_so p rest f.program.tables (reads_of p rest begun_mode mid f) (stack_in mid))))

pub returns-in-Fails-clause-ok : goal.returns-in-Fails-clause-ok
returns-in-Fails-clause-ok c =
    let mid = c.store_step.new.machine in
    let b = c.args.buffer in
    let from = λ (p : Program) (s : State). flat.settle_step p (content_of b s) (table_of b s) b (stack_in mid) s in
    let goes = subst (λ (m : Machine). (p : Program) (rest : State) → HasTables p m.inputs.schema → ReadsOf p rest m → SettleGoes c.in_ok-store_step.field-0 p b (state_in rest m)) (sym c.store_step.ensures.same) c.in_ok-store_step.ensures.goes in
    let goes_so = rw c.in-Fails.is at goes in
    subst (λ (m : Machine). KeepsTask (task.Change (change_task.SettlesOne b)) m c.complain.new.machine) (c.store_step.ensures.same ∙ c.table-table.ensures.same)
    (task_step_from (change_task.SettlesOne b) from mid c.complain.new.machine (λ p s. refl)
    (mode_kept from mid c.complain.new.machine (mode.Unwind (completion.Faults (Some (line_fault.Complaint c.in-Fails.complaint)))) c.complain.ensures (λ o. o) (λ p rest f. goes_so p rest f.program.tables (reads_of p rest begun_mode mid f) (stack_in mid))))

pub returns-in-Asks-clause-ok : goal.returns-in-Asks-clause-ok
returns-in-Asks-clause-ok c =
    let mid = c.store_step.new.machine in
    let b = c.args.buffer in
    let from = λ (p : Program) (s : State). flat.settle_step p (content_of b s) (table_of b s) b (stack_in mid) s in
    let goes = subst (λ (m : Machine). (p : Program) (rest : State) → HasTables p m.inputs.schema → ReadsOf p rest m → SettleGoes c.in_ok-store_step.field-0 p b (state_in rest m)) (sym c.store_step.ensures.same) c.in_ok-store_step.ensures.goes in
    let goes_so = rw c.in-Asks.is at goes in
    subst (λ (m : Machine). KeepsTask (task.Change (change_task.SettlesOne b)) m c.ask.new.self) (c.store_step.ensures.same ∙ c.table-table.ensures.same)
    (task_step_from (change_task.SettlesOne b) from mid c.ask.new.self (λ p s. refl)
    (let t = c.table-table.result in
    let stores = subst (λ (m : Machine). (p : Program) (rest : State) → HasTables p m.inputs.schema → ReadsOf p rest m → StoresRow c.in_ok-store_step.field-0) (sym c.store_step.ensures.same) c.in_ok-store_step.ensures.stores in
    let stores_so = rw c.in-Asks.is at stores in
    let table_is = subst (λ (m : Machine). (p : Program) (rest : State) → ReadsOf p rest m → t ≡ table_of b (state_in rest m)) (sym (c.store_step.ensures.same ∙ c.table-table.ensures.same)) c.table-table.ensures.table in
    ask_kept from mid c.ask.new.self c.in-Asks.op (change_answer.WasPut b t) c.ask.ensures.moved c.ask.ensures.mode c.ask.ensures.asks
    (λ p rest f. stores_so p rest f.program.tables (reads_of p rest begun_mode mid f))
    (λ p rest f. goes_so p rest f.program.tables (reads_of p rest begun_mode mid f) (stack_in mid)
    ∙ ap (λ k. flat.ask c.in-Asks.op (flat.WasPut b k) (stack_in mid) (state_in rest mid)) (sym (table_is p rest (reads_of p rest begun_mode mid f))))))
