-- FIND CURRENT begins.
use Rattle.std.proofs.Common.{◌≡◌, Bool, ℕ, List, Option, refl, sym, ap, ◌∙◌, subst}
use Rattle.abl_base.specs.declared.row.RowId.{RowId}
use Rattle.block_meaning.specs.Frames.{content_of}
use Rattle.block_meaning.specs.Lines.{NoRecordIn}
use Rattle.block_meaning.specs.Program.{Program}
use Rattle.block_meaning.specs.State as state
use Rattle.block_meaning.specs.State.{State}
use Rattle.flat_machine.specs.Flat as flat
use Rattle.buffer_steps.specs.reads.Steps.{CurrentGoes}
use Rattle.buffer_steps.specs.declared.reads.buffers.Current.TheVariants as current
use Rattle.client_machine.specs.declared.machine.Machine.{Machine}
use Rattle.client_machine.specs.declared.mode.Task.TheVariants as task
use Rattle.client_machine.specs.declared.mode.reads.ReadTask.TheVariants as read_task
use Rattle.client_machine.specs.Config.{instr_at, reading_at}
use Rattle.client_machine.specs.KeepsFrom.{KeepsFrom}
use Rattle.client_machine.specs.Machine.{stack_in, state_in}
use Rattle.client_machine.specs.Statements.{wait_in}
use Rattle.client_machine.specs.Step.{KeepsTask}
use Rattle.client_finds.specs.Stays.{ReadsIn, StaysIn, state_under}
use Rattle.client_finds.specs.Steps.{instrs_in}
use Rattle.client_finds.proofs.Kept.{memory_goes, refused_kept, step_kept, task_from}

-- the step on what the buffer holds
pub current_from : (old new : Machine) (k : ℕ) → KeepsFrom (λ p s. flat.current_in_step (content_of (reading_at (instrs_in old) k).buffer s) (reading_at (instrs_in old) k) (wait_in (instr_at (instrs_in old) k)) (stack_in old) s) old new → KeepsTask (task.Read (read_task.FindsCurrent k)) old new
current_from old new k keeps =
    let r = reading_at (instrs_in old) k in
    let wait = wait_in (instr_at (instrs_in old) k) in
    task_from (task.Read (read_task.FindsCurrent k)) old new (λ o. o.1)
    (step_kept (flat.FindsCurrent r wait) (λ p s. flat.current_in_step (content_of r.buffer s) r wait (stack_in old) s) old new (λ p rest f. refl) keeps)

-- it is empty
pub current_empty : (old mid new : Machine) (k b : ℕ) → (let m : Machine = record old { memory = mid.memory } in mid ≡ m) → StaysIn old mid.memory → b ≡ (reading_at (instrs_in old) k).buffer →
    ((p : Program) (rest : State) → ReadsIn p rest old → CurrentGoes current.Empty (reading_at (instrs_in old) k) (state_under rest old) (state_under rest mid)) →
    KeepsFrom (λ p s. flat.fault (NoRecordIn b) (stack_in mid) s) mid new → KeepsTask (task.Read (read_task.FindsCurrent k)) old new
current_empty old mid new k b moved stays is_buffer goes keeps =
    let r = reading_at (instrs_in old) k in
    let wait = wait_in (instr_at (instrs_in old) k) in
    current_from old new k
    (refused_kept (λ p s. flat.current_in_step (content_of r.buffer s) r wait (stack_in old) s) old mid new NoRecordIn b r.buffer moved stays is_buffer (λ p rest reads. goes p rest reads wait (stack_in old)) keeps)

-- a record that is not inserted yet stays
pub current_pending : (old mid new : Machine) (k : ℕ) → (let m : Machine = record old { memory = mid.memory } in mid ≡ m) → StaysIn old mid.memory →
    ((p : Program) (rest : State) → ReadsIn p rest old → CurrentGoes current.Pending (reading_at (instrs_in old) k) (state_under rest old) (state_under rest mid)) →
    KeepsFrom (λ p s. flat.config (flat.Unwind state.Normal) (stack_in mid) s) mid new → KeepsTask (task.Read (read_task.FindsCurrent k)) old new
current_pending old mid new k moved stays goes keeps =
    let r = reading_at (instrs_in old) k in
    let wait = wait_in (instr_at (instrs_in old) k) in
    current_from old new k
    (memory_goes (λ p s. flat.current_in_step (content_of r.buffer s) r wait (stack_in old) s) (λ is p ks s. flat.config (flat.Unwind state.Normal) ks s) old mid new moved stays (λ p rest reads. goes p rest reads wait (stack_in old)) keeps)

-- a row is locked and read again
pub current_row : (old mid new : Machine) (k : ℕ) (row : RowId) (made : Option ℕ) → (let m : Machine = record old { memory = mid.memory } in mid ≡ m) → StaysIn old mid.memory →
    ((p : Program) (rest : State) → ReadsIn p rest old → CurrentGoes (current.Record row made) (reading_at (instrs_in old) k) (state_under rest old) (state_under rest mid)) →
    KeepsFrom (λ p s. flat.current_step (reading_at (instrs_in mid) k).lock (reading_at (instrs_in mid) k) (wait_in (instr_at (instrs_in mid) k)) row made (stack_in mid) s) mid new → KeepsTask (task.Read (read_task.FindsCurrent k)) old new
current_row old mid new k row made moved stays goes keeps =
    let r = reading_at (instrs_in old) k in
    let wait = wait_in (instr_at (instrs_in old) k) in
    current_from old new k
    (memory_goes (λ p s. flat.current_in_step (content_of r.buffer s) r wait (stack_in old) s) (λ is p ks s. flat.current_step (reading_at is k).lock (reading_at is k) (wait_in (instr_at is k)) row made ks s) old mid new moved stays (λ p rest reads. goes p rest reads wait (stack_in old)) keeps)
