-- The lock of a record that is read.
use Rattle.std.proofs.Common.{◌≡◌, Bool, ℕ, List, ◌∷◌, Option, refl, sym, ap, ◌∙◌}
use Rattle.abl_base.specs.declared.row.RowId.{RowId}
use Rattle.bound_tree.specs.declared.block.LockWanted.{LockWanted}
use Rattle.block_meaning.specs.Program.{Program}
use Rattle.block_meaning.specs.State.{State}
use Rattle.flat_machine.specs.Flat as flat
use Rattle.client_machine.specs.declared.machine.Machine.{Machine}
use Rattle.client_machine.specs.Config.{reading_at}
use Rattle.client_machine.specs.KeepsFrom.{KeepsFrom}
use Rattle.client_machine.specs.Machine.{stack_in, state_in}
use Rattle.client_finds.specs.Steps.{instrs_in, KeepsExecuted}
use Rattle.abl_base.specs.declared.value.Value.{Value}
use Rattle.block_meaning.specs.Reads.{held_as}
use Rattle.block_meaning.specs.State.{Held}
use Rattle.client_finds.specs.Stays.{ReadsIn, StaysIn, state_under}
use Rattle.client_finds.proofs.Kept.{memory_goes, same_kept, step_kept}

-- a match is locked, or not
pub took_kept : (old new : Machine) (k : ℕ) (wait retry : Bool) (row : RowId) (l : LockWanted) (from : Program → State → flat.Config) → (reading_at (instrs_in old) k).lock ≡ l →
    ((p : Program) (s : State) → flat.take_step l (reading_at (instrs_in old) k) wait retry row (stack_in old) s ≡ from p s) →
    KeepsFrom from old new → KeepsExecuted (flat.TakesAs (reading_at (instrs_in old) k) wait retry row) old new
took_kept old new k wait retry row l from is steps keeps =
    let r = reading_at (instrs_in old) k in
    step_kept (flat.TakesAs r wait retry row) from old new
    (λ p rest f. ap (λ x. flat.take_step x r wait retry row (stack_in old) (state_in rest old)) is ∙ steps p (state_in rest old)) keeps

-- the record of an iteration is locked again, or not
pub took_again_kept : (old new : Machine) (k : ℕ) (retry : Bool) (row : RowId) (l : LockWanted) (from : Program → State → flat.Config) → (reading_at (instrs_in old) k).lock ≡ l →
    ((p : Program) (s : State) → flat.take_again_step l (reading_at (instrs_in old) k) retry row (stack_in old) s ≡ from p s) →
    KeepsFrom from old new → KeepsExecuted (flat.TakesAgain (reading_at (instrs_in old) k) retry row) old new
took_again_kept old new k retry row l from is steps keeps =
    let r = reading_at (instrs_in old) k in
    step_kept (flat.TakesAgain r retry row) from old new
    (λ p rest f. ap (λ x. flat.take_again_step x r retry row (stack_in old) (state_in rest old)) is ∙ steps p (state_in rest old)) keeps

-- the record of FIND CURRENT is locked, or not
pub requested_kept : (old new : Machine) (k : ℕ) (wait : Bool) (row : RowId) (made : Option ℕ) (l : LockWanted) (from : Program → State → flat.Config) → (reading_at (instrs_in old) k).lock ≡ l →
    ((p : Program) (s : State) → flat.current_step l (reading_at (instrs_in old) k) wait row made (stack_in old) s ≡ from p s) →
    KeepsFrom from old new → KeepsFrom (λ p s. flat.current_step (reading_at (instrs_in old) k).lock (reading_at (instrs_in old) k) wait row made (stack_in old) s) old new
requested_kept old new k wait row made l from is steps keeps =
    let r = reading_at (instrs_in old) k in
    same_kept (λ p s. flat.current_step r.lock r wait row made (stack_in old) s) from old new
    (λ p rest f. ap (λ x. flat.current_step x r wait row made (stack_in old) (state_in rest old)) is ∙ steps p (state_in rest old)) keeps

-- ---- after the second reading

-- it passes WHERE, is lost, or WHERE has a fault
pub read_kept : (old mid new : Machine) (k : ℕ) (retry : Bool) (row : RowId) (lock : LockWanted) (held : Held) (values : Option (List Value)) (after : List flat.StackEntry → State → flat.Config) →
    (let m : Machine = record old { memory = mid.memory } in mid ≡ m) → StaysIn old mid.memory → held_as lock ≡ held →
    ((p : Program) (rest : State) → ReadsIn p rest old → flat.read_answered p values (reading_at (instrs_in old) k) retry row (held_as lock) (stack_in old) (state_under rest old) ≡ after (stack_in old) (state_under rest mid)) →
    KeepsFrom (λ p s. after (stack_in mid) s) mid new →
    KeepsFrom (λ p s. flat.read_answered p values (reading_at (instrs_in old) k) retry row held (stack_in old) s) old new
read_kept old mid new k retry row lock held values after moved stays same steps keeps =
    let r = reading_at (instrs_in old) k in
    memory_goes (λ p s. flat.read_answered p values r retry row held (stack_in old) s) (λ is p ks s. after ks s) old mid new moved stays
    (λ p rest reads. ap (λ h. flat.read_answered p values r retry row h (stack_in old) (state_under rest old)) (sym same) ∙ steps p rest reads) keeps
