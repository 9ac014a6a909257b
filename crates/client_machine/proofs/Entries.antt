-- A completion reaches an entry of the stack.
use Rattle.std.proofs.Common.{◌≡◌, refl, sym, ap, ◌∙◌, subst, ◌∷◌}
use Rattle.std.specs.Prelude.{reverse, Bool, List}
use Rattle.block_code.specs.declared.code.Instr.{Instr}
use Rattle.block_meaning.specs.Program.{Program}
use Rattle.block_meaning.specs.State.{State, Copy}
use Rattle.block_meaning.proofs.Continues.{begins_itself}
use Rattle.flat_machine.specs.Flat as flat
use Rattle.flat_machine.proofs.Machine.{step_means}
use Rattle.client_output.proofs.Unchanged.{written_same}
use Rattle.client_machine.specs.declared.machine.Machine.{Machine}
use Rattle.client_machine.specs.declared.mode.Mode.{Mode}
use Rattle.client_machine.specs.declared.mode.Mode.TheVariants as mode
use Rattle.client_machine.specs.declared.mode.Completion.{Completion}
use Rattle.client_machine.specs.declared.mode.Completion.TheVariants as completion
use Rattle.client_machine.specs.declared.mode.StackEntry.{StackEntry}
use Rattle.client_machine.specs.Config.{mode_of, entry_of, stack_of, completion_of}
use Rattle.client_machine.specs.Machine.{config_of, stack_in, state_in}
use Rattle.client_machine.specs.Inputs.{names_of}
use Rattle.client_machine.specs.Order.{nesting_of, CompletesInOrder, ModeInOrder, IsNoFault}
use Rattle.client_machine.specs.Step.{FitsIn, KeepsCompletion, KeepsEntry}

-- the machine changes only its mode
pub entry_kept : (entry : StackEntry) (w : Completion) (old new : Machine) (m : Mode) → (let x : Machine = record old { mode = m } in new ≡ x) →
    (CompletesInOrder (nesting_of old.memory) w (entry ∷ reverse old.stack.items) → ModeInOrder (nesting_of old.memory) m (reverse old.stack.items)) →
    ((p : Program) (rest : State) → flat.config (mode_of old.code.instrs.items old.memory.copies m) (stack_in old) (state_in rest old) ≡ flat.pop_step p (entry_of old.code.instrs.items old.memory.copies entry) (completion_of old.code.instrs.items old.memory.copies w) (stack_in old) (state_in rest old)) →
    KeepsEntry entry w old new
entry_kept entry w old new m moved order steps = λ tree p rest is f.
    let x : Machine = record old { mode = m } in
    record {
      rest = rest;
      code = ap (λ (m : Machine). m.code) moved;
      fits = subst (λ (n : Machine). FitsIn p rest n.mode n) (sym moved) (record { program = f.program; state = f.state; even = f.even; whole = f.whole; order = order f.order });
      more = begins_itself rest.written;
      has = λ has. written_same old.output new.output (names_of old.code) rest.written (ap (λ (m : Machine). m.output) moved) has;
      same = λ ans.
          step_means _ tree p is (flat.config (flat.Unwind (completion_of old.code.instrs.items old.memory.copies w)) (entry_of old.code.instrs.items old.memory.copies entry ∷ stack_in old) (state_in rest old)) ans
          ∙ ap (λ c. flat.means tree p c ans) (sym (steps p rest))
          ∙ ap (λ (m : Machine). flat.means tree p (config_of rest m) ans) (sym moved);
    }

-- the innermost entry was popped from the stack
pub unwound : (entry : StackEntry) (w : Completion) (old mid new : Machine) → reverse old.stack.items ≡ entry ∷ reverse mid.stack.items →
    (let x : Machine = record old { stack = mid.stack } in KeepsEntry entry w x new) → KeepsCompletion w old new
unwound entry w old mid new popped kept = λ tree p rest is f.
    let k = kept tree p rest is (record { program = f.program; state = f.state; even = f.even; whole = f.whole; order = subst (λ ks. CompletesInOrder (nesting_of old.memory) w ks) popped f.order }) in
    record {
      rest = k.rest;
      code = k.code;
      fits = k.fits;
      more = k.more;
      has = k.has;
      same = λ ans. ap (λ ks. flat.means tree p (flat.config (flat.Unwind (completion_of old.code.instrs.items old.memory.copies w)) (stack_of old.code.instrs.items old.memory.copies ks) (state_in rest old)) ans) popped ∙ k.same ans;
    }

-- a completion that is no fault passes the entry of a statement
pub passes : (quiet : Bool) (w : Completion) (old : Machine) (p : Program) (rest : State) → IsNoFault w →
    flat.config (mode_of old.code.instrs.items old.memory.copies (mode.Unwind w)) (stack_in old) (state_in rest old) ≡ flat.pop_step p (flat.Handles quiet) (completion_of old.code.instrs.items old.memory.copies w) (stack_in old) (state_in rest old)
passes quiet completion.Normal old p rest x = refl
passes quiet (completion.Again t) old p rest x = refl
passes quiet (completion.Leaves l) old p rest x = refl
passes quiet (completion.Nexts l) old p rest x = refl
passes quiet (completion.Undoes block a retry y) old p rest x = refl
passes quiet (completion.Faults c) old p rest x = absurd x
passes quiet (completion.Raises y) old p rest x = refl
passes quiet (completion.EndKeys y) old p rest x = refl
passes quiet (completion.Returns error) old p rest x = refl
passes quiet (completion.Found c) old p rest x = refl
passes quiet completion.Lost old p rest x = refl
passes quiet completion.NotFound old p rest x = refl
passes quiet (completion.Stops why) old p rest x = refl

-- a completion other than Normal skips a task that follows
pub then_past : (w : Completion) (code : List Instr) (cs : List Copy) (t : flat.Task) (ks : List flat.StackEntry) (s : State) → (w ≡ completion.Normal → ⊥) →
    flat.config (flat.Unwind (completion_of code cs w)) ks s ≡ flat.then_step (completion_of code cs w) t ks s
then_past completion.Normal code cs t ks s x = absurd (x refl)
then_past (completion.Again y) code cs t ks s x = refl
then_past (completion.Leaves l) code cs t ks s x = refl
then_past (completion.Nexts l) code cs t ks s x = refl
then_past (completion.Undoes block a retry y) code cs t ks s x = refl
then_past (completion.Faults c) code cs t ks s x = refl
then_past (completion.Raises y) code cs t ks s x = refl
then_past (completion.EndKeys y) code cs t ks s x = refl
then_past (completion.Found c) code cs t ks s x = refl
then_past completion.Lost code cs t ks s x = refl
then_past completion.NotFound code cs t ks s x = refl
then_past (completion.Returns error) code cs t ks s x = refl
then_past (completion.Stops why) code cs t ks s x = refl
