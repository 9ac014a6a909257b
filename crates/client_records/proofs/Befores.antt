-- A completion reaches the content of a buffer before the statement.
use Rattle.std.proofs.Common.{◌≡◌, ℕ, List, [], ◌∷◌, refl, sym, ap, ◌∙◌, subst}
use Rattle.std.specs.Prelude.{Option, reverse}
use Rattle.block_meaning.specs.Changes.{as_before}
use Rattle.block_meaning.specs.Frames.{content_of, holding}
use Rattle.block_meaning.specs.Program.{Program}
use Rattle.block_meaning.specs.State as state
use Rattle.block_meaning.specs.State.{State}
use Rattle.block_meaning.proofs.Continues.{begins_itself}
use Rattle.flat_machine.specs.Flat as flat
use Rattle.flat_machine.proofs.Machine.{step_means}
use Rattle.client_output.proofs.Unchanged.{written_same}
use Rattle.client_memory.specs.Buffers.{denoted_content}
use Rattle.client_memory.specs.declared.buffer.Content.{Content as ContentRs}
use Rattle.client_machine.specs.declared.machine.Machine.{Machine}
use Rattle.client_machine.specs.declared.mode.Mode.TheVariants as mode
use Rattle.client_machine.specs.declared.mode.Completion.{Completion}
use Rattle.client_machine.specs.declared.mode.Completion.TheVariants as completion
use Rattle.client_machine.specs.declared.mode.LineFault.{LineFault}
use Rattle.client_machine.specs.declared.mode.StackEntry.{StackEntry}
use Rattle.client_machine.specs.declared.mode.StackEntry.TheVariants as stack
use Rattle.client_machine.specs.declared.mode.changes.ChangeEntry.TheVariants as change_entry
use Rattle.client_machine.specs.Config.{completion_of, complaint_if, mode_of}
use Rattle.client_machine.specs.Inputs.{names_of}
use Rattle.client_machine.specs.Machine.{config_of, stack_in, state_in}
use Rattle.client_machine.specs.Order.{CompletesInOrder, IsNoFault, Nesting, nesting_of}
use Rattle.client_machine.specs.Step.{FitsIn, KeepsEntry, code_in}
use Rattle.client_records.specs.Reads.{ReadsOf}
use Rattle.client_records.proofs.Kept.{begun_mode, memory_kept, reads_of}

-- a fault restores the content
pub restored_kept : (b : ℕ) (content : ContentRs) (fault : Option LineFault) (old mid new : Machine) → (let m : Machine = record old { memory = mid.memory } in mid ≡ m) → (let m : Machine = record mid { mode = mode.Unwind (completion.Faults fault) } in new ≡ m) →
    mid.memory.copies ≡ old.memory.copies → ((p : Program) (rest : State) → ReadsOf p rest old → ReadsOf p rest mid) →
    ((p : Program) (rest : State) → ReadsOf p rest old → state_in rest mid ≡ holding b (as_before (denoted_content content) (content_of b (state_in rest old))) (state_in rest old)) →
    KeepsEntry (stack.Change (change_entry.AsBefore b content)) (completion.Faults fault) old new
restored_kept b content fault old mid new moved to copies reads state_is = λ tree p rest is f.
    let g : FitsIn p rest begun_mode old = record { program = f.program; state = f.state; even = f.even; whole = f.whole; order = f.order } in
    let w = state.Faults (complaint_if fault) in
    let before = denoted_content content in
    let k = memory_kept (λ p s. flat.config (flat.Unwind w) (stack_in old) (holding b (as_before before (content_of b s)) s)) old mid new (mode.Unwind (completion.Faults fault)) moved to copies reads (λ o. o)
    (λ tree p rest is f ans. ap (λ (s : State). flat.means tree p (flat.config (flat.Unwind w) (stack_in old) s) ans) (sym (state_is p rest (reads_of p rest begun_mode old f)))) tree p rest is g in
    record {
      rest = k.rest;
      code = k.code;
      fits = k.fits;
      more = k.more;
      has = k.has;
      same = λ ans. step_means (code_in old) tree p is (flat.config (flat.Unwind w) (flat.AsBefore (before ∷ []) (b ∷ []) ∷ stack_in old) (state_in rest old)) ans ∙ k.same ans;
    }

-- another completion passes by
passes : (b : ℕ) (content : ContentRs) (w : Completion) (old : Machine) (p : Program) (rest : State) → IsNoFault w →
    flat.config (mode_of old.code.instrs.items old.memory.copies (mode.Unwind w)) (stack_in old) (state_in rest old) ≡ flat.before_step (completion_of old.code.instrs.items old.memory.copies w) (denoted_content content ∷ []) (b ∷ []) (stack_in old) (state_in rest old)
passes b content completion.Normal old p rest x = refl
passes b content (completion.Again t) old p rest x = refl
passes b content (completion.Leaves l) old p rest x = refl
passes b content (completion.Nexts l) old p rest x = refl
passes b content (completion.Undoes block a retry y) old p rest x = refl
passes b content (completion.Faults c) old p rest x = absurd x
passes b content (completion.Raises y) old p rest x = refl
passes b content (completion.EndKeys y) old p rest x = refl
passes b content (completion.Found c) old p rest x = refl
passes b content completion.Lost old p rest x = refl
passes b content completion.NotFound old p rest x = refl
passes b content (completion.Returns error) old p rest x = refl
passes b content (completion.Stops why) old p rest x = refl

in_order : (b : ℕ) (content : ContentRs) (w : Completion) (n : Nesting) (ks : List StackEntry) → CompletesInOrder n w (stack.Change (change_entry.AsBefore b content) ∷ ks) → CompletesInOrder n w ks
in_order b content completion.Normal n ks o = o
in_order b content (completion.Again t) n ks o = o
in_order b content (completion.Leaves l) n ks o = o
in_order b content (completion.Nexts l) n ks o = o
in_order b content (completion.Undoes block a retry y) n ks o = o
in_order b content (completion.Faults c) n ks o = o
in_order b content (completion.Raises y) n ks o = o
in_order b content (completion.EndKeys y) n ks o = o
in_order b content (completion.Found c) n ks o = o
in_order b content completion.Lost n ks o = o
in_order b content completion.NotFound n ks o = o
in_order b content (completion.Returns error) n ks o = o
in_order b content (completion.Stops why) n ks o = o

pub passed_kept : (b : ℕ) (content : ContentRs) (w : Completion) (old new : Machine) → IsNoFault w → (let m : Machine = record old { mode = mode.Unwind w } in new ≡ m) → KeepsEntry (stack.Change (change_entry.AsBefore b content)) w old new
passed_kept b content w old new other moved = λ tree p rest is f.
    record {
      rest = rest;
      code = ap (λ (m : Machine). m.code) moved;
      fits = subst (λ (m : Machine). FitsIn p rest m.mode m) (sym moved) (record { program = f.program; state = f.state; even = f.even; whole = f.whole; order = in_order b content w (nesting_of old.memory) (reverse old.stack.items) f.order });
      more = begins_itself rest.written;
      has = λ has. written_same old.output new.output (names_of old.code) rest.written (ap (λ (m : Machine). m.output) moved) has;
      same = λ ans.
          step_means (code_in old) tree p is (flat.config (flat.Unwind (completion_of old.code.instrs.items old.memory.copies w)) (flat.AsBefore (denoted_content content ∷ []) (b ∷ []) ∷ stack_in old) (state_in rest old)) ans
          ∙ ap (λ c. flat.means tree p c ans) (sym (passes b content w old p rest other))
          ∙ ap (λ (m : Machine). flat.means tree p (config_of rest m) ans) (sym moved);
    }
