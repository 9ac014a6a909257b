-- Steps that leave the machine as it is.
use Rattle.std.proofs.Common.{◌≡◌, [], sym, ap, ◌∙◌, subst, reverse}
use Rattle.std.specs.Prelude.{Vec}
use Rattle.std.specs.declared.alloc.Global.{Global}
use Rattle.block_meaning.proofs.Continues.{begins_itself}
use Rattle.flat_machine.specs.Flat.{means, config, Unwind}
use Rattle.client_output.proofs.Unchanged.{written_same}
use Rattle.client_machine.specs.declared.machine.Machine.{Machine}
use Rattle.client_machine.specs.declared.mode.Completion.{Completion}
use Rattle.client_machine.specs.declared.mode.Mode.TheVariants as mode
use Rattle.client_machine.specs.declared.mode.StackEntry.{StackEntry}
use Rattle.client_machine.specs.Config.{completion_of, stack_of}
use Rattle.client_machine.specs.Inputs.{names_of}
use Rattle.client_machine.specs.Machine.{config_of, state_in}
use Rattle.client_machine.specs.Order.{nesting_of, ModeInOrder}
use Rattle.client_machine.specs.Step.{Fits, KeepsRun, KeepsCompletion}

pub same_run : (old new : Machine) → new ≡ old → KeepsRun [] old new
same_run old new e = λ tree p rest is f.
    record {
      rest = rest;
      code = ap (λ (m : Machine). m.code) e;
      fits = subst (λ (m : Machine). Fits p rest m) (sym e) f;
      more = begins_itself rest.written;
      has = λ has. written_same old.output new.output (names_of old.code) rest.written (ap (λ (m : Machine). m.output) e) has;
      same = λ ans. ap (λ (m : Machine). means tree p (config_of rest m) ans) (sym e);
    }

-- it unwinds, and the stack has the same entries
pub same_unwinding : (w : Completion) (old new : Machine) (more : Vec StackEntry Global) → more.items ≡ old.stack.items → (let m : Machine = record old { mode = mode.Unwind w; stack = more } in new ≡ m) → KeepsCompletion w old new
same_unwinding w old new more items moved = λ tree p rest is f.
    record {
      rest = rest;
      code = ap (λ (m : Machine). m.code) moved;
      fits = subst (λ (m : Machine). Fits p rest m) (sym moved) (record { program = f.program; state = f.state; even = f.even; whole = f.whole; order = subst (λ os. ModeInOrder (nesting_of old.memory) (mode.Unwind w) (reverse os)) (sym items) f.order });
      more = begins_itself rest.written;
      has = λ has. written_same old.output new.output (names_of old.code) rest.written (ap (λ (m : Machine). m.output) moved) has;
      same = λ ans.
          ap (λ os. means tree p (config (Unwind (completion_of old.code.instrs.items old.memory.copies w)) (stack_of old.code.instrs.items old.memory.copies (reverse os)) (state_in rest old)) ans) (sym items)
          ∙ ap (λ (m : Machine). means tree p (config_of rest m) ans) (sym moved);
    }
