-- An answer is heard.
use Rattle.std.proofs.Common.{◌≡◌, [], ◌∷◌, sym, ap, ◌∙◌, subst}
use Rattle.std.specs.Prelude.{reverse}
use Rattle.database_protocol.specs.declared.answer.Answer.{Answer}
use Rattle.database_protocol.specs.declared.operation.Op.{Op}
use Rattle.block_meaning.specs.Program.{Program}
use Rattle.block_meaning.specs.State.{State}
use Rattle.block_meaning.proofs.Continues.{begins_itself}
use Rattle.flat_machine.specs.Flat as flat
use Rattle.flat_machine.proofs.Machine.{answered_means}
use Rattle.client_memory.specs.Memory.{Remembered}
use Rattle.client_machine.specs.declared.machine.Machine.{Machine}
use Rattle.client_machine.specs.declared.mode.OnAnswer.{OnAnswer}
use Rattle.client_machine.specs.declared.mode.Mode.{Mode}
use Rattle.client_machine.specs.declared.mode.Mode.TheVariants as mode
use Rattle.client_machine.specs.Config.{on_answer_of, mode_of, AreEven}
use Rattle.client_machine.specs.Machine.{config_of, stack_in, state_in}
use Rattle.client_machine.specs.Order.{nesting_of, HaveDepths, ModeInOrder}
use Rattle.client_machine.proofs.Fits.{refits, refit, same_code, has_same, moved_by}
use Rattle.client_machine.specs.Step.{FitsIn, RunKept, KeepsRun}
use Rattle.client_machine.specs.AnswerClass.{KeepsAnswer}

pub answered_by : (op : Op) (on_answer : OnAnswer) (a : Answer) (old new : Machine) (m : Mode) (mem : Remembered) → (let x : Machine = record old { mode = m; memory = mem } in new ≡ x) →
    (AreEven old.procedures.items old.memory → AreEven old.procedures.items mem) →
    ((p : Program) (rest : State) → FitsIn p rest (mode.Await op on_answer) old → HaveDepths 0 mem.copies × ModeInOrder (nesting_of mem) m (reverse old.stack.items)) →
    ((p : Program) (rest : State) → FitsIn p rest (mode.Await op on_answer) old → config_of rest new ≡ flat.answered p a op (on_answer_of old.code.instrs.items old.memory.copies op on_answer) (stack_in old) (state_in rest old)) →
    KeepsAnswer op on_answer a old new
answered_by op on_answer a old new m mem moved even inv steps = λ tree p rest is f.
    let moved' = moved_by old new m mem moved in
    record {
      rest = rest;
      code = same_code old new moved';
      fits = refits p rest (mode.Await op on_answer) new.mode old new moved' f
          (subst (λ (n : Machine). AreEven n.procedures.items n.memory) (sym moved) (even f.even))
          (subst (λ (n : Machine). HaveDepths 0 n.memory.copies) (sym moved) (inv p rest f).0)
          (subst (λ (n : Machine). ModeInOrder (nesting_of n.memory) n.mode (reverse n.stack.items)) (sym moved) (inv p rest f).1);
      more = begins_itself rest.written;
      has = has_same old new rest.written moved';
      same = λ ans. answered_means tree p a op (on_answer_of old.code.instrs.items old.memory.copies op on_answer) (stack_in old) (state_in rest old) ans ∙ ap (λ c. flat.means tree p c ans) (sym (steps p rest f));
    }

pub answer_keeps : (op : Op) (on_answer : OnAnswer) (a : Answer) (x : Mode) (old new : Machine) → mode.Await op on_answer ≡ old.mode → KeepsAnswer op on_answer a (record old { mode = x }) new → KeepsRun (a ∷ []) old new
answer_keeps op on_answer a x old new e task_kept = λ tree p rest is fits.
    let k = task_kept tree p rest is (refit p rest (mode.Await op on_answer) x old (subst (λ m. FitsIn p rest m old) (sym e) fits)) in
    subst (λ m. RunKept tree p (flat.config (mode_of old.code.instrs.items old.memory.copies m) (stack_in old) (state_in rest old)) (a ∷ []) rest.written old new) e
    (record { rest = k.rest; code = k.code; fits = k.fits; more = k.more; has = k.has; same = k.same })
