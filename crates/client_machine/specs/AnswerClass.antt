-- How a client treats an answer.
use Rattle.std.specs.Prelude.{◌≡◌, ℕ, List, [], ◌∷◌}
use Rattle.database_protocol.specs.declared.answer.Answer.{Answer}
use Rattle.database_protocol.specs.declared.operation.Op.{Op}
use Rattle.bound_tree.specs.Tree.{Body}
use Rattle.database_protocol.specs.declared.ends.ClientEnd.TheVariants as client
use Rattle.block_meaning.specs.Program.{Program}
use Rattle.block_meaning.specs.State.{State, Stops}
use Rattle.flat_machine.specs.Flat as flat
use Rattle.client_machine.specs.declared.machine.Machine.{Machine}
use Rattle.client_machine.specs.declared.answers.AnswerClass.{AnswerClass as InstrClass}
use Rattle.client_machine.specs.declared.answers.AnswerClass.TheVariants as answer_class
use Rattle.client_machine.specs.declared.mode.OnAnswer.{OnAnswer}
use Rattle.client_machine.specs.declared.mode.Mode.TheVariants as mode
use Rattle.client_machine.specs.Config.{on_answer_of}
use Rattle.client_machine.specs.Machine.{stack_in, state_in}
use Rattle.client_machine.specs.Step.{code_in, FitsIn, RunKept}

abbrev pub IsOfAnswerClass : InstrClass → Answer → Type 0
IsOfAnswerClass answer_class.Blocked a = (p : Program) (o : Op) (k : flat.OnAnswer) (ks : List flat.StackEntry) (s : State) → flat.answered p a o k ks s ≡ flat.config (flat.Await o k) ks s
IsOfAnswerClass (answer_class.Stops why) a = (p : Program) (o : Op) (k : flat.OnAnswer) (ks : List flat.StackEntry) (s : State) → flat.answered p a o k ks s ≡ flat.config (flat.Unwind (Stops (client.Stop why))) ks s
IsOfAnswerClass answer_class.NoMemory a = Unit {0}
IsOfAnswerClass answer_class.Done a = (p : Program) (o : Op) (k : flat.OnAnswer) (ks : List flat.StackEntry) (s : State) → flat.answered p a o k ks s ≡ flat.answer_step p k a ks s

-- taking the answer to the operation preserves the run (`RunKept`)
abbrev pub KeepsAnswer : Op → OnAnswer → Answer → Machine → Machine → Type 0
KeepsAnswer o on_answer a old new = (tree : ℕ → Body) (p : Program) (rest : State) → flat.IsCodeOf (code_in old) p tree → FitsIn p rest (mode.Await o on_answer) old →
    RunKept tree p (flat.config (flat.Await o (on_answer_of old.code.instrs.items old.memory.copies o on_answer)) (stack_in old) (state_in rest old)) (a ∷ []) rest.written old new
