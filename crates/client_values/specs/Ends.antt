-- What a call answers, beside what the meaning says.
use Rattle.std.specs.Prelude.{◌≡◌, List, [], Bool, true, false, Result, Ok, Err}
use Rattle.abl_base.specs.declared.value.Value.{Value}
use Rattle.evaluator.specs.declared.fault.EvalFault.{EvalFault}
use Rattle.evaluator.specs.declared.fault.EvalFault.TheVariants.{Fault, NoMemory}
use Rattle.database_protocol.specs.declared.answer.Answer.{Answer}
use Rattle.block_meaning.specs.State.{State, Completed, Outcome, Done, Normal, Faults, completed}
use Rattle.std.specs.Prelude.{Some, ℕ}
use Rattle.block_meaning.specs.Lines.{complaint_of}
use Rattle.block_meaning.specs.Values.{Evaluated, Gives, Fails}
use Rattle.flat_machine.specs.Config.{Config, StackEntry, Unwind}
use Rattle.flat_machine.specs.Steps.{config, fault}

-- a call that evaluates
abbrev pub Evaluates : Result Value EvalFault → Evaluated → Type 0
Evaluates (Ok v) e = e ≡ Gives v
Evaluates (Err (Fault f)) e = e ≡ Fails (complaint_of f)
Evaluates (Err NoMemory) e = Unit {0}

-- a call that assigns, and leaves this state
abbrev pub Assigns : {A : Type 0} → Result A EvalFault → Completed → State → Type 0
Assigns (Ok x) c s = c ≡ completed Normal s
Assigns (Err (Fault f)) c s = c ≡ completed (Faults (Some (complaint_of f))) s
Assigns (Err NoMemory) c s = Unit {0}

-- the same of several assignments, which are a part of a run
abbrev pub Ends : {A : Type 0} → Result A EvalFault → Outcome → State → List Answer → Type 0
Ends (Ok x) r s ans = r ≡ Done Normal s ans
Ends (Err (Fault f)) r s ans = r ≡ Done (Faults (Some (complaint_of f))) s ans
Ends (Err NoMemory) r s ans = Unit {0}

-- where a call assigns, no target is a field
abbrev pub HasNoBuffers : {A : Type 0} → Result A EvalFault → List ℕ → Type 0
HasNoBuffers (Ok x) bs = bs ≡ []
HasNoBuffers (Err (Fault f)) bs = bs ≡ []
HasNoBuffers (Err NoMemory) bs = Unit {0}

-- a call that judges whether an iteration begins, and leaves this state: it begins, the block completes, or its header
-- has a fault
abbrev pub Judges : Result Bool EvalFault → Config → (State → Config) → List StackEntry → State → Type 0
Judges (Ok true) c go ks s = c ≡ go s
Judges (Ok false) c go ks s = c ≡ config (Unwind Normal) ks s
Judges (Err (Fault f)) c go ks s = c ≡ fault (complaint_of f) ks s
Judges (Err NoMemory) c go ks s = Unit {0}
