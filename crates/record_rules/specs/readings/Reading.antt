-- What a call returns that evaluates a part of a reading.
use Rattle.std.specs.Prelude.{◌≡◌, ℕ, Bool, true, false, List, Option, Result, Ok, Err, map}
use Rattle.abl_base.specs.declared.value.Value.{Value}
use Rattle.database_protocol.specs.declared.row_order.Cursor.{Cursor}
use Rattle.bound_tree.specs.Tree.{Expr, Reading}
use Rattle.evaluator.specs.declared.fault.EvalFault.{EvalFault}
use Rattle.evaluator.specs.declared.fault.EvalFault.TheVariants.{Fault, NoMemory}
use Rattle.block_meaning.specs.Lines.{complaint_of}
use Rattle.block_meaning.specs.Program.{Program}
use Rattle.block_meaning.specs.State.{State}
use Rattle.block_meaning.specs.Frames.{emptied}
use Rattle.block_meaning.specs.Values.{EvaluatedAll, GivesAll, FailsAll, values_now}
use Rattle.flat_machine.specs.Config.{Config, StackEntry, Execute, Looks}
use Rattle.flat_machine.specs.Steps.{config, fault, search_step, test_step}

-- the call judges WHERE of the record in buffer b. The reading continues as with a good record, or as with a bad one
-- and an empty buffer. After a fault the buffer is empty too.
abbrev pub Tests : Result Bool EvalFault → Program → Option Expr → Bool → State → Type 0
Tests (Ok true) p test retry s = (b : ℕ) (good bad : State → Config) (ks : List StackEntry) → test_step p test b retry good bad ks s ≡ good s
Tests (Ok false) p test retry s = (b : ℕ) (good bad : State → Config) (ks : List StackEntry) → test_step p test b retry good bad ks s ≡ bad (emptied b s)
Tests (Err (Fault f)) p test retry s = (b : ℕ) (good bad : State → Config) (ks : List StackEntry) → test_step p test b retry good bad ks s ≡ fault (complaint_of f) ks (emptied b s)
Tests (Err NoMemory) p test retry s = Unit {0}

-- the call answers the values or the first fault
abbrev pub EvaluatesAll : Result (List Value) EvalFault → EvaluatedAll → Type 0
EvaluatesAll (Ok vs) wanted = wanted ≡ GivesAll vs
EvaluatesAll (Err (Fault f)) wanted = wanted ≡ FailsAll (complaint_of f)
EvaluatesAll (Err NoMemory) wanted = Unit {0}

-- the values of the bracket of a reading
abbrev pub bracket_now : Program → Reading → Bool → State → EvaluatedAll
bracket_now p r retry s = values_now p (map (λ x. x.value) r.bracket) retry s

-- the call answers the values by which a search of the reading is bracketed, or the search has a fault
abbrev pub Brackets : Result (List Value) EvalFault → Program → Reading → Bool → State → Type 0
Brackets (Ok prefix) p r retry s = (forward only wait : Bool) (from : Option Cursor) (ks : List StackEntry) → search_step (bracket_now p r retry s) r forward only wait retry from ks s ≡ config (Execute (Looks s.units (record { reading = r; forward = forward; only = only; wait = wait; retry = retry; prefix = prefix }) from)) ks s
Brackets (Err (Fault f)) p r retry s = (forward only wait : Bool) (from : Option Cursor) (ks : List StackEntry) → search_step (bracket_now p r retry s) r forward only wait retry from ks s ≡ fault (complaint_of f) ks s
Brackets (Err NoMemory) p r retry s = Unit {0}
