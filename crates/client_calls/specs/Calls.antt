-- What RUN passes to a procedure, the frame of the procedure, and what it gives back.
use Rattle.std.specs.Prelude.{◌≡◌, ℕ, ◌-◌, List, [], ◌∷◌, Bool, true, false, Option, Some, None, Result, Ok, Err, length, map}
use Rattle.abl_base.specs.declared.value.Value.{Value}
use Rattle.evaluator.specs.declared.fault.EvalFault.{EvalFault}
use Rattle.evaluator.specs.declared.fault.EvalFault.TheVariants.{Fault, NoMemory}
use Rattle.bound_tree.specs.Tree.{Argument, In, Out, InOut}
use Rattle.bound_tree.specs.declared.expression.Variable.{Variable}
use Rattle.block_meaning.specs.Lines.{complaint_of}
use Rattle.block_meaning.specs.State.{Buffer, CallFrame}
use Rattle.block_meaning.specs.Values.{EvaluatedAll, GivesAll, FailsAll}
use Rattle.block_meaning.specs.Meaning.{new_buffer, params_set}
use Rattle.client_memory.specs.Memory.{Remembered, value_as, set_variable, begun}
use Rattle.block_code.specs.declared.code.ProcedureCode.{ProcedureCode}
use Rattle.client_calls.specs.declared.outputs.Output.{Output}

-- a call that evaluates several values
abbrev pub EvaluatesAll : Result (List Value) EvalFault → EvaluatedAll → Type 0
EvaluatesAll (Ok vs) e = e ≡ GivesAll vs
EvaluatesAll (Err (Fault f)) e = e ≡ FailsAll (complaint_of f)
EvaluatesAll (Err NoMemory) e = Unit {0}

-- ---- a procedure begins

-- whether an argument passes a value in
abbrev pub passes : Argument → Bool
passes (In e) = true
passes (InOut y) = true
passes (Out y) = false

-- the frame of procedure n with these variables and buffers
abbrev pub frame_with : ℕ → List Value → List Value → List Buffer → CallFrame
frame_with n us ks bs = record { procedure = n; undoable = us; no_undo = ks; buffers = bs }

-- the procedure begins, with its initial values, these parameters and empty buffers
pub record Opens (c : ProcedureCode) (args : List Argument) (vs : List Value) (old new : Remembered) : Type 0 where
  pub undoable : List Value
  pub no_undo : List Value
  pub is : new ≡ begun undoable no_undo (map new_buffer c.buffers.items) old
  pub frame : (n : ℕ) (bs : List Buffer) → frame_with n undoable no_undo bs ≡ params_set args c.parameters.items vs (frame_with n c.undoable c.no_undo bs)

-- ---- a procedure ends

-- a variable, and the value that it gets
pub record OutputOf : Type 0 where
  pub variable : Variable
  pub value : Value

abbrev pub output_of : Output → OutputOf
output_of o = record { variable = o.variable; value = o.value }

-- the value of a variable of the innermost procedure
abbrev pub own_value : Variable → Remembered → Value
own_value x m = value_as x.undoable (length m.undoable - 1) x.number m

-- the variable that an argument names to get a value
abbrev pub getter_of : Argument → Option Variable
getter_of (In e) = None
getter_of (InOut y) = Some y
getter_of (Out y) = Some y

-- a variable gets the value, if there is one
abbrev pub with_output : Option Variable → Value → List OutputOf → List OutputOf
with_output None v os = os
with_output (Some y) v os = record { variable = y; value = v } ∷ os

-- what the arguments get from the parameters of the innermost procedure
abbrev pub outputs_of : List Argument → List Variable → Remembered → List OutputOf
outputs_of [] xs m = []
outputs_of (a ∷ rest) [] m = []
outputs_of (a ∷ rest) (x ∷ xs) m = with_output (getter_of a) (own_value x m) (outputs_of rest xs m)

-- gives variables values, from left to right
abbrev pub all_set : List OutputOf → Remembered → Remembered
all_set [] m = m
all_set (o ∷ os) m = all_set os (set_variable o.variable o.value m)
