-- What an expression gives a machine.
use Rattle.std.proofs.Common.{◌≡◌, ℕ, Bool, List, length, subst}
use Rattle.std.specs.Prelude.{Result, Ok, Err, IfOk}
use Rattle.abl_base.specs.declared.value.Value.{Value}
use Rattle.expression_meaning.specs.declared.fault.RunFault.{RunFault}
use Rattle.evaluator.specs.declared.fault.EvalFault.{EvalFault}
use Rattle.evaluator.specs.declared.fault.EvalFault.TheVariants.{Fault}
use Rattle.evaluator.specs.Forms.{AreForms}
use Rattle.bound_tree.specs.Tree.{Expr}
use Rattle.block_meaning.specs.Program.{Program}
use Rattle.block_meaning.specs.State.{State}
use Rattle.block_meaning.specs.Lines.{complaint_of}
use Rattle.block_meaning.specs.Values.{value_now, Gives, Fails}
use Rattle.client_values.specs.Ends.{Evaluates}
use Rattle.client_values.specs.Reads.{Reads}
use Rattle.client_values.specs.Variables.{state_with}
use Rattle.client_machine.specs.declared.machine.Machine.{Machine}
use Rattle.client_machine.specs.Config.{AreEven}
use Rattle.client_machine.specs.Machine.{state_in}

-- the fields of the state beside the frames
abbrev rest_in : State → Machine → State
rest_in rest m = record rest { level = length m.memory.copies; units = m.units }

-- what a call of client_values ensures
abbrev WillGive : Machine → Expr → Bool → Result Value EvalFault → Type 0
WillGive m e retry r = (p : Program) (rest : State) (ns : List ℕ) → Reads p rest ns m.memory m.status m.returned → Evaluates r (value_now p e retry (state_with rest ns m.memory))

pub value_here : (m : Machine) (e : Expr) (retry : Bool) (r : Result Value EvalFault) → AreEven m.procedures.items m.memory → WillGive m e retry r →
    IfOk r (λ v. (rest : State) (p : Program) → AreForms p.forms → rest.status ≡ m.status → rest.returned ≡ m.returned → value_now p e retry (state_in rest m) ≡ Gives v)
value_here m e retry (Ok v) even gives = λ rest p forms status returned. gives p (rest_in rest m) m.procedures.items (record { forms = forms; even = even; status_is = status; returned_is = returned })
value_here m e retry (Err f) even gives = tt

pub fault_here : (m : Machine) (e : Expr) (retry : Bool) (r : Result Value EvalFault) → AreEven m.procedures.items m.memory → WillGive m e retry r →
    (fault : RunFault) → r ≡ Err (Fault fault) → (rest : State) (p : Program) → AreForms p.forms → rest.status ≡ m.status → rest.returned ≡ m.returned → value_now p e retry (state_in rest m) ≡ Fails (complaint_of fault)
fault_here m e retry r even gives fault is = λ rest p forms status returned.
    subst (λ x. Evaluates x (value_now p e retry (state_in rest m))) is (gives p (rest_in rest m) m.procedures.items (record { forms = forms; even = even; status_is = status; returned_is = returned }))
