-- The procedure of a RUN in the code.
use Rattle.std.proofs.Common.{◌≡◌, ℕ, zero, suc, List, [], ◌∷◌, Some, refl, sym, ap, subst, length}
use Rattle.std.specs.Prelude.{slice_get, slice_index_or}
use Rattle.bound_tree.specs.Tree.{Procedure, Argument}
use Rattle.bound_tree.specs.declared.expression.Variable.{Variable}
use Rattle.block_meaning.specs.Program.{Program, no_procedure, procedure_at}
use Rattle.block_meaning.specs.State.{State}
use Rattle.block_meaning.specs.Meaning.{argument_values}
use Rattle.client_memory.specs.Memory.{Remembered}
use Rattle.client_values.specs.Variables.{state_with}
use Rattle.block_code.specs.Code.{place_of}
use Rattle.block_code.specs.declared.code.Instr.{Instr}
use Rattle.block_code.specs.declared.code.ProcedureCode.{ProcedureCode}
use Rattle.client_machine.specs.Config.{state_of}
use Rattle.client_machine.specs.Inputs.{IsProcedureOf, AreProceduresOf}
use Rattle.client_calls.specs.Calls.{EvaluatesAll}

-- ---- the code of a procedure

pub found_is : (code : List Instr) (cs : List ProcedureCode) (qs : List Procedure) (n : ℕ) (c : ProcedureCode) → AreProceduresOf code cs qs → slice_get cs n ≡ Some c → IsProcedureOf code c (slice_index_or qs n no_procedure)
found_is code [] qs zero c are e = cc
found_is code [] qs (suc n) c are e = cc
found_is code (d ∷ cs) [] n c are e = absurd are
found_is code (d ∷ cs) (q ∷ qs) zero c are e = let is : d ≡ c = cc in subst (λ x. IsProcedureOf code x q) is are.0
found_is code (d ∷ cs) (q ∷ qs) (suc n) c are e = found_is code cs qs n c are.1 e

pub place_found : (cs : List ProcedureCode) (n : ℕ) (c : ProcedureCode) → slice_get cs n ≡ Some c → place_of cs n ≡ c.place
place_found [] zero c e = cc
place_found [] (suc n) c e = cc
place_found (d ∷ cs) zero c e = let is : d ≡ c = cc in ap (λ (x : ProcedureCode). x.place) is
place_found (d ∷ cs) (suc n) c e = place_found cs n c e

-- the values of its parameters
pub passes_found : (p : Program) (code : List Instr) (cs : List ProcedureCode) (n k : ℕ) (c : ProcedureCode) (args args' : List Argument) (retry : _) (s : State) (r : _) → AreProceduresOf code cs p.source.procedures → slice_get cs k ≡ Some c → n ≡ k → args ≡ args' →
    EvaluatesAll r (argument_values p args' c.parameters.items retry s) → EvaluatesAll r (argument_values p args (procedure_at p n).parameters retry s)
passes_found p code cs n k c args args' retry s r are e is is' h =
    let found = found_is code cs p.source.procedures k c are e in
    subst (λ (as' : List Argument). EvaluatesAll r (argument_values p as' (procedure_at p n).parameters retry s)) (sym is')
    (subst (λ j. EvaluatesAll r (argument_values p args' (procedure_at p j).parameters retry s)) (sym is)
    (subst (λ (xs : List Variable). EvaluatesAll r (argument_values p args' xs retry s)) found.parameters h))

-- ---- the state of a machine

-- what the state has beside the frames
abbrev pub rest_of : State → Remembered → ℕ → State
rest_of rest m units = record rest { level = length m.copies; units = units }

pub state_is : (rest : State) (ns : List ℕ) (m : Remembered) (units : ℕ) → state_of rest ns m units ≡ state_with (rest_of rest m units) ns m
state_is rest ns m units = refl
