use Rattle.std.proofs.Common.{List, sym, subst}
use Rattle.std.specs.Prelude.{map}
use Rattle.bound_tree.specs.Bound.{argument_of}
use Rattle.bound_tree.specs.declared.expression.Variable.{Variable}
use Rattle.block_meaning.specs.Meaning.{argument_values}
use Rattle.client_machine.specs.Config.{instr_at, run_arguments, run_procedure}
use Rattle.client_values.specs.Variables.{state_with}
use Rattle.client_calls.specs.Calls.{EvaluatesAll}
use Rattle.client_calls.proofs.Found.{passes_found}
use Rattle.client_calls.proofs.runs.values_at.Goals as goal

pub returns : goal.returns
returns c = λ p rest ns are reads.
    let code = c.args.code.now in
    let i = instr_at code.instrs.items c.args.place in
    let s = state_with rest ns c.args.memory.now in
    let args = map argument_of c.in-Some.arguments.now in
    passes_found p code.instrs.items code.procedures.items (run_procedure i) c.in-Some-number_at.number c.in-Some-procedure_code.found.now (run_arguments i) args c.args.status.now.retry s c.argument_values.result are c.in-Some-procedure_code.ensures
    (sym c.in-Some-number_at.ensures) (sym c.in-Some.ensures)
    (subst (λ (xs : List Variable). EvaluatesAll c.argument_values.result (argument_values p args xs c.args.status.now.retry s)) c.deref.ensures.value (c.argument_values.ensures p rest ns reads))
