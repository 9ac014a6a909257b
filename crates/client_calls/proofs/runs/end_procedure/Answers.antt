use Rattle.std.proofs.Common.{List, sym, ap, ◌∙◌}
use Rattle.std.specs.Prelude.{slice_get}
use Rattle.bound_tree.specs.Tree.{Argument}
use Rattle.bound_tree.specs.declared.expression.Variable.{Variable}
use Rattle.client_memory.specs.Memory.{ended}
use Rattle.client_machine.specs.Config.{instr_at, run_arguments}
use Rattle.client_machine.proofs.RunKept.{on_ok}
use Rattle.client_calls.specs.Calls.{outputs_of, all_set}
use Rattle.client_calls.proofs.runs.end_procedure.Goals as goal

pub returns : goal.returns
returns c =
    let found = c.in-Some-procedure_code.found.now in
    let k = c.args.place in
    let code = c.args.code.now in
    let is = ap (λ n. slice_get code.procedures.items n) (sym c.in-Some-number_at.ensures) ∙ c.in-Some-procedure_code.ensures in
    let old = c.args.memory.now in
    on_ok c.close_frame.result (λ h. record {
      procedure = found;
      found = is;
      is = λ outer. h outer
          ∙ ap (λ (xs : List Argument). all_set (outputs_of xs c.deref.result.now old) (ended old)) c.in-Some.ensures
          ∙ ap (λ (xs : List Variable). all_set (outputs_of (run_arguments (instr_at code.instrs.items k)) xs old) (ended old)) c.deref.ensures.value;
    }) c.close_frame.ensures
