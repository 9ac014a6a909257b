use Rattle.std.proofs.Common.{◌≡◌, ◌-◌, ℕ, List, Some, length, sym, subst}
use Rattle.std.specs.Prelude.{slice_get}
use Rattle.block_meaning.specs.Program.{procedure_at}
use Rattle.client_machine.specs.Inputs.{IsProcedureOf}
use Rattle.client_machine.proofs.RunKept.{if_some}
use Rattle.client_machine.proofs.Running.{procedure_found, running_is}
use Rattle.client_machine.proofs.machine.Machine.running_procedure.Goals as goal

pub returns : goal.returns
returns c =
    let old = c.args.self.now in
    let n = c.in-Some.number in
    if_some c.procedure_code.result (λ x got p rest program even.
    subst (λ k. IsProcedureOf old.code.instrs.items x.now (procedure_at p k))
    (sym (running_is old.procedures.items old.memory n even (subst (λ (xs : List ℕ). slice_get xs (length xs - 1) ≡ Some n) c.as_slice.ensures.value c.in-Some.ensures)))
    (procedure_found old.code.instrs.items old.code.procedures.items p.source.procedures n x.now program.procedures got)) c.procedure_code.ensures
