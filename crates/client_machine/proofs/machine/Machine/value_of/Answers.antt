use Rattle.std.proofs.Common.{subst}
use Rattle.std.specs.Prelude.{ℕ, List}
use Rattle.block_meaning.specs.Program.{Program}
use Rattle.block_meaning.specs.State.{State}
use Rattle.block_meaning.specs.Values.{value_now}
use Rattle.bound_tree.specs.Bound.{expr_of}
use Rattle.client_values.specs.Ends.{Evaluates}
use Rattle.client_values.specs.Reads.{Reads}
use Rattle.client_values.specs.Variables.{state_with}
use Rattle.client_machine.proofs.Values.{value_here, fault_here}
use Rattle.client_machine.proofs.machine.Machine.value_of.Goals as goal

pub returns-clause-value : goal.returns-clause-value
returns-clause-value c = λ even.
    let old = c.args.self.now in
    value_here old (expr_of c.args.expression.now) c.args.retry c.value_of.result even
    (subst (λ t. (p : Program) (rest : State) (ns : List ℕ) → Reads p rest ns old.memory old.status t → Evaluates c.value_of.result (value_now p (expr_of c.args.expression.now) c.args.retry (state_with rest ns old.memory))) c.as_slice.ensures c.value_of.ensures)

pub returns-clause-fault : goal.returns-clause-fault
returns-clause-fault c = λ even.
    let old = c.args.self.now in
    fault_here old (expr_of c.args.expression.now) c.args.retry c.value_of.result even
    (subst (λ t. (p : Program) (rest : State) (ns : List ℕ) → Reads p rest ns old.memory old.status t → Evaluates c.value_of.result (value_now p (expr_of c.args.expression.now) c.args.retry (state_with rest ns old.memory))) c.as_slice.ensures c.value_of.ensures)
