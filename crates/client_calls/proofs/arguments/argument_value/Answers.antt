use Rattle.std.proofs.Common.{sym, subst, ◌∙◌}
use Rattle.bound_tree.specs.Bound.{argument_of}
use Rattle.bound_tree.specs.declared.statement.Argument.{Argument}
use Rattle.abl_base.specs.declared.value.Value.{Value}
use Rattle.block_meaning.specs.Values.{fit}
use Rattle.block_meaning.specs.Meaning.{argument_value as value_passed}
use Rattle.client_values.specs.Ends.{Evaluates}
use Rattle.client_values.specs.Variables.{state_with}
use Rattle.client_values.proofs.Scopes.{variable_is}
use Rattle.client_calls.proofs.arguments.argument_value.Goals as goal

pub returns-in_ok-value-in-InputOutput : goal.returns-in_ok-value-in-InputOutput
returns-in_ok-value-in-InputOutput c = λ p rest ns reads.
    let kind = c.args.parameter.kind in
    let s = state_with rest ns c.args.memory.now in
    subst (λ (a : Argument). Evaluates c.fitted-in-InputOutput.result (value_passed p (argument_of a) kind c.args.status.now.retry s)) (sym c.in-InputOutput.is)
    (subst (λ (v : Value). Evaluates c.fitted-in-InputOutput.result (fit kind v)) (c.in_ok-value-in-InputOutput.ensures ∙ c.get.ensures ∙ sym (variable_is rest ns c.args.memory.now reads.even c.in-InputOutput.variable)) c.fitted-in-InputOutput.ensures)
