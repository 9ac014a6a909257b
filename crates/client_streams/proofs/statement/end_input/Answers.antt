use Rattle.std.proofs.Common.{ap, ◌∙◌}
use Rattle.client_machine.specs.declared.machine.Machine.{Machine}
use Rattle.client_machine.specs.declared.mode.Mode.TheVariants as mode
use Rattle.client_machine.specs.declared.mode.Completion.TheVariants as completion
use Rattle.client_streams.proofs.Imported.{none_passed, ended_kept}
use Rattle.client_streams.proofs.statement.end_input.Goals as goal

pub returns-clause-ok : goal.returns-clause-ok
returns-clause-ok c =
    ended_kept c.args.quiet c.args.machine.now c.set_mode.new.self c.push_statement.new.machine.stack c.args.next c.args.left c.args.retry
    (c.set_mode.ensures ∙ ap (λ (m : Machine). record m { mode = mode.Unwind (completion.EndKeys none_passed) }) c.in_ok-push_statement.ensures.moved) c.in_ok-push_statement.ensures.pushed
