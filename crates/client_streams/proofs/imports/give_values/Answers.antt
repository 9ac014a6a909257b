use Rattle.std.proofs.Common.{sym, ap, ◌∙◌, List, Option}
use Rattle.bound_tree.specs.declared.statement.Target.{Target}
use Rattle.block_meaning.specs.Streams.{pairs_of}
use Rattle.client_machine.specs.Config.{instr_at}
use Rattle.client_machine.specs.declared.machine.Machine.{Machine}
use Rattle.client_machine.specs.declared.mode.Mode.TheVariants as mode
use Rattle.client_machine.specs.declared.mode.Task.TheVariants as task
use Rattle.client_machine.specs.declared.mode.changes.AssignmentList.TheVariants as assignment_list
use Rattle.client_machine.specs.declared.mode.changes.ChangeTask.TheVariants as change_task
use Rattle.client_streams.specs.Imports.{targets_in}
use Rattle.client_streams.proofs.GivenValues.{given_kept}
use Rattle.client_streams.proofs.imports.give_values.Goals as goal

pub returns-clause-ok : goal.returns-clause-ok
returns-clause-ok c =
    let old = c.args.machine.now in
    let r = c.args.reader in
    let given = c.in_ok-given.given in
    given_kept (pairs_of (targets_in (instr_at old.code.instrs.items c.args.place)) c.args.values.items) r.no_error old c.set_mode.new.self c.push_statement.new.machine.stack given r.next c.args.left c.args.retry
    (c.set_mode.ensures ∙ ap (λ (m : Machine). record m { mode = mode.Execute (task.Change (change_task.Assigns (assignment_list.Given given) c.args.retry)) }) c.in_ok-push_statement.ensures.moved)
    c.in_ok-push_statement.ensures.pushed
    (c.in_ok-given.ensures ∙ ap (λ (ts : List (Option Target)). pairs_of ts c.args.values.items) (sym c.in-Some.ensures))
