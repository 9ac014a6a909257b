use Rattle.std.proofs.Common.{sym, subst}
use Rattle.std.specs.Prelude.{OnOk}
use Rattle.client_machine.specs.declared.mode.Task.TheVariants as task
use Rattle.client_machine.specs.declared.mode.reads.ReadTask.{ReadTask}
use Rattle.client_machine.specs.Step.{KeepsTask}
use Rattle.client_finds.proofs.steps.execute.Goals as goal

pub returns-in-TakesAs-clause-ok : goal.returns-in-TakesAs-clause-ok
returns-in-TakesAs-clause-ok c = subst (λ (t : ReadTask). OnOk c.takes_as.result (KeepsTask (task.Read t) c.args.machine.now c.takes_as.new.machine)) (sym c.in-TakesAs.is) c.takes_as.ensures.ok

pub returns-in-Looks-clause-ok : goal.returns-in-Looks-clause-ok
returns-in-Looks-clause-ok c = subst (λ (t : ReadTask). OnOk c.looks.result (KeepsTask (task.Read t) c.args.machine.now c.looks.new.machine)) (sym c.in-Looks.is) c.looks.ensures.ok

pub returns-in-Searches-clause-ok : goal.returns-in-Searches-clause-ok
returns-in-Searches-clause-ok c = subst (λ (t : ReadTask). OnOk c.searches.result (KeepsTask (task.Read t) c.args.machine.now c.searches.new.machine)) (sym c.in-Searches.is) c.searches.ensures.ok

pub returns-in-FetchesFrom-clause-ok : goal.returns-in-FetchesFrom-clause-ok
returns-in-FetchesFrom-clause-ok c = subst (λ (t : ReadTask). OnOk c.fetch_from.result (KeepsTask (task.Read t) c.args.machine.now c.fetch_from.new.machine)) (sym c.in-FetchesFrom.is) c.fetch_from.ensures.ok

pub returns-in-Fetches-clause-ok : goal.returns-in-Fetches-clause-ok
returns-in-Fetches-clause-ok c = subst (λ (t : ReadTask). OnOk c.fetches.result (KeepsTask (task.Read t) c.args.machine.now c.fetches.new.machine)) (sym c.in-Fetches.is) c.fetches.ensures.ok

pub returns-in-FindsAs-clause-ok : goal.returns-in-FindsAs-clause-ok
returns-in-FindsAs-clause-ok c = subst (λ (t : ReadTask). OnOk c.find_as.result (KeepsTask (task.Read t) c.args.machine.now c.find_as.new.machine)) (sym c.in-FindsAs.is) c.find_as.ensures.ok

pub returns-in-Finds-clause-ok : goal.returns-in-Finds-clause-ok
returns-in-Finds-clause-ok c = subst (λ (t : ReadTask). OnOk c.finds.result (KeepsTask (task.Read t) c.args.machine.now c.finds.new.machine)) (sym c.in-Finds.is) c.finds.ensures.ok

pub returns-in-FindsCurrent-clause-ok : goal.returns-in-FindsCurrent-clause-ok
returns-in-FindsCurrent-clause-ok c = subst (λ (t : ReadTask). OnOk c.finds_current.result (KeepsTask (task.Read t) c.args.machine.now c.finds_current.new.machine)) (sym c.in-FindsCurrent.is) c.finds_current.ensures.ok
