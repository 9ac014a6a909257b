use Rattle.std.proofs.Common.{sym, subst}
use Rattle.std.specs.Prelude.{OnOk}
use Rattle.client_machine.specs.declared.mode.Task.{Task}
use Rattle.client_machine.specs.Step.{KeepsTask}
use Rattle.client_machine.proofs.machine.Machine.execute.Goals as goal

pub returns-in-Blocks-clause-ok : goal.returns-in-Blocks-clause-ok
returns-in-Blocks-clause-ok c = subst (λ (t : Task). OnOk c.open_header.result (KeepsTask t c.args.self.now c.open_header.new.self)) (sym c.in-Blocks.is) c.open_header.ensures.ok

pub returns-in-Turns-clause-ok : goal.returns-in-Turns-clause-ok
returns-in-Turns-clause-ok c = subst (λ (t : Task). OnOk c.turns.result (KeepsTask t c.args.self.now c.turns.new.self)) (sym c.in-Turns.is) c.turns.ensures.ok

pub returns-in-Iterates-clause-ok : goal.returns-in-Iterates-clause-ok
returns-in-Iterates-clause-ok c = subst (λ (t : Task). OnOk c.iterates.result (KeepsTask t c.args.self.now c.iterates.new.self)) (sym c.in-Iterates.is) c.iterates.ensures.ok

pub returns-in-EntersLevel-clause-ok : goal.returns-in-EntersLevel-clause-ok
returns-in-EntersLevel-clause-ok c = subst (λ (t : Task). OnOk c.enters_level.result (KeepsTask t c.args.self.now c.enters_level.new.self)) (sym c.in-EntersLevel.is) c.enters_level.ensures.ok

pub returns-in-Begins-clause-ok : goal.returns-in-Begins-clause-ok
returns-in-Begins-clause-ok c = subst (λ (t : Task). OnOk c.begins.result (KeepsTask t c.args.self.now c.begins.new.self)) (sym c.in-Begins.is) c.begins.ensures.ok

pub returns-in-GoesBack-clause-ok : goal.returns-in-GoesBack-clause-ok
returns-in-GoesBack-clause-ok c = subst (λ (t : Task). OnOk c.goes_back.result (KeepsTask t c.args.self.now c.goes_back.new.self)) (sym c.in-GoesBack.is) c.goes_back.ensures.ok

pub returns-in-LeavesNow-clause-ok : goal.returns-in-LeavesNow-clause-ok
returns-in-LeavesNow-clause-ok c = subst (λ (t : Task). OnOk c.leaves_now.result (KeepsTask t c.args.self.now c.leaves_now.new.self)) (sym c.in-LeavesNow.is) c.leaves_now.ensures.ok

pub returns-in-Completes-clause-ok : goal.returns-in-Completes-clause-ok
returns-in-Completes-clause-ok c = subst (λ (t : Task). OnOk c.completes_with.result (KeepsTask t c.args.self.now c.completes_with.new.self)) (sym c.in-Completes.is) c.completes_with.ensures.ok

pub returns-in-RunsFrom-clause-ok : goal.returns-in-RunsFrom-clause-ok
returns-in-RunsFrom-clause-ok c = subst (λ (t : Task). OnOk c.run_from.result (KeepsTask t c.args.self.now c.run_from.new.self)) (sym c.in-RunsFrom.is) c.run_from.ensures.ok

pub returns-in-UndoComes-clause-ok : goal.returns-in-UndoComes-clause-ok
returns-in-UndoComes-clause-ok c = subst (λ (t : Task). OnOk c.undo_comes.result (KeepsTask t c.args.self.now c.undo_comes.new.self)) (sym c.in-UndoComes.is) c.undo_comes.ensures.ok

pub returns-in-EndsWith-clause-ok : goal.returns-in-EndsWith-clause-ok
returns-in-EndsWith-clause-ok c = subst (λ (t : Task). OnOk c.ends_with.result (KeepsTask t c.args.self.now c.ends_with.new.self)) (sym c.in-EndsWith.is) c.ends_with.ensures.ok

pub returns-in-Acts-clause-ok : goal.returns-in-Acts-clause-ok
returns-in-Acts-clause-ok c = subst (λ (t : Task). OnOk c.act.result (KeepsTask t c.args.self.now c.act.new.self)) (sym c.in-Acts.is) c.act.ensures.ok
