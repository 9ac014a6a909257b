use Rattle.std.proofs.Common.{sym, ap, ◌∙◌, subst, refl}
use Rattle.flat_machine.specs.Flat as flat
use Rattle.bound_tree.specs.Tree.{UndoBlock, LeaveBlock, NextBlock, Return, ReturnError, Stop}
use Rattle.client_machine.specs.Config.{header_at, body_at, instr_at, after_undo_of}
use Rattle.client_machine.specs.InstrClasses.{IsOfClass}
use Rattle.client_machine.specs.Actions.{returned_in}
use Rattle.client_machine.specs.declared.mode.ReturnSource.TheVariants as source
use Rattle.client_machine.proofs.Returned.{runs_returned}
use Rattle.client_machine.proofs.RunKept.{on_three, runs_by}
use Rattle.client_machine.proofs.machine.Machine.run_from.Goals as goal

pub returns-in-Block-clause-ok : goal.returns-in-Block-clause-ok
returns-in-Block-clause-ok c =
    let old = c.args.self.now in
    on_three c.open_block.result (λ moved order ok. runs_by old c.open_block.new.self c.args.place c.args.left c.args.retry (flat.Opens (header_at old.code.instrs.items c.args.place) (body_at old.code.instrs.items c.args.place) c.in-Block.next)
    (subst (λ k. IsOfClass k (instr_at old.code.instrs.items c.args.place)) c.in-Block.is c.class_at.ensures) moved order (λ rest p. ok rest)) c.open_block.ensures.moved c.open_block.ensures.order c.open_block.ensures.ok

pub returns-in-Undo-clause-ok : goal.returns-in-Undo-clause-ok
returns-in-Undo-clause-ok c =
    let old = c.args.self.now in
    on_three c.complete_statement.result (λ moved order ok. runs_by old c.complete_statement.new.self c.args.place c.args.left c.args.retry (flat.Plain (UndoBlock c.in-Undo.block (after_undo_of old.code.instrs.items c.undo_action_at.result)) c.in-Undo.next)
    (subst (λ k. IsOfClass k (instr_at old.code.instrs.items c.args.place)) c.in-Undo.is c.class_at.ensures ∙ ap (λ a. flat.Plain (UndoBlock c.in-Undo.block a) c.in-Undo.next) (sym c.undo_action_at.ensures)) moved (order refl) (λ rest p. ok rest)) c.complete_statement.ensures.moved c.complete_statement.ensures.order c.complete_statement.ensures.ok

pub returns-in-Leave-clause-ok : goal.returns-in-Leave-clause-ok
returns-in-Leave-clause-ok c =
    let old = c.args.self.now in
    on_three c.complete_statement-in-Leave.result (λ moved order ok. runs_by old c.complete_statement-in-Leave.new.self c.args.place c.args.left c.args.retry (flat.Plain (LeaveBlock c.in-Leave.block) c.in-Leave.next)
    (subst (λ k. IsOfClass k (instr_at old.code.instrs.items c.args.place)) c.in-Leave.is c.class_at.ensures) moved (order refl) (λ rest p. ok rest)) c.complete_statement-in-Leave.ensures.moved c.complete_statement-in-Leave.ensures.order c.complete_statement-in-Leave.ensures.ok

pub returns-in-Next-clause-ok : goal.returns-in-Next-clause-ok
returns-in-Next-clause-ok c =
    let old = c.args.self.now in
    on_three c.complete_statement-in-Next.result (λ moved order ok. runs_by old c.complete_statement-in-Next.new.self c.args.place c.args.left c.args.retry (flat.Plain (NextBlock c.in-Next.block) c.in-Next.next)
    (subst (λ k. IsOfClass k (instr_at old.code.instrs.items c.args.place)) c.in-Next.is c.class_at.ensures) moved (order refl) (λ rest p. ok rest)) c.complete_statement-in-Next.ensures.moved c.complete_statement-in-Next.ensures.order c.complete_statement-in-Next.ensures.ok

pub returns-in-Stop-clause-ok : goal.returns-in-Stop-clause-ok
returns-in-Stop-clause-ok c =
    let old = c.args.self.now in
    on_three c.complete_statement-in-Stop.result (λ moved order ok. runs_by old c.complete_statement-in-Stop.new.self c.args.place c.args.left c.args.retry (flat.Plain Stop c.in-Stop.next)
    (subst (λ k. IsOfClass k (instr_at old.code.instrs.items c.args.place)) c.in-Stop.is c.class_at.ensures) moved (order refl) (λ rest p. ok rest)) c.complete_statement-in-Stop.ensures.moved c.complete_statement-in-Stop.ensures.order c.complete_statement-in-Stop.ensures.ok

pub returns-in-Return-clause-ok : goal.returns-in-Return-clause-ok
returns-in-Return-clause-ok c =
    let old = c.args.self.now in
    let i = instr_at old.code.instrs.items c.args.place in
    on_three c.return_as.result (λ moved order ok. runs_returned old c.return_as.new.self c.args.place c.args.left c.args.retry (flat.Plain (Return (returned_in source.Statement i)) c.in-Return.next)
    (subst (λ k. IsOfClass k i) c.in-Return.is c.class_at.ensures) moved (order refl) (λ p rest f. ok f.even rest p f.program.forms f.state.status_is f.state.returned_is)) c.return_as.ensures.moved c.return_as.ensures.order c.return_as.ensures.ok

pub returns-in-ReturnError-clause-ok : goal.returns-in-ReturnError-clause-ok
returns-in-ReturnError-clause-ok c =
    let old = c.args.self.now in
    let i = instr_at old.code.instrs.items c.args.place in
    on_three c.return_as-in-ReturnError.result (λ moved order ok. runs_returned old c.return_as-in-ReturnError.new.self c.args.place c.args.left c.args.retry (flat.Plain (ReturnError c.in-ReturnError.block (returned_in source.Statement i)) c.in-ReturnError.next)
    (subst (λ k. IsOfClass k i) c.in-ReturnError.is c.class_at.ensures) moved (order refl) (λ p rest f. ok f.even rest p f.program.forms f.state.status_is f.state.returned_is)) c.return_as-in-ReturnError.ensures.moved c.return_as-in-ReturnError.ensures.order c.return_as-in-ReturnError.ensures.ok
