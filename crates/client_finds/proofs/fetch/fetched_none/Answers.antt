use Rattle.std.proofs.Common.{ℕ, Option, sym, ap, ◌∙◌, subst}
use Rattle.bound_tree.specs.Tree.{Reading}
use Rattle.client_machine.specs.declared.mode.Completion.TheVariants as completion
use Rattle.client_machine.specs.declared.mode.StackEntry.TheVariants as stack
use Rattle.client_machine.specs.declared.mode.reads.ReadEntry.TheVariants as read_entry
use Rattle.client_machine.specs.Step.{KeepsEntry}
use Rattle.client_finds.proofs.Found.{none_with_level, none_without_level}
use Rattle.client_finds.proofs.fetch.fetched_none.Goals as goal

pub returns-in-None-clause-ok : goal.returns-in-None-clause-ok
returns-in-None-clause-ok c =
    let new = c.set_mode.new.self in
    subst (λ (depth : Option ℕ). KeepsEntry (stack.Read (read_entry.FetchedAs c.args.place depth c.args.turn c.args.retry c.args.left)) completion.NotFound c.args.machine.now new) (sym c.in-None.is)
    (none_without_level c.args.machine.now c.empty.new.machine new c.args.place c.args.turn c.args.retry c.args.left c.in-Some-buffer_at.buffer c.empty.ensures.moved c.empty.ensures.stays
    (sym (ap (λ (r : Reading). r.buffer) c.in-Some.ensures.reading) ∙ sym c.in-Some-buffer_at.ensures) c.empty.ensures.goes c.set_mode.ensures)

pub returns-in-Some-depth-clause-ok : goal.returns-in-Some-depth-clause-ok
returns-in-Some-depth-clause-ok c =
    let new = c.leave_level.new.machine in
    subst (λ (depth : Option ℕ). KeepsEntry (stack.Read (read_entry.FetchedAs c.args.place depth c.args.turn c.args.retry c.args.left)) completion.NotFound c.args.machine.now new) (sym c.in-Some-depth.is)
    (none_with_level c.args.machine.now c.empty.new.machine new c.args.place _ c.args.turn c.args.retry c.args.left c.in-Some-buffer_at.buffer c.empty.ensures.moved c.empty.ensures.stays
    (sym (ap (λ (r : Reading). r.buffer) c.in-Some.ensures.reading) ∙ sym c.in-Some-buffer_at.ensures) c.empty.ensures.goes c.leave_level.ensures)
