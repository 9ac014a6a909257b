use Rattle.std.proofs.Common.{Some, ap, refl, sym, ◌∙◌}
use Rattle.flat_machine.specs.Flat as flat
use Rattle.block_meaning.specs.Changes.{stored}
use Rattle.block_meaning.specs.Lines.{OutOfRange}
use Rattle.abl_base.specs.declared.value.Value.{Value}
use Rattle.client_machine.specs.Machine.{stack_in}
use Rattle.client_machine.specs.declared.mode.Completion.TheVariants as completion
use Rattle.client_machine.specs.declared.mode.LineFault.TheVariants as line_fault
use Rattle.client_machine.specs.declared.mode.Mode.TheVariants as mode
use Rattle.client_machine.specs.declared.mode.changes.ChangeAnswer.TheVariants as change_answer
use Rattle.record_rules.specs.declared.lines.complaint.Complaint.TheVariants as complaint
use Rattle.client_records.proofs.Kept.{answer_from, mode_kept, on_ok}
use Rattle.client_records.proofs.assigns.was_counted.Goals as goal

pub returns-in-Some-clause-ok : goal.returns-in-Some-clause-ok
returns-in-Some-clause-ok c =
    let old = c.args.machine.now in
    let t = c.args.target in
    let v = c.in-Some.value in
    let counted = c.in-Some.ensures in
    on_ok c.assign_last.result (λ kept.
    answer_from c.args.op (change_answer.WasCounted t) c.args.answer (λ p s. flat.ends_as (stored t v s) (stack_in old)) old c.assign_last.new.machine c.requires
    (λ p s. ap (λ x. flat.count_answered x t (stack_in old) s) counted.1 ∙ ap (λ (x : Value). flat.ends_as (stored t x s) (stack_in old)) (sym counted.2)) kept) c.assign_last.ensures.ok

pub returns-clause-ok : goal.returns-clause-ok
returns-clause-ok c =
    let old = c.args.machine.now in
    let t = c.args.target in
    answer_from c.args.op (change_answer.WasCounted t) c.args.answer (λ p s. flat.fault OutOfRange (stack_in old) s) old c.complain.new.machine c.requires
    (λ p s. ap (λ x. flat.count_answered x t (stack_in old) s) c.in-None.ensures)
    (mode_kept (λ p s. flat.fault OutOfRange (stack_in old) s) old c.complain.new.machine (mode.Unwind (completion.Faults (Some (line_fault.Complaint complaint.OutOfRange)))) c.complain.ensures (λ o. o) (λ p rest f. refl))
