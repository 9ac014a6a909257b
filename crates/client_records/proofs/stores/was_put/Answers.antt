use Rattle.std.proofs.Common.{Some, ap, refl, sym}
use Rattle.flat_machine.specs.Flat as flat
use Rattle.block_meaning.specs.Program.{Program}
use Rattle.block_meaning.specs.State as state
use Rattle.block_meaning.specs.State.{State}
use Rattle.client_machine.specs.Machine.{stack_in}
use Rattle.client_machine.specs.declared.mode.Completion.TheVariants as completion
use Rattle.client_machine.specs.declared.mode.LineFault.TheVariants as line_fault
use Rattle.client_machine.specs.declared.mode.Mode.TheVariants as mode
use Rattle.client_machine.specs.declared.mode.changes.ChangeAnswer.TheVariants as change_answer
use Rattle.record_rules.specs.lines.Complaints.{complaint_in}
use Rattle.client_records.proofs.Kept.{answer_from, mode_kept}
use Rattle.client_records.proofs.stores.was_put.Goals as goal

pub returns-in-Some-clause-ok : goal.returns-in-Some-clause-ok
returns-in-Some-clause-ok c =
    let old = c.args.machine.now in
    let from = λ (p : Program) (s : State). flat.fault (complaint_in c.in-Some.complaint) (stack_in old) s in
    answer_from c.args.op (change_answer.WasPut c.args.buffer c.args.table) c.args.answer from old c.complain.new.machine c.requires
    (λ p s. ap (λ x. flat.refused_answered x (stack_in old) s) (sym c.in-Some.ensures))
    (mode_kept from old c.complain.new.machine (mode.Unwind (completion.Faults (Some (line_fault.Complaint c.in-Some.complaint)))) c.complain.ensures (λ o. o) (λ p rest f. refl))

pub returns-clause-ok : goal.returns-clause-ok
returns-clause-ok c =
    let old = c.args.machine.now in
    let from = λ (p : Program) (s : State). flat.config (flat.Unwind state.Normal) (stack_in old) s in
    answer_from c.args.op (change_answer.WasPut c.args.buffer c.args.table) c.args.answer from old c.complete.new.machine c.requires
    (λ p s. ap (λ x. flat.refused_answered x (stack_in old) s) (sym c.in-None.ensures))
    (mode_kept from old c.complete.new.machine (mode.Unwind completion.Normal) c.complete.ensures (λ o. o) (λ p rest f. refl))
