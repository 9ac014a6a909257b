use Rattle.std.proofs.Common.{Some, ap, refl, sym, ◌∙◌}
use Rattle.flat_machine.specs.Flat as flat
use Rattle.block_meaning.specs.Frames.{holding}
use Rattle.block_meaning.specs.Lines.{RecordIsGone}
use Rattle.block_meaning.specs.Program.{Program}
use Rattle.block_meaning.specs.State as state
use Rattle.block_meaning.specs.State.{Exclusive, Record, State}
use Rattle.client_machine.specs.Machine.{stack_in}
use Rattle.client_machine.specs.declared.mode.Completion.TheVariants as completion
use Rattle.client_machine.specs.declared.mode.LineFault.TheVariants as line_fault
use Rattle.client_machine.specs.declared.mode.Mode.TheVariants as mode
use Rattle.client_machine.specs.declared.mode.changes.ChangeAnswer.TheVariants as change_answer
use Rattle.record_rules.specs.declared.lines.complaint.Complaint.TheVariants as complaint
use Rattle.client_records.proofs.Kept.{answer_from, begun_mode, memory_kept, mode_kept, reads_of}
use Rattle.client_records.proofs.locks.was_upgraded.Goals as goal

pub returns-then-is_gone-clause-ok : goal.returns-then-is_gone-clause-ok
returns-then-is_gone-clause-ok c =
    let old = c.args.machine.now in
    let b = c.args.buffer in
    let row = c.args.row in
    let values = c.args.values in
    let made = c.args.made in
    let from = λ (p : Program) (s : State). flat.fault (RecordIsGone b) (stack_in old) s in
    answer_from c.args.op (change_answer.WasUpgraded b row values made) c.args.answer from old c.complain.new.machine c.requires
    (λ p s. ap (λ gone. flat.config_if gone (flat.fault (RecordIsGone b) (stack_in old) s) (flat.config (flat.Unwind state.Normal) (stack_in old) (holding b (Record row values Exclusive made) s))) (sym c.is_gone.ensures ∙ c.if-is_gone.true))
    (mode_kept from old c.complain.new.machine (mode.Unwind (completion.Faults (Some (line_fault.Complaint (complaint.Gone b))))) c.complain.ensures (λ o. o) (λ p rest f. refl))

pub returns-clause-ok : goal.returns-clause-ok
returns-clause-ok c =
    let old = c.args.machine.now in
    let b = c.args.buffer in
    let row = c.args.row in
    let values = c.args.values in
    let made = c.args.made in
    let from = λ (p : Program) (s : State). flat.config (flat.Unwind state.Normal) (stack_in old) (holding b (Record row values Exclusive made) s) in
    answer_from c.args.op (change_answer.WasUpgraded b row values made) c.args.answer from old c.complete.new.machine c.requires
    (λ p s. ap (λ gone. flat.config_if gone (flat.fault (RecordIsGone b) (stack_in old) s) (flat.config (flat.Unwind state.Normal) (stack_in old) (holding b (Record row values Exclusive made) s))) (sym c.is_gone.ensures ∙ c.if-is_gone.false))
    (memory_kept from old c.hold.new.machine c.complete.new.machine (mode.Unwind completion.Normal) c.hold.ensures.moved c.complete.ensures c.hold.ensures.copies c.hold.ensures.reads (λ o. o)
    (λ tree p rest is f ans. ap (λ (s : State). flat.means tree p (flat.config (flat.Unwind state.Normal) (stack_in old) s) ans) (sym (c.hold.ensures.state p rest (reads_of p rest begun_mode old f)))))
