use Rattle.std.proofs.Common.{◌≡◌, List, Option, Some, None, sym, ap, ◌∙◌}
use Rattle.flat_machine.specs.Flat as flat
use Rattle.client_memory.specs.Buffers.{denoted_place}
use Rattle.client_machine.specs.declared.mode.Completion.TheVariants as completion
use Rattle.client_machine.specs.declared.mode.Mode.TheVariants as mode
use Rattle.client_machine.specs.declared.mode.OnAnswer.TheVariants as on_answer
use Rattle.client_machine.specs.declared.mode.ends.EndAnswer.TheVariants as end_answer
use Rattle.client_machine.specs.Machine.{stack_in, state_in}
use Rattle.abl_base.specs.declared.value.Value.{Value}
use Rattle.abl_base.specs.declared.row.RowId.{RowId}
use Rattle.block_meaning.specs.Lines.{Complaint}
use Rattle.block_meaning.specs.State.{State, Content, Record, Exclusive, Normal}
use Rattle.block_meaning.specs.Views.{refusal_in, row_in}
use Rattle.client_memory.specs.Memory.{Remembered, holding}
use Rattle.client_values.proofs.Assigned.{same_shape}
use Rattle.client_machine.specs.declared.machine.Machine.{Machine}
use Rattle.client_machine.specs.declared.mode.LineFault.TheVariants as line_fault
use Rattle.client_machine.specs.Statements.{inserted_table, inserted_values}
use Rattle.record_rules.specs.lines.Complaints.{complaint_in, complaint_if}
use Rattle.client_ends.proofs.Buffers.{holding_here, shape_held}
use Rattle.client_ends.proofs.Moved.{answer_moved}
use Rattle.client_ends.proofs.answers.was_inserted.Goals as goal

pub returns-clause-ok : goal.returns-clause-ok
returns-clause-ok c =
    let old = c.args.machine.now in
    let a = c.args.answer in
    let at = denoted_place c.args.place in
    let t = inserted_table c.args.op in
    let vs = inserted_values c.args.op in
    let row = c.in-Some.row in
    let content : Content = Record row vs Exclusive (Some c.args.made) in
    let mem = holding at content old.memory in
    let same : c.replace.new.self ≡ mem = c.replace.ensures.new ∙ ap (λ (xs : List Value). holding at (Record row xs Exclusive (Some c.args.made)) old.memory) c.inserted-table.ensures.values in
    answer_moved c.args.op (on_answer.End (end_answer.WasInserted c.args.place c.args.made)) a old c.set_mode-2.new.self (mode.Unwind completion.Normal) mem
    (c.set_mode-2.ensures ∙ ap (λ (m : Remembered). let x : Machine = record old { mode = mode.Unwind completion.Normal; memory = m } in x) same) (shape_held at content old.memory)
    (λ p k ks s. c.requires p _ k ks s) (λ o. (tt, o))
    (λ p rest f.
    ap (λ (x : State). flat.config (flat.Unwind Normal) (stack_in old) x) (holding_here rest old.procedures.items old.memory old.units at content f.even)
    ∙ ap (λ (r : Option RowId). flat.insert_answered r at t vs c.args.made (refusal_in at.number t a) (stack_in old) (state_in rest old)) (sym c.in-Some.is ∙ c.inserted_row.ensures))

pub returns-in-Some-refusal_in-clause-ok : goal.returns-in-Some-refusal_in-clause-ok
returns-in-Some-refusal_in-clause-ok c =
    let old = c.args.machine.now in
    let a = c.args.answer in
    let at = denoted_place c.args.place in
    let t = inserted_table c.args.op in
    let vs = inserted_values c.args.op in
    let x = c.in-Some-refusal_in.complaint in
    let none : row_in a ≡ None = sym c.inserted_row.ensures ∙ c.in_default.is in
    let why : refusal_in at.number t a ≡ Some (complaint_in x) =
    sym (ap complaint_if (sym c.in-Some-refusal_in.is) ∙ c.refusal_in.ensures ∙ ap (λ n. refusal_in n c.inserted-table.result.table a) c.in_ok-number.ensures ∙ ap (λ k. refusal_in at.number k a) c.inserted-table.ensures.table) in
    answer_moved c.args.op (on_answer.End (end_answer.WasInserted c.args.place c.args.made)) a old c.set_mode.new.self (mode.Unwind (completion.Faults (Some (line_fault.Complaint x)))) old.memory c.set_mode.ensures (same_shape old.memory)
    (λ p k ks s. c.requires p _ k ks s) (λ o. (tt, o))
    (λ p rest f. sym (ap (λ (r : Option RowId). flat.insert_answered r at t vs c.args.made (refusal_in at.number t a) (stack_in old) (state_in rest old)) none
    ∙ ap (λ (y : Option Complaint). flat.insert_answered None at t vs c.args.made y (stack_in old) (state_in rest old)) why))

pub returns-in-None-clause-ok : goal.returns-in-None-clause-ok
returns-in-None-clause-ok c =
    let old = c.args.machine.now in
    let a = c.args.answer in
    let at = denoted_place c.args.place in
    let t = inserted_table c.args.op in
    let vs = inserted_values c.args.op in
    let none : row_in a ≡ None = sym c.inserted_row.ensures ∙ c.in_default.is in
    let why : refusal_in at.number t a ≡ None =
    sym (ap complaint_if (sym c.in-None.is) ∙ c.refusal_in.ensures ∙ ap (λ n. refusal_in n c.inserted-table.result.table a) c.in_ok-number.ensures ∙ ap (λ k. refusal_in at.number k a) c.inserted-table.ensures.table) in
    answer_moved c.args.op (on_answer.End (end_answer.WasInserted c.args.place c.args.made)) a old c.set_mode-in-None.new.self (mode.Unwind completion.Normal) old.memory c.set_mode-in-None.ensures (same_shape old.memory)
    (λ p k ks s. c.requires p _ k ks s) (λ o. (tt, o))
    (λ p rest f. sym (ap (λ (r : Option RowId). flat.insert_answered r at t vs c.args.made (refusal_in at.number t a) (stack_in old) (state_in rest old)) none
    ∙ ap (λ (y : Option Complaint). flat.insert_answered None at t vs c.args.made y (stack_in old) (state_in rest old)) why))
