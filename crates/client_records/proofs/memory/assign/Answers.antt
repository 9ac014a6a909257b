use Rattle.std.proofs.Common.{List, ap, length, refl, sym, subst}
use Rattle.bound_tree.specs.declared.statement.Target.{Target}
use Rattle.bound_tree.specs.declared.statement.Target.TheVariants as target
use Rattle.block_meaning.specs.Changes.{stored, stored_in}
use Rattle.block_meaning.specs.Frames.{content_of}
use Rattle.block_meaning.specs.State.{Copy, State}
use Rattle.client_machine.specs.Machine.{state_in}
use Rattle.buffer_steps.specs.reads.Fixed.{Fixed}
use Rattle.client_values.proofs.Assigned.{even_after}
use Rattle.client_values.specs.Ends.{Assigns}
use Rattle.client_values.specs.Variables.{state_with}
use Rattle.client_records.proofs.Lent.{lent, lent_now, lent_reads, lent_state, rest_at}
use Rattle.client_records.proofs.memory.assign.Goals as goal

pub returns-in-Variable-clause-reads : goal.returns-in-Variable-clause-reads
returns-in-Variable-clause-reads c = λ p rest r.
    let m = c.args.machine.now in
    record { forms = r.forms; even = even_after m.procedures.items m.memory c.assign_value.new.memory c.assign_value.ensures.shape r.even; status_is = r.status_is; returned_is = r.returned_is }

pub returns-in-Variable-clause-assigns : goal.returns-in-Variable-clause-assigns
returns-in-Variable-clause-assigns c = λ p rest r.
    let m = c.args.machine.now in
    let mem = c.assign_value.new.memory in
    let res = c.assign_value.result in
    subst (λ (t : Target). Assigns res (stored t c.args.value (state_in rest m)) (let x : State = record rest { level = length mem.copies; units = m.units } in state_with x m.procedures.items mem)) (sym c.in-Variable.is)
    (subst (λ (cs : List Copy). Assigns res (stored (target.Variable c.in-Variable.variable) c.args.value (state_in rest m)) (let x : State = record rest { level = length cs; units = m.units } in state_with x m.procedures.items mem)) (sym c.assign_value.ensures.shape.copies)
    (c.assign_value.ensures.assigns (rest_at rest m) m.procedures.items r.even))

pub returns-in-Field-clause-reads : goal.returns-in-Field-clause-reads
returns-in-Field-clause-reads c = λ p rest reads.
    let m = c.args.machine.now in
    let b = c.set_field.new.buffers in
    lent_reads p rest m b.memory.now c.as_slice.result.now b.procedures.now c.as_slice-in-Field.result.now b.returned.now b.error c.as_slice.ensures.value c.as_slice-in-Field.ensures
    (ap (λ (x : Fixed). x.procedures) c.set_field.ensures.fixed) (ap (λ (x : Fixed). x.copies) c.set_field.ensures.fixed) (c.set_field.ensures.fits p (rest_at rest m)) reads

pub returns-in-Field-clause-assigns : goal.returns-in-Field-clause-assigns
returns-in-Field-clause-assigns c = λ p rest reads.
    let m = c.args.machine.now in
    let b = c.set_field.new.buffers in
    let res = c.set_field.result in
    let n = c.in-Field.buffer in
    let f = c.in-Field.field in
    let k = c.in-Field.kind in
    let v = c.args.value in
    let new : State = state_with (rest_at rest m) b.procedures.now b.memory.now in
    let now : State = state_in rest m in
    subst (λ (t : State). Assigns res (stored c.args.target v now) t)
    (sym (lent_state rest m b.memory.now c.as_slice.result.now b.procedures.now (λ (s : State). new) c.as_slice.ensures.value
    (ap (λ (x : Fixed). x.procedures) c.set_field.ensures.fixed) (ap (λ (x : Fixed). x.copies) c.set_field.ensures.fixed) refl))
    (subst (λ (t : Target). Assigns res (stored t v now) new) (sym c.in-Field.is)
    (subst (λ (s : State). Assigns res (stored_in (content_of n s) n f k v s) new) (lent_now rest m c.as_slice.result.now c.as_slice.ensures.value)
    (c.set_field.ensures.assigns p (rest_at rest m) (lent p rest m c.as_slice.result.now c.as_slice-in-Field.result.now c.as_slice.ensures.value c.as_slice-in-Field.ensures reads))))
