use Rattle.std.proofs.Common.{ap, refl, sym, subst}
use Rattle.block_meaning.specs.State.{State}
use Rattle.buffer_steps.specs.changes.Steps.{DeleteGoes}
use Rattle.buffer_steps.specs.reads.Fixed.{Fixed}
use Rattle.client_machine.specs.Machine.{state_in}
use Rattle.client_values.specs.Variables.{state_with}
use Rattle.client_records.proofs.Lent.{lent, lent_now, lent_reads, lent_state, rest_at}
use Rattle.client_records.proofs.memory.begin_delete.Goals as goal

pub returns-clause-reads : goal.returns-clause-reads
returns-clause-reads c = λ p rest reads.
    let m = c.args.machine.now in
    let b = c.begin_delete.new.buffers in
    lent_reads p rest m b.memory.now c.as_slice.result.now b.procedures.now c.as_slice-2.result.now b.returned.now b.error c.as_slice.ensures.value c.as_slice-2.ensures
    (ap (λ (x : Fixed). x.procedures) c.begin_delete.ensures.fixed) (ap (λ (x : Fixed). x.copies) c.begin_delete.ensures.fixed) (c.begin_delete.ensures.fits p (rest_at rest m)) reads

pub returns-clause-goes : goal.returns-clause-goes
returns-clause-goes c = λ p rest reads.
    let m = c.args.machine.now in
    let b = c.begin_delete.new.buffers in
    let new : State = state_with (rest_at rest m) b.procedures.now b.memory.now in
    subst (λ (t : State). DeleteGoes c.begin_delete.result c.args.buffer (state_in rest m) t)
    (sym (lent_state rest m b.memory.now c.as_slice.result.now b.procedures.now (λ (s : State). new) c.as_slice.ensures.value
    (ap (λ (x : Fixed). x.procedures) c.begin_delete.ensures.fixed) (ap (λ (x : Fixed). x.copies) c.begin_delete.ensures.fixed) refl))
    (subst (λ (s : State). DeleteGoes c.begin_delete.result c.args.buffer s new) (lent_now rest m c.as_slice.result.now c.as_slice.ensures.value)
    (c.begin_delete.ensures.goes p (rest_at rest m) (lent p rest m c.as_slice.result.now c.as_slice-2.result.now c.as_slice.ensures.value c.as_slice-2.ensures reads)))
