use Rattle.block_meaning.specs.State.{State}
use Rattle.std.proofs.Common.{subst}
use Rattle.buffer_steps.specs.changes.Steps.{SettleGoes}
use Rattle.client_values.specs.Variables.{state_with}
use Rattle.client_records.proofs.Asked.{more_units, one_unit, stores_row}
use Rattle.client_records.proofs.Lent.{if_ok, lent, lent_now, rest_at}
use Rattle.client_records.proofs.memory.store_step.Goals as goal

pub returns-clause-goes : goal.returns-clause-goes
returns-clause-goes c =
    let m = c.args.machine.now in
    if_ok c.settle.result (λ step goes p rest tables reads.
    subst (λ (s : State). SettleGoes step p c.args.buffer s) (lent_now rest m c.as_slice.result.now c.as_slice.ensures.value)
    (goes p (rest_at rest m) tables (lent p rest m c.as_slice.result.now c.as_slice-2.result.now c.as_slice.ensures.value c.as_slice-2.ensures reads))) c.settle.ensures

pub returns-clause-stores : goal.returns-clause-stores
returns-clause-stores c =
    let m = c.args.machine.now in
    if_ok c.settle.result (λ step goes p rest tables reads.
    stores_row step p c.args.buffer (state_with (rest_at rest m) c.as_slice.result.now m.memory)
    (goes p (one_unit (rest_at rest m)) tables (more_units p (rest_at rest m) c.as_slice.result.now m.memory m.status c.as_slice-2.result.now (lent p rest m c.as_slice.result.now c.as_slice-2.result.now c.as_slice.ensures.value c.as_slice-2.ensures reads)))) c.settle.ensures
