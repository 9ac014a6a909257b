use Rattle.bank_run.proofs.InputsLemmas.Steps.{lines_step, state_step}
use Rattle.bank_run.proofs.inputs.inputs.client_input.Goals as goal

-- src/inputs.rt:23:5
pub loop-number-preserved : goal.loop-number-preserved
loop-number-preserved c = (
  lines_step c.args.bank c.args.client c.loop-number.number c.loop-number.draws.state c.loop-number.text c.write_if.new.text c.draw-transfer.result c.loop-number.invariant.0 c.loop-number.invariant.1.0 c.draw-transfer.ensures.transfer c.in_ok-write_if.ensures,
  (
    state_step c.args.bank.start c.loop-number.number c.loop-number.draws.state c.draw-transfer.new.draws.state c.loop-number.invariant.1.0 c.draw-transfer.ensures.state,
    c.draw-transfer.ensures.range,
  ),
)
