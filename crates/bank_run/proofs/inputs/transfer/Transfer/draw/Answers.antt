use Rattle.std.proofs.Common.{refl, ◌∙◌, ap}
use Rattle.bank_run.specs.inputs.Bank.{advanced}
use Rattle.bank_run.proofs.inputs.transfer.Transfer.draw.Goals as goal

-- src/transfer.rt:22:5
pub returns-clause-transfer : goal.returns-clause-transfer
returns-clause-transfer c = simp (c.other_account.ensures, c.draw.ensures.value, c.draw-2.ensures.value, c.draw-3.ensures.value, c.draw-3.ensures.state, c.draw-2.ensures.state, c.draw.ensures.state) refl

-- src/transfer.rt:22:5
pub returns-clause-state : goal.returns-clause-state
returns-clause-state c = c.draw-3.ensures.state ∙ ap advanced (c.draw-2.ensures.state ∙ ap advanced c.draw.ensures.state)
