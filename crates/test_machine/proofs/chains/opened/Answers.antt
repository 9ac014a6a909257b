use Rattle.std.proofs.Common.{ap}
use Rattle.storage.specs.Slots.{SlotState}
use Rattle.test_machine.proofs.chains.opened.Goals as goal

pub open-requires-clause-idle : goal.open-requires-clause-idle
open-requires-clause-idle c = λ k. ap (λ (s : SlotState). (s.transaction k).begun) c.in_ok-slots.ensures

pub open-requires-clause-clean : goal.open-requires-clause-clean
open-requires-clause-clean c = λ k. ap (λ (s : SlotState). (s.transaction k).undo) c.in_ok-slots.ensures
