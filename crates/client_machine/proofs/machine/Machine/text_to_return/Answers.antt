use Rattle.std.proofs.Common.{sym, ap, ◌∙◌}
use Rattle.std.specs.Prelude.{Err}
use Rattle.block_meaning.specs.Blocks.{text_to_return, text_from}
use Rattle.client_machine.specs.Machine.{state_in}
use Rattle.client_machine.proofs.machine.Machine.text_to_return.Goals as goal

pub returns-in-Err-Fault : goal.returns-in-Err-Fault
returns-in-Err-Fault c = λ even rest p forms e1 e2.
    ap (λ o. text_to_return p o c.args.retry (state_in rest c.args.self.now)) c.in-Some.ensures
    ∙ ap text_from (c.value_of.ensures.fault even c.in-Err-Fault.field-0-0 (c.in-Err-Fault.is ∙ ap Err c.in-Err-Fault.field-0-is) rest p forms e1 e2)
    ∙ sym c.empty-in-Err-Fault.ensures
