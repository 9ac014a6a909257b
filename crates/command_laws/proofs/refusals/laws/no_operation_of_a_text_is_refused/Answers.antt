use Rattle.command_laws.proofs.RefusalsLemmas.Unrefused.{clients_unrefused}
use Rattle.command_laws.proofs.refusals.laws.no_operation_of_a_text_is_refused.Goals as goal

pub returns : goal.returns
returns c = clients_unrefused
