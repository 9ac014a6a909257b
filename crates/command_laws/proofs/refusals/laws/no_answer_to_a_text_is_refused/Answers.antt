use Rattle.command_laws.proofs.RefusalsLemmas.Unrefused.{answers_unrefused}
use Rattle.command_laws.proofs.refusals.laws.no_answer_to_a_text_is_refused.Goals as goal

pub returns : goal.returns
returns c = answers_unrefused
