use Rattle.client_threads.proofs.RunsLemmas.Unrefused.{clients_unrefused}
use Rattle.client_threads.proofs.runs.laws.no_operation_on_levels_is_refused.Goals as goal

pub returns : goal.returns
returns c = λ client names p units next setting contents n trace along fits rightly. clients_unrefused c.open_levels_are_of_own_events.ensures client names p units next setting contents n trace along fits rightly
