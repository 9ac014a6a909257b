use Rattle.std.proofs.Common.{inl}
use Rattle.client_threads.proofs.RunsLemmas.Ends.{requests_end}
use Rattle.client_threads.proofs.runs.laws.a_stop_is_followed_by_end_alone.Goals as goal

pub returns : goal.returns
returns c = λ p units before more a op stop is. requests_end p units before a more (inl stop) op is
