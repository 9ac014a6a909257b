use Rattle.std.proofs.Common.{refl}
use Rattle.buffer_steps.proofs.ReadsLemmas.Taken.{found_at_once}
use Rattle.buffer_steps.proofs.reads.laws.matches_are_taken_at_once.Goals as goal

pub returns : goal.returns
returns c = record {
  found = found_at_once;
  locked = λ tree p r forward wait retry prefix c values ks s ans. refl;
  only = λ tree p r forward wait retry prefix c values ks s ans. refl;
}
