-- What is known of an earlier moment stays known.
use Rattle.std.proofs.Common.{subst}
use Rattle.std.specs.Prelude.{IsTrue}
use Rattle.std.proofs.Math.Logic.{∥∥₁_map}
use Rattle.run_works.proofs.WatchedLemmas.Watching.{still_past}
use Rattle.run_works.proofs.watched.watched.WatchedDisk.write.Goals as goal

pub invariant_of-self : goal.invariant_of-self
invariant_of-self g c =
    let old = c.args.self.now in
    let time = c.write.ensures.time in
    let moment = g.K.Start.moment in
    record {
      past = still_past moment _ _ _ old.past time.one;
      images = λ image left. old.images image (time.nothing_else moment image old.past left);
      some = λ seen. ∥∥₁_map (old.some (subst IsTrue c.write.ensures.same_observable seen)) (λ found. (found.0, time.stays moment found.0 old.past found.1));
    }
