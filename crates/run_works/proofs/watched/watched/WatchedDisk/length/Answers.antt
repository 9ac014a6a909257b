-- The call makes no moment, so what was known stays known.
use Rattle.std.proofs.Common.{◌≤◌, ℕ, sym, subst}
use Rattle.std.specs.Prelude.{IsTrue}
use Rattle.std.proofs.Math.Logic.{∥∥₁_map}
use Rattle.run_works.proofs.watched.watched.WatchedDisk.length.Goals as goal

pub invariant_of-self : goal.invariant_of-self
invariant_of-self g c =
    let old = c.args.self.now in
    let rest = c.length.ensures.rest in
    let moment = g.K.Start.moment in
    record {
      past = subst (λ (now : ℕ). moment ≤ now) (sym rest.moment) old.past;
      images = λ image left. old.images image (rest.nothing_else moment image left);
      some = λ seen. ∥∥₁_map (old.some (subst IsTrue rest.same_observable seen)) (λ found. (found.0, rest.stays moment found.0 found.1));
    }
