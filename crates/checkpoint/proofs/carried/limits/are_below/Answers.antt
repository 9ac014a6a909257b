use Rattle.std.proofs.Common.{◌≡◌, ⊎_elim, ◌<◌, true, length, take, refl, arith}
use Rattle.storage.specs.Slots.{wrote}
use Rattle.open_transactions.specs.Clients.{list_in}
use Rattle.checkpoint.proofs.CarriedLemmas.CarriedMore.{wrote_more}
use Rattle.checkpoint.proofs.carried.limits.are_below.Goals as goal

pub writes-preserved : goal.writes-preserved
writes-preserved c =
    let all = c.writes.invariant.all in
    let some = c.writes-test.true in
    let list = list_in c.args.transactions.now.clients.items c.args.client in
    let lt : c.writes.i < length list = omega (arith, all, some) in
    let low = c.if-write_at-end.false in
    record {
      same_transactions = refl;
      same_client = refl;
      same_end = refl;
      all = all;
      within = omega (arith, some);
      below = λ slot w. ⊎_elim
          (λ (before : wrote (take c.writes.i list) slot ≡ true). c.writes.invariant.below slot before)
          (λ (last : slot ≡ c.write_at.result.slot). omega (arith, last, low))
          (wrote_more list c.writes.i c.write_at.result slot lt c.write_at.ensures.value w);
    }
