use Rattle.std.proofs.Common.{◌≡◌, ◌+◌, ℕ, suc, ap, arith}
use Rattle.database_meaning.specs.Counts.{sum_below}
use Rattle.slot_rows.specs.declared.open.Open.{Open}
use Rattle.slot_rows.specs.Opens.{OpenView, open_in, view_of}
use Rattle.slot_rows.proofs.Changed.{open_at}
use Rattle.slot_rows.proofs.asks.drawn_all.Goals as goal

sum_more : (n : ℕ) (count : ℕ → ℕ) → sum_below (n + 1) count ≡ count n + sum_below n count
sum_more n count = let is : n + 1 ≡ suc n = omega arith in ap (λ (m : ℕ). sum_below m count) is

pub loop-client-preserved : goal.loop-client-preserved
loop-client-preserved c =
    let opens = c.args.opens.now in
    let at = c.loop-client.client in
    let i = c.loop-client.invariant in
    let one = c.index-opens-client.result in
    let view : open_in opens at ≡ view_of one = open_at opens at one (omega arith) c.index-opens-client.is in
    let is = c.index-opens-client.is in
    let drawn = ap (λ (v : OpenView). v.drawn) view in
    let read = ap (λ (o : Open). o.drawn) is in
    let step = sum_more at (λ (k : ℕ). (open_in opens k).drawn) in
    let sum = i.sum in
    let few = i.few in
    let most = one.most in
    let within = one.few in
    record { sum = omega (arith, sum, drawn, read, step); few = omega (arith, few, most, within, read) }
