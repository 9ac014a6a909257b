use Rattle.std.proofs.Common.{◌≡◌, inl, inr, ℕ, ◌+◌, false, sym, ap, ◌∙◌, subst, arith}
use Rattle.std.proofs.lemmas.Bool.{cases_eq}
use Rattle.storage.specs.Slots.{Transaction}
use Rattle.byte_rows.specs.Clients.{client_in}
use Rattle.byte_rows.specs.Still.{Still}
use Rattle.byte_rows.proofs.ClientLists.{same_both}
use Rattle.byte_rows.proofs.Reading.{still_both}
use Rattle.byte_rows.proofs.clients.settle_idle.Goals as goal

pub settle_one-requires-clause-sixteen : goal.settle_one-requires-clause-sixteen
settle_one-requires-clause-sixteen g c = c.loop-client.invariant.same.many ∙ c.requires.sixteen

pub settle_one-requires-clause-begun : goal.settle_one-requires-clause-begun
settle_one-requires-clause-begun g c = λ d lt.
    ap (λ (f : ℕ → Transaction). (f d).begun) c.loop-client.invariant.still.rests.transaction ∙ (c.requires.begun d lt ∙ sym (c.loop-client.invariant.same.begun d))

pub loop-client-preserved : goal.loop-client-preserved
loop-client-preserved g c =
    let first = g.S.Slots.state c.args.slots.now in
    let s = g.S.Slots.state c.loop-client.slots in
    let t = g.S.Slots.state c.settle_one.new.slots in
    let i = c.loop-client.invariant in
    let e = c.in_ok-settle_one.ensures in
    let l = e.looked in
    let step : Still s t (g.S.Slots.stop c.loop-client.slots) (g.S.Slots.stop c.settle_one.new.slots) = record { rests = l.rests; time = l.time; later = l.cause.later; failed = l.cause.stays (λ q. cc q) } in
    record {
      still = still_both first s t (g.S.Slots.stop c.args.slots.now) (g.S.Slots.stop c.loop-client.slots) (g.S.Slots.stop c.settle_one.new.slots) (g.met.S.Slots.stop_known c.settle_one.new.slots) i.still step;
      noted = e.noted (λ q. cc q);
      same = same_both c.args.clients.now c.loop-client.clients c.settle_one.new.clients i.same e.clients;
      settled = λ d k lt idle inside own.
          let was : (client_in c.loop-client.clients d).begun ≡ false = sym (e.clients.begun d) ∙ idle in
          elim (cases_eq d c.loop-client.client) [
            | inl is ↦ e.settled (subst (λ (n : ℕ). (client_in c.loop-client.clients n).begun ≡ false) is was) k inside (own ∙ ap (λ (n : ℕ). n + 1) is)
            | inr ne ↦ i.settled d k (omega (arith, lt, ne)) was inside (e.none d k own)
          ];
    }
