-- What is guarded stays so.
use Rattle.guarded_slots.proofs.Keeping.{fine_before}
use Rattle.guarded_slots.proofs.Calls.{by_result, kept_commits, kept_fails}
use Rattle.guarded_slots.proofs.slots.GuardedSlots.commit.Goals as goal

pub invariant_of-self-2 : goal.invariant_of-self-2
invariant_of-self-2 g c =
    let old = c.args.self.now in
    let e = c.commit.ensures in
    let fine = fine_before (g.S.Slots.state old.slots) (g.S.Slots.state c.commit.new.self) c.commit.result e.cause in
    record { guarded = by_result c.commit.result e.ok e.err (kept_commits (g.G.Guard.allowed old.guard) old.tainted old.tainted (g.S.Slots.state old.slots) (g.S.Slots.state c.commit.new.self) (g.S.Slots.stop old.slots) (g.S.Slots.stop c.commit.new.self) old.guarded e.time (λ m left there. (g.met.S.Slots.stop_known c.commit.new.self m left there).observable) fine (λ is. is) c.if-self.false c.args.client) (kept_fails (g.G.Guard.allowed old.guard) old.tainted old.tainted (g.S.Slots.state old.slots) (g.S.Slots.state c.commit.new.self) (g.S.Slots.stop old.slots) (g.S.Slots.stop c.commit.new.self) old.guarded e.time (λ m left there. (g.met.S.Slots.stop_known c.commit.new.self m left there).observable) fine (λ is. is) c.if-self.false c.args.client); order = old.order }
