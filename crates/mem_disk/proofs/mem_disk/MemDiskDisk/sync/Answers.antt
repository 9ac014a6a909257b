use Rattle.std.proofs.Common.{◌≡◌, true, refl, arith}
use Rattle.mem_disk.proofs.Record.{spent_more}
use Rattle.mem_disk.proofs.Passing.{many_notes, seen_still, still_moves, durable_now, same_held, same_seen, same_spent, same_moves}
use Rattle.mem_disk.proofs.mem_disk.MemDiskDisk.sync.Goals as goal

pub returns-then-self-2-clause-refused : goal.returns-then-self-2-clause-refused
returns-then-self-2-clause-refused c = let p = c.pass_over.ensures in same_held p.counts c.args.area (many_notes c.args.self.now) p.notes p.full

pub returns-then-self-2-clause-unspent : goal.returns-then-self-2-clause-unspent
returns-then-self-2-clause-unspent c = let p = c.pass_over.ensures in same_spent p.counts c.args.area (many_notes c.args.self.now) p.notes p.full

pub returns-then-self-2-clause-seen : goal.returns-then-self-2-clause-seen
returns-then-self-2-clause-seen c = let p = c.pass_over.ensures in same_seen p.counts c.args.area (many_notes c.args.self.now) p.notes p.full

pub returns-then-self-2-clause-time : goal.returns-then-self-2-clause-time
returns-then-self-2-clause-time c = let p = c.pass_over.ensures in same_moves p.counts c.args.area (many_notes c.args.self.now) p.notes p.full (λ old new. new ≡ old) (λ _. refl)

pub returns-clause-seen : goal.returns-clause-seen
returns-clause-seen c = seen_still c.record.ensures.counts _ c.record.ensures.notes (λ e. absurd (cc (e)))

pub returns-clause-unspent : goal.returns-clause-unspent
returns-clause-unspent c = let more = spent_more _ _ _ c.record.ensures.notes in omega (arith, more)

pub returns-clause-durable : goal.returns-clause-durable
returns-clause-durable c = let p = c.record.ensures in durable_now p.counts _ p.notes (many_notes c.args.self.now) (omega (arith, c.if-self-2.false)) refl

pub returns-clause-time : goal.returns-clause-time
returns-clause-time c = let p = c.record.ensures in still_moves p.counts _ p.notes (many_notes c.args.self.now) (omega (arith, c.if-self-2.false)) refl true (λ old new. new ≡ old) (λ _. refl)
