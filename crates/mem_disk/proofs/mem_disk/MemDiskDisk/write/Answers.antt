use Rattle.std.proofs.Common.{true, false, length, refl, arith}
use Rattle.storage.specs.Disk.{TornIn}
use Rattle.mem_disk.proofs.Moments.{passes_not, torn_not}
use Rattle.mem_disk.proofs.Passing.{many_notes, torn_same, seen_still, seen_here_now, torn_now, write_moves, same_held, same_seen, same_spent, same_moves}
use Rattle.mem_disk.proofs.mem_disk.MemDiskDisk.write.Goals as goal

pub returns-then-self-clause-time : goal.returns-then-self-clause-time
returns-then-self-clause-time c =
    let d = c.args.self.now in
    passes_not _ d.time (TornIn c.args.area c.args.at (length c.args.bytes.now)) (omega (arith, c.if-self.true)) (torn_not c.args.area c.args.at (length c.args.bytes.now))

pub returns-then-not-has_room-clause-refused : goal.returns-then-not-has_room-clause-refused
returns-then-not-has_room-clause-refused c = let p = c.pass_over.ensures in λ _. same_held p.counts c.args.area (many_notes c.args.self.now) p.notes p.full

pub returns-then-not-has_room-clause-unspent : goal.returns-then-not-has_room-clause-unspent
returns-then-not-has_room-clause-unspent c = let p = c.pass_over.ensures in λ _. same_spent p.counts c.args.area (many_notes c.args.self.now) p.notes p.full

pub returns-then-not-has_room-clause-others : goal.returns-then-not-has_room-clause-others
returns-then-not-has_room-clause-others c = let p = c.pass_over.ensures in torn_same _ _ _ (same_seen p.counts c.args.area (many_notes c.args.self.now) p.notes p.full)

pub returns-then-not-has_room-clause-time : goal.returns-then-not-has_room-clause-time
returns-then-not-has_room-clause-time c = let p = c.pass_over.ensures in same_moves p.counts c.args.area (many_notes c.args.self.now) p.notes p.full _ (torn_not c.args.area c.args.at (length c.args.bytes.now))

pub returns-then-is_among-clause-others : goal.returns-then-is_among-clause-others
returns-then-is_among-clause-others c = torn_same _ _ _ (seen_still c.cut.ensures.counts _ c.cut.ensures.notes (λ e. absurd (cc (e))))

pub returns-then-is_among-clause-time : goal.returns-then-is_among-clause-time
returns-then-is_among-clause-time c = let p = c.cut.ensures in write_moves p.counts _ p.notes (many_notes c.args.self.now) (c.has_room.ensures.fits c.if-not-has_room.false).0 refl false

pub returns-clause-written : goal.returns-clause-written
returns-clause-written c = seen_here_now c.put.ensures.counts _ c.put.ensures.notes

pub returns-clause-others : goal.returns-clause-others
returns-clause-others c = torn_now c.put.ensures.counts _ c.put.ensures.notes refl

pub returns-clause-time : goal.returns-clause-time
returns-clause-time c = let p = c.put.ensures in write_moves p.counts _ p.notes (many_notes c.args.self.now) (c.has_room.ensures.fits c.if-not-has_room.false).0 refl true
