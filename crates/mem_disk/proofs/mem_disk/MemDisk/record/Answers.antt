use Rattle.std.proofs.Common.{◌≡◌, false, arith}
use Rattle.mem_disk.specs.declared.call.Effect.{Effect}
use Rattle.mem_disk.specs.declared.call.Effect.TheVariants.{Written, Cut, Synced, Nothing}
use Rattle.mem_disk.specs.Crash.{area_of, is_write}
use Rattle.mem_disk.proofs.Record.{spent_more}
use Rattle.mem_disk.proofs.Passing.{agrees_more}
use Rattle.mem_disk.proofs.mem_disk.MemDisk.record.Goals as goal

not_written : (e : Effect) → is_write e ≡ false → e ≡ Written → ⊥
not_written Written quiet is = cc
not_written Cut quiet is = cc
not_written Synced quiet is = cc
not_written Nothing quiet is = cc

pub invariant_of-self-clause-agrees : goal.invariant_of-self-clause-agrees
invariant_of-self-clause-agrees c =
    let d = c.args.self.now in
    agrees_more d.current.items (area_of d.first) _ _ _ c.note.ensures.notes (not_written c.args.effect c.requires.quiet) d.agrees

pub invariant_of-self-clause-spent : goal.invariant_of-self-clause-spent
invariant_of-self-clause-spent c =
    let more = spent_more _ _ _ c.note.ensures.notes in
    omega (arith, more, c.note.ensures.pool, c.args.self.now.spent)
