use Rattle.std.proofs.Common.{arith}
use Rattle.mem_disk.specs.Crash.{area_of}
use Rattle.mem_disk.proofs.Record.{spent_more}
use Rattle.mem_disk.proofs.Passing.{agrees_more}
use Rattle.mem_disk.proofs.mem_disk.MemDisk.cut.Goals as goal

pub invariant_of-self-clause-agrees : goal.invariant_of-self-clause-agrees
invariant_of-self-clause-agrees c =
    let d = c.args.self.now in
    agrees_more d.current.items (area_of d.first) _ _ _ c.note.ensures.notes (λ e. absurd (cc (e))) d.agrees

pub invariant_of-self-clause-spent : goal.invariant_of-self-clause-spent
invariant_of-self-clause-spent c =
    let more = spent_more _ _ _ c.note.ensures.notes in
    omega (arith, more, c.note.ensures.pool, c.args.self.now.spent)
