use Rattle.std.proofs.Common.{List, length, sym, ◌∙◌, ap}
use Rattle.mem_disk.specs.declared.call.Call.{Call}
use Rattle.mem_disk.specs.Laws.{length-notes_of}
use Rattle.mem_disk.proofs.mem_disk.MemDisk.calls.Goals as goal

pub returns : goal.returns
returns c = ap (λ (l : List Call). length l) c.deref.ensures.value ∙ sym (length-notes_of c.args.self.now.pool.items c.args.self.now.calls.items)
