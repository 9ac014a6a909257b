use Rattle.std.proofs.Common.{arith}
use Rattle.std.specs.BinaryHeap.{heap_items}
use Rattle.free_slots.proofs.Counted.{most_free}
use Rattle.free_slots.proofs.free.FreeSlots.count.Goals as goal

pub returns-clause-most : goal.returns-clause-most
returns-clause-most c = λ slots apart each.
    let f = c.args.self.now in
    let most = most_free (heap_items f.back) f.end slots f.high apart each in
    let many = f.back.data.ok.0 in
    omega (arith, most, many)
