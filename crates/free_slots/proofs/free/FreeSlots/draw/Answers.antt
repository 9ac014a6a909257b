use Rattle.std.proofs.Common.{◌≤◌, ◌<◌, ◌+◌}
use Rattle.std.specs.BinaryHeap.{heap_items, heap_len}
use Rattle.free_slots.proofs.Popped.{all_left, drawn_left, drawn_lowest, heap_left, once_left}
use Rattle.free_slots.proofs.free.FreeSlots.draw.Goals as goal

pub invariant_of-self : goal.invariant_of-self
invariant_of-self c =
    let f = c.args.self.now in
    record {
      ordered = heap_left c.pop.result (heap_items f.back) (heap_items c.pop.new.self) (heap_len c.pop.new.self) (heap_len f.back) f.ordered c.pop.ensures.heap_order c.pop.ensures.unchanged;
      low = f.low;
      high = f.high;
      inside = all_left (λ y. (1048575 < f.end + y) × (y ≤ 1040383)) c.pop.result (heap_items f.back) (heap_items c.pop.new.self) (heap_len c.pop.new.self) (heap_len f.back) f.inside c.pop.ensures.permutation c.pop.ensures.unchanged;
      once = once_left c.pop.result (heap_items f.back) (heap_items c.pop.new.self) (heap_len c.pop.new.self) (heap_len f.back) f.once c.pop.ensures.permutation c.pop.ensures.unchanged;
    }

pub returns-in-Some-clause-lowest : goal.returns-in-Some-clause-lowest
returns-in-Some-clause-lowest c =
    let f = c.args.self.now in
    drawn_lowest (heap_items f.back) (heap_items c.pop.new.self) f.end c.in-Some.distance c.in-Some.ensures.permutation f.inside f.once (c.in-Some.ensures.heap_order f.ordered).1

pub returns-in-Some-clause-left : goal.returns-in-Some-clause-left
returns-in-Some-clause-left c =
    let f = c.args.self.now in
    drawn_left (heap_items f.back) (heap_items c.pop.new.self) f.end c.in-Some.distance c.in-Some.ensures.permutation f.inside f.once
