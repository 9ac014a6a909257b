use Rattle.std.proofs.Common.{◌-◌, ◌∷◌, Result, Ok, Err, OnOk, IsOk}
use Rattle.std.specs.List.Sorted.{IsPermutation}
use Rattle.std.specs.BinaryHeap.{heap_items}
use Rattle.free_slots.proofs.Popped.{given_free, given_inside, given_once}
use Rattle.free_slots.proofs.free.FreeSlots.give.Goals as goal

on : {T E : Type 0} {P : Type 0} (r : Result T E) → IsOk r → OnOk r P → P
on (Ok v) is p = p
on (Err e) is p = absurd (cc is)

pub invariant_of-self : goal.invariant_of-self
invariant_of-self c =
    let f = c.args.self.now in
    let ok = c.push.ensures.succeeds c.requires.room in
    let perm : IsPermutation ((1048575 - c.args.slot) ∷ heap_items f.back) (heap_items c.push.new.self) = on c.push.result ok c.push.ensures.permutation in
    record {
      ordered = on c.push.result ok c.push.ensures.heap_order f.ordered;
      low = f.low;
      high = f.high;
      inside = given_inside (heap_items f.back) (heap_items c.push.new.self) f.end c.args.slot perm c.requires.low c.requires.high c.requires.taken f.inside;
      once = given_once (heap_items f.back) (heap_items c.push.new.self) f.end c.args.slot perm c.requires.low c.requires.high c.requires.taken f.once;
    }

pub returns-clause-free : goal.returns-clause-free
returns-clause-free c =
    let f = c.args.self.now in
    let ok = c.push.ensures.succeeds c.requires.room in
    let perm : IsPermutation ((1048575 - c.args.slot) ∷ heap_items f.back) (heap_items c.push.new.self) = on c.push.result ok c.push.ensures.permutation in
    given_free (heap_items f.back) (heap_items c.push.new.self) f.end c.args.slot perm c.requires.low c.requires.high c.requires.taken
