use Rattle.std.proofs.Common.{arith}
use Rattle.slot_area.proofs.FrameLists.{placed_blank, free_blank, no_place}
use Rattle.slot_area.proofs.frames.Frames.new.Goals as goal

pub invariant_of-result : goal.invariant_of-result
invariant_of-result c =
    let count = c.in_ok-frames.ensures.count in
    record {
      sized = c.in_ok-places.ensures.count;
      some = omega (arith, count, c.requires);
      few = omega (arith, count);
      within = omega (arith);
      placed = placed_blank c.in_ok-frames.frames.items c.in_ok-places.places.items c.in_ok-frames.ensures.blank;
    }

pub returns-clause-empty : goal.returns-clause-empty
returns-clause-empty c = λ slot. no_place c.in_ok-frames.frames.items c.in_ok-places.places.items slot (c.in_ok-places.ensures.none slot)

pub returns-clause-free : goal.returns-clause-free
returns-clause-free c = λ settled. free_blank settled c.in_ok-frames.frames.items (let count = c.in_ok-frames.ensures.count in omega (arith, count, c.requires)) c.in_ok-frames.ensures.blank
