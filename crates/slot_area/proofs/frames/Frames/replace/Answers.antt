use Rattle.std.proofs.Common.{◌<◌, ◌+◌, length, arith}
use Rattle.std.proofs.lemmas.List.{length-set}
use Rattle.slot_area.proofs.FrameLists.{sets_replaced, placed_replaced, frame_there}
use Rattle.slot_area.proofs.frames.Frames.replace.Goals as goal

pub invariant_of-self : goal.invariant_of-self
invariant_of-self c =
    let s = c.args.self.now in
    let x = c.args.frame in
    let there = frame_there s.frames.items c.args.index c.requires.index in
    let inside : x.slot < length s.places.items = (let l = s.sized in let r = c.requires.slot in omega (arith, l, r)) in
    let long = length-set s.frames.items c.args.index x in
    let wide = length-set s.places.items x.slot (c.args.index + 1) in
    record {
      sized = omega (arith, wide, s.sized);
      some = omega (arith, long, s.some);
      few = omega (arith, long, s.few);
      within = omega (arith, long, c.requires.index);
      placed = placed_replaced s.frames.items s.places.items c.args.index there.0 x there.1 inside c.requires.absent s.placed;
    }

pub returns : goal.returns
returns c =
    let s = c.args.self.now in
    let x = c.args.frame in
    let there = frame_there s.frames.items c.args.index c.requires.index in
    let inside : x.slot < length s.places.items = (let l = s.sized in let r = c.requires.slot in omega (arith, l, r)) in
    sets_replaced s.frames.items s.places.items c.args.index there.0 x there.1 inside (c.requires.unchanged there.0 there.1)
