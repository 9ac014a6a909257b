use Rattle.std.proofs.Common.{refl, arith}
use Rattle.std.proofs.lemmas.List.{length-set}
use Rattle.slot_area.proofs.FrameLists.{sets_own, placed_own, frame_there}
use Rattle.slot_area.proofs.frames.Frames.change.Goals as goal

pub invariant_of-self : goal.invariant_of-self
invariant_of-self c =
    let s = c.args.self.now in
    let x = c.args.frame in
    let there = frame_there s.frames.items c.args.index c.requires.index in
    let long = length-set s.frames.items c.args.index x in
    record {
      sized = s.sized;
      some = omega (arith, long, s.some);
      few = omega (arith, long, s.few);
      within = omega (arith, long, s.within);
      placed = placed_own s.frames.items s.places.items x.slot c.args.index there.0 x there.1 (c.requires.own there.0 there.1) refl c.requires.place s.placed;
    }

pub returns : goal.returns
returns c =
    let s = c.args.self.now in
    let x = c.args.frame in
    let there = frame_there s.frames.items c.args.index c.requires.index in
    sets_own s.frames.items s.places.items x.slot c.args.index there.0 x there.1 (c.requires.own there.0 there.1) refl c.requires.place
