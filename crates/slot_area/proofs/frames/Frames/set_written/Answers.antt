use Rattle.std.proofs.Common.{◌≡◌, None, Some, slice_set, refl, sym, ◌∙◌, ap, subst, arith}
use Rattle.std.proofs.lemmas.List.{length-set}
use Rattle.std.proofs.lemmas.Option.{same_Some}
use Rattle.slot_area.specs.declared.frame.Frame.{Frame}
use Rattle.slot_area.specs.Frames.{frame_of, Sets}
use Rattle.slot_area.proofs.FrameLists.{sets_own, placed_unchanged, get_set_same, same_but}
use Rattle.slot_area.proofs.frames.Frames.set_written.Goals as goal

pub invariant_of-self : goal.invariant_of-self
invariant_of-self c =
    let s = c.args.self.now in
    let old = c.at-frame.result in
    let x : Frame = record { slot = old.slot; bytes = old.bytes; note = None } in
    let long = length-set s.frames.items c.args.index x in
    record {
      sized = s.sized;
      some = omega (arith, long, s.some);
      few = omega (arith, long, s.few);
      within = omega (arith, long, s.within);
      placed = placed_unchanged s.frames.items s.places.items c.args.index x refl s.placed;
    }

pub returns-clause-sets : goal.returns-clause-sets
returns-clause-sets c = λ f note at changed.
    let s = c.args.self.now in
    let old = c.at-frame.result in
    let x : Frame = record { slot = old.slot; bytes = old.bytes; note = None } in
    let same : old ≡ f = same_Some old f (sym c.at-frame.ensures ∙ at) in
    let noted : old.note ≡ Some note = ap (λ (y : Frame). y.note) same ∙ changed in
    subst (λ (y : Frame). Sets y.slot (record { slot = y.slot; bytes = y.bytes; note = None }) (frame_of s.frames.items s.places.items) (frame_of (slice_set s.frames.items c.args.index x) s.places.items)) same
    (sets_own s.frames.items s.places.items old.slot c.args.index old x c.at-frame.ensures refl refl (s.placed c.args.index old note c.at-frame.ensures noted))

pub returns-clause-written : goal.returns-clause-written
returns-clause-written c = λ f at.
    let old = c.at-frame.result in
    let x : Frame = record { slot = old.slot; bytes = old.bytes; note = None } in
    let is : x ≡ f = same_Some x f (sym (get_set_same c.args.self.now.frames.items c.args.index x c.requires) ∙ at) in
    sym (ap (λ (y : Frame). y.note) is)

pub returns-clause-others : goal.returns-clause-others
returns-clause-others c =
    let old = c.at-frame.result in
    same_but c.args.self.now.frames.items c.args.index (record { slot = old.slot; bytes = old.bytes; note = None })

pub returns-clause-count : goal.returns-clause-count
returns-clause-count c =
    let old = c.at-frame.result in
    length-set c.args.self.now.frames.items c.args.index (record { slot = old.slot; bytes = old.bytes; note = None })
