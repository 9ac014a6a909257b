use Rattle.std.proofs.Common.{◌≡◌, ℕ, Some, is_some, refl, sym, ◌∙◌, ap}
use Rattle.std.specs.List.{list_any}
use Rattle.std.proofs.lemmas.Bool.{or_left}
use Rattle.std.proofs.lemmas.Option.{none-some, same_Some, slice_get_within}
use Rattle.slot_area.specs.declared.frame.Frame.{Frame}
use Rattle.slot_area.specs.Frames.{note_of, is_free}
use Rattle.slot_area.specs.Held.{frame_in}
use Rattle.slot_area.specs.Area.{below}
use Rattle.slot_area.proofs.AreaRuns.{ok_then}
use Rattle.slot_area.proofs.AreaViews.{seen_put, kept_after, note_here, note_others, gone_here}
use Rattle.slot_area.proofs.Laws.{free_from_ready}
use Rattle.slot_area.proofs.slot_area.SlotArea.put_slot.Goals as goal

pub change-requires : goal.change-requires
change-requires g c =
    let is = c.in-Some.ensures.some in
    record {
      index = slice_get_within c.args.self.now.frames.frames.items c.in-Some.index is.0 is.1;
      place = is.3;
      own = λ f at. ap (λ (x : Frame). x.slot) (same_Some f is.0 (sym at ∙ is.1)) ∙ is.2;
    }

pub keep-requires : goal.keep-requires
keep-requires g c =
    let s = c.args.self.now in
    record {
      slot = c.requires.slot;
      absent = c.in-None.ensures.none;
      free = free_from_ready (frame_in s.frames c.args.slot) (list_any (is_free c.args.settled) s.frames.frames.items) c.in-None.ensures.none c.requires.ready;
      bytes = λ known none. absurd (none-some c.args.note (sym none));
      kept = c.requires.kept;
    }

pub returns-in-Some-clause-view : goal.returns-in-Some-clause-view
returns-in-Some-clause-view g c = λ known k.
    let s = c.args.self.now in
    let b = below s.end (g.D.Disk.seen c.args.disk.now 0) in
    let x : Frame = record { slot = c.args.slot; bytes = c.args.bytes.now; note = Some c.args.note } in
    seen_put (frame_in s.frames) (frame_in c.change.new.self) b b c.args.slot x c.change.ensures (λ j ne. refl) (c.requires.kept known).unchanged k

pub returns-in-Some-clause-kept : goal.returns-in-Some-clause-kept
returns-in-Some-clause-kept g c = λ known.
    let s = c.args.self.now in
    let b = below s.end (g.D.Disk.seen c.args.disk.now 0) in
    let x : Frame = record { slot = c.args.slot; bytes = c.args.bytes.now; note = Some c.args.note } in
    record {
      unchanged = kept_after (frame_in s.frames) (frame_in c.change.new.self) b b c.args.slot x c.change.ensures (λ j ne. refl) (c.requires.kept known).unchanged (λ none. absurd (none-some c.args.note (sym none)));
      there = (c.requires.kept known).there;
    }

pub returns-in-Some-clause-note : goal.returns-in-Some-clause-note
returns-in-Some-clause-note g c =
    let x : Frame = record { slot = c.args.slot; bytes = c.args.bytes.now; note = Some c.args.note } in
    note_here (frame_in c.args.self.now.frames) (frame_in c.change.new.self) c.args.slot x c.change.ensures

pub returns-in-Some-clause-unwritten : goal.returns-in-Some-clause-unwritten
returns-in-Some-clause-unwritten g c =
    let x : Frame = record { slot = c.args.slot; bytes = c.args.bytes.now; note = Some c.args.note } in
    note_others (frame_in c.args.self.now.frames) (frame_in c.change.new.self) c.args.slot x c.change.ensures

pub returns-in-Some-clause-ready : goal.returns-in-Some-clause-ready
returns-in-Some-clause-ready g c = λ later. or_left _ _ (ap is_some c.change.ensures.here)

pub returns-in-None-clause-note : goal.returns-in-None-clause-note
returns-in-None-clause-note g c = ok_then c.keep.result _ _ c.keep.ensures.frame (λ is. ap note_of is)

pub returns-in-None-clause-ready : goal.returns-in-None-clause-ready
returns-in-None-clause-ready g c = ok_then c.keep.result _ _ c.keep.ensures.frame (λ is later. or_left _ _ (ap is_some is))

pub returns-in-Some-clause-stored : goal.returns-in-Some-clause-stored
returns-in-Some-clause-stored g c = λ k note was gone.
    let x : Frame = record { slot = c.args.slot; bytes = c.args.bytes.now; note = Some c.args.note } in
    let here : k ≡ c.args.slot = gone_here (frame_in c.args.self.now.frames) (frame_in c.change.new.self) c.args.slot x c.change.ensures k note was gone in
    absurd (none-some c.args.note (sym gone ∙ ap (λ (j : ℕ). note_of (frame_in c.change.new.self j)) here ∙ ap note_of c.change.ensures.here))
