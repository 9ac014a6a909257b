use Rattle.std.proofs.Common.{◌≡◌, ◌≢◌, ℕ, None, Some, not, refl, sym, ◌∙◌, ap, arith}
use Rattle.log_meaning.proofs.Undone.{put-here, put-other}
use Rattle.slot_area.specs.Held.{frame_in}
use Rattle.slot_area.specs.Area.{below, bytes_or}
use Rattle.slot_area.proofs.FrameLists.{is_placed}
use Rattle.slot_area.proofs.AreaViews.{seen_same, kept_after, note_ends, absent_after, gone_here, seen_failed, kept_failed, has_note}
use Rattle.slot_area.proofs.Laws.{placed_within}
use Rattle.slot_area.proofs.slot_area.SlotArea.write_frame.Goals as goal

pub write_within-requires-clause-slot : goal.write_within-requires-clause-slot
write_within-requires-clause-slot g c =
    let f = c.args.self.now.frames in
    let noted = has_note c.at-frame.result.note (c.is_none.ensures ∙ ap not c.if-is_none.false) in
    let within = placed_within f.places.items c.at-frame.result.slot c.args.index (f.placed c.args.index c.at-frame.result noted.0 c.at-frame.ensures noted.1) in
    omega (arith, within, f.sized)

pub returns-in_err-end-clause-time : goal.returns-in_err-end-clause-time
returns-in_err-end-clause-time g c = λ extent batches within there has.
    let noted = has_note c.at-frame.result.note (c.is_none.ensures ∙ ap not c.if-is_none.false) in
    c.write_within.ensures.time extent batches within there (has c.at-frame.result noted.0 c.at-frame.ensures noted.1)

pub returns-in_err-end-clause-view : goal.returns-in_err-end-clause-view
returns-in_err-end-clause-view g c = λ known.
    let s = c.args.self.now in
    let x = c.at-frame.result in
    let noted = has_note x.note (c.is_none.ensures ∙ ap not c.if-is_none.false) in
    let there : frame_in s.frames x.slot ≡ Some x = is_placed s.frames.frames.items s.frames.places.items c.args.index x noted.0 s.frames.placed c.at-frame.ensures noted.1 in
    seen_failed (frame_in s.frames) (below s.end (g.D.Disk.seen c.args.disk.now 0)) (below s.end (g.D.Disk.seen c.write_within.new.disk 0)) x.slot x noted.0 there noted.1
    (c.in_err-end.ensures.err known (c.requires.kept known).there)

pub returns-in_err-end-clause-kept : goal.returns-in_err-end-clause-kept
returns-in_err-end-clause-kept g c = λ known.
    let s = c.args.self.now in
    let x = c.at-frame.result in
    let kept = c.requires.kept known in
    let noted = has_note x.note (c.is_none.ensures ∙ ap not c.if-is_none.false) in
    let there : frame_in s.frames x.slot ≡ Some x = is_placed s.frames.frames.items s.frames.places.items c.args.index x noted.0 s.frames.placed c.at-frame.ensures noted.1 in
    let longer = c.write_within.ensures.no_shorter known in
    record {
      unchanged = kept_failed (frame_in s.frames) (below s.end (g.D.Disk.seen c.args.disk.now 0)) (below s.end (g.D.Disk.seen c.write_within.new.disk 0)) x.slot x noted.0 there noted.1
          (c.in_err-end.ensures.err known kept.there) kept.unchanged;
      there = omega (arith, longer, kept.there);
    }

pub returns-clause-time : goal.returns-clause-time
returns-clause-time g c = λ extent batches within there has.
    let noted = has_note c.at-frame.result.note (c.is_none.ensures ∙ ap not c.if-is_none.false) in
    c.write_within.ensures.time extent batches within there (has c.at-frame.result noted.0 c.at-frame.ensures noted.1)

pub returns-clause-view : goal.returns-clause-view
returns-clause-view g c = λ known.
    let s = c.args.self.now in
    let x = c.at-frame.result in
    let kept = c.requires.kept known in
    let noted = has_note x.note (c.is_none.ensures ∙ ap not c.if-is_none.false) in
    let there : frame_in s.frames x.slot ≡ Some x = is_placed s.frames.frames.items s.frames.places.items c.args.index x noted.0 s.frames.placed c.at-frame.ensures noted.1 in
    let ok = c.in_ok-end.ensures.ok known kept.there in
    let b = below s.end (g.D.Disk.seen c.args.disk.now 0) in
    let same : (k : ℕ) → k ≢ x.slot → below c.in_ok-end.end (g.D.Disk.seen c.write_within.new.disk 0) k ≡ b k = λ k ne. ok k ∙ put-other b x.slot k x.bytes ne in
    seen_same (frame_in s.frames) (frame_in c.set_written.new.self) b (below c.in_ok-end.end (g.D.Disk.seen c.write_within.new.disk 0)) x.slot (record { slot = x.slot; bytes = x.bytes; note = None })
    (c.set_written.ensures.sets x noted.0 c.at-frame.ensures noted.1) same kept.unchanged (sym (ap (bytes_or (b x.slot)) there))

pub returns-clause-kept : goal.returns-clause-kept
returns-clause-kept g c = λ known.
    let s = c.args.self.now in
    let x = c.at-frame.result in
    let kept = c.requires.kept known in
    let noted = has_note x.note (c.is_none.ensures ∙ ap not c.if-is_none.false) in
    let ok = c.in_ok-end.ensures.ok known kept.there in
    let b = below s.end (g.D.Disk.seen c.args.disk.now 0) in
    let same : (k : ℕ) → k ≢ x.slot → below c.in_ok-end.end (g.D.Disk.seen c.write_within.new.disk 0) k ≡ b k = λ k ne. ok k ∙ put-other b x.slot k x.bytes ne in
    record {
      unchanged = kept_after (frame_in s.frames) (frame_in c.set_written.new.self) b (below c.in_ok-end.end (g.D.Disk.seen c.write_within.new.disk 0)) x.slot (record { slot = x.slot; bytes = x.bytes; note = None })
          (c.set_written.ensures.sets x noted.0 c.at-frame.ensures noted.1) same kept.unchanged (λ none. sym (ok x.slot ∙ put-here b x.slot x.slot x.bytes refl));
      there = c.in_ok-end.ensures.there known kept.there;
    }

pub returns-clause-whole : goal.returns-clause-whole
returns-clause-whole g c = λ known whole. c.in_ok-end.ensures.whole known (c.requires.kept known).there whole

pub returns-clause-unwritten : goal.returns-clause-unwritten
returns-clause-unwritten g c =
    let x = c.at-frame.result in
    let noted = has_note x.note (c.is_none.ensures ∙ ap not c.if-is_none.false) in
    note_ends (frame_in c.args.self.now.frames) (frame_in c.set_written.new.self) x.slot (record { slot = x.slot; bytes = x.bytes; note = None }) (c.set_written.ensures.sets x noted.0 c.at-frame.ensures noted.1) refl

pub returns-clause-absent : goal.returns-clause-absent
returns-clause-absent g c =
    let s = c.args.self.now in
    let x = c.at-frame.result in
    let noted = has_note x.note (c.is_none.ensures ∙ ap not c.if-is_none.false) in
    let there : frame_in s.frames x.slot ≡ Some x = is_placed s.frames.frames.items s.frames.places.items c.args.index x noted.0 s.frames.placed c.at-frame.ensures noted.1 in
    absent_after (frame_in s.frames) (frame_in c.set_written.new.self) x.slot (record { slot = x.slot; bytes = x.bytes; note = None }) (c.set_written.ensures.sets x noted.0 c.at-frame.ensures noted.1) x there

pub returns-clause-stored : goal.returns-clause-stored
returns-clause-stored g c = λ k note was gone.
    let x = c.at-frame.result in
    let noted = has_note x.note (c.is_none.ensures ∙ ap not c.if-is_none.false) in
    let here : k ≡ x.slot = gone_here (frame_in c.args.self.now.frames) (frame_in c.set_written.new.self) x.slot (record { slot = x.slot; bytes = x.bytes; note = None }) (c.set_written.ensures.sets x noted.0 c.at-frame.ensures noted.1) k note was gone in
    let low = c.in_ok-end.ensures.end.1 in
    omega (arith, here, low)
