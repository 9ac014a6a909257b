use Rattle.std.proofs.Common.{◌≡◌, sym, ◌∙◌, ap, arith, ℕ, None}
use Rattle.std.proofs.lemmas.Option.{none-some, same_Some, slice_get_within}
use Rattle.slot_area.specs.declared.frame.Frame.{Frame}
use Rattle.slot_area.specs.Frames.{note_of}
use Rattle.slot_area.specs.Held.{frame_in}
use Rattle.slot_area.specs.Area.{unwritten}
use Rattle.slot_area.proofs.FrameLists.{is_placed}
use Rattle.slot_area.proofs.AreaViews.{gone_here, stored_twice}
use Rattle.slot_area.proofs.Laws.{free_settled}
use Rattle.slot_area.proofs.slot_area.SlotArea.keep.Goals as goal

pub replace-requires-clause-index : goal.replace-requires-clause-index
replace-requires-clause-index g c =
    let is = c.in-Some.ensures.some in
    let within = slice_get_within c.args.self.now.frames.frames.items c.in-Some.index is.0 is.1 in
    omega (arith, within, c.write_frame.ensures.count)

pub returns-in_err-write_frame-in-Some-clause-time : goal.returns-in_err-write_frame-in-Some-clause-time
returns-in_err-write_frame-in-Some-clause-time g c = λ extent batches within there noted.
    let f = c.args.self.now.frames in
    let is = c.in-Some.ensures.some in
    c.write_frame.ensures.time extent batches within there (λ x note at changed.
    let same : x ≡ is.0 = same_Some x is.0 (sym at ∙ is.1) in
    noted x.slot note (ap note_of (is_placed f.frames.items f.places.items c.in-Some.index x note f.placed at changed) ∙ changed)
    (free_settled c.args.settled note is.0 is.2 (ap (λ (y : Frame). y.note) (sym same) ∙ changed)))

pub returns-clause-time : goal.returns-clause-time
returns-clause-time g c = λ extent batches within there noted.
    let f = c.args.self.now.frames in
    let is = c.in-Some.ensures.some in
    c.write_frame.ensures.time extent batches within there (λ x note at changed.
    let same : x ≡ is.0 = same_Some x is.0 (sym at ∙ is.1) in
    noted x.slot note (ap note_of (is_placed f.frames.items f.places.items c.in-Some.index x note f.placed at changed) ∙ changed)
    (free_settled c.args.settled note is.0 is.2 (ap (λ (y : Frame). y.note) (sym same) ∙ changed)))

pub returns-clause-stored : goal.returns-clause-stored
returns-clause-stored g c = λ k note was gone.
    let mid = c.write_frame.new.self in
    let slot = c.args.frame.slot in
    let none : note_of (frame_in mid.frames slot) ≡ None = ap note_of (c.write_frame.ensures.absent slot c.requires.absent) in
    stored_twice (unwritten c.args.self.now) (unwritten mid) (λ j. note_of (frame_in c.replace.new.self j)) k note mid.end mid.end (omega arith) (c.write_frame.ensures.unwritten k) (c.write_frame.ensures.stored k note)
    (λ m noted ended.
    let here : k ≡ slot = gone_here (frame_in mid.frames) (frame_in c.replace.new.self) slot c.args.frame c.replace.ensures k m noted ended in
    absurd (none-some m (sym none ∙ ap (λ (j : ℕ). note_of (frame_in mid.frames j)) (sym here) ∙ noted)))
    was gone
