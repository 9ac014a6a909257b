use Rattle.std.proofs.Common.{◌≡◌, ◌∷◌, [], ⊎_elim, List, length, Some, sym, ◌∙◌, ap, arith, length-append}
use Rattle.std.specs.List.{slice_get}
use Rattle.slot_area.specs.declared.frame.Frame.{Frame}
use Rattle.slot_area.proofs.FrameLists.{get_push}
use Rattle.slot_area.proofs.frame_changes.blank_frames.Goals as goal

pub frames-preserved : goal.frames-preserved
frames-preserved c =
    let old = c.frames.frames.items in
    let x = c.blank.result in
    let is = c.in_ok-push.ensures.items in
    record {
      within = (let lt = c.frames-test.true in omega (arith, lt));
      count = (let long = ap (length {A = Frame}) is in let was = c.frames.invariant.count in omega (arith, long, was, length-append old (x ∷ [])));
      blank = λ k f at. ⊎_elim
          (λ (before : slice_get old k ≡ Some f). c.frames.invariant.blank k f before)
          (λ (same : f ≡ x). ap (λ (y : Frame). y.note) same ∙ c.blank.ensures)
          (get_push old x k f (ap (λ (l : List Frame). slice_get l k) (sym is) ∙ at));
    }
