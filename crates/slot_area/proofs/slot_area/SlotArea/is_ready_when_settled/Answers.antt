use Rattle.std.proofs.lemmas.Bool.{or_right}
use Rattle.slot_area.proofs.FrameLists.{first_free}
use Rattle.slot_area.proofs.Laws.{all_free}
use Rattle.slot_area.proofs.slot_area.SlotArea.is_ready_when_settled.Goals as goal

pub returns : goal.returns
returns c = λ each.
    let f = c.args.self.now.frames in
    or_right _ _ (first_free c.args.settled f.frames.items f.some (all_free f.frames.items f.places.items c.args.settled f.placed each))
