use Rattle.std.proofs.lemmas.Result.{IfOk-weaker}
use Rattle.slot_area.proofs.FrameLists.{get_zeros}
use Rattle.slot_area.proofs.frame_changes.no_places.Goals as goal

pub returns-clause-none : goal.returns-clause-none
returns-clause-none c = IfOk-weaker c.vec.result _ _ (λ places all slot. get_zeros _ places.items slot (λ y is. is) all) c.vec.ensures.items
