use Rattle.client_memory.specs.Buffers.{denoted_place, denoted_spot_if, with_spot}
use Rattle.client_memory.proofs.Views.{view_changed}
use Rattle.client_memory.proofs.memory.Memory.set_spot.Goals as goal

pub returns : goal.returns
returns c =
    view_changed (denoted_place c.args.place) (with_spot (denoted_spot_if c.args.spot)) c.self.inside.old_values.items c.self.inside.undoable.items c.self.inside.no_undo.items c.self.inside.buffers.items c.set_spot_in.new.frames.items c.self.inside.savepoints.items c.args.self.now c.self.view_is c.set_spot_in.ensures
