use Rattle.client_memory.specs.Buffers.{denoted_place, with_locked}
use Rattle.client_memory.proofs.Views.{view_changed}
use Rattle.client_memory.proofs.memory.Memory.set_locked.Goals as goal

pub returns : goal.returns
returns c =
    view_changed (denoted_place c.args.place) (with_locked c.args.locked) c.self.inside.old_values.items c.self.inside.undoable.items c.self.inside.no_undo.items c.self.inside.buffers.items c.set_locked_in.new.frames.items c.self.inside.savepoints.items c.args.self.now c.self.view_is c.set_locked_in.ensures
