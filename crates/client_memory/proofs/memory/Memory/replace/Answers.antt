use Rattle.client_memory.specs.Buffers.{denoted_place, denoted_content, with_content}
use Rattle.client_memory.proofs.Views.{view_changed}
use Rattle.client_memory.proofs.memory.Memory.replace.Goals as goal

pub returns-clause-new : goal.returns-clause-new
returns-clause-new c =
    view_changed (denoted_place c.args.place) (with_content (denoted_content c.args.content)) c.self.inside.old_values.items c.self.inside.undoable.items c.self.inside.no_undo.items c.self.inside.buffers.items c.replace_in.new.frames.items c.self.inside.savepoints.items c.args.self.now c.self.view_is c.replace_in.ensures.new
