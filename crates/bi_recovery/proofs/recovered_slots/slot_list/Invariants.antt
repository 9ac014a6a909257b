use Rattle.std.proofs.Common.{◌≡◌, ◌++◌, map}
use Rattle.bi_recovery.specs.NoteSlots.{undo_of}
use Rattle.bi_recovery.proofs.recovered_slots.slot_list.Given as goal

abbrev pub invariant-loop-slot : goal.invariant-loop-slot
invariant-loop-slot l = l.list.items ++ map undo_of l.slot-iterator ≡ map undo_of l.slots.entries
