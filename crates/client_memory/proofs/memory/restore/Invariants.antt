use Rattle.std.proofs.Common.{◌≡◌, vec_len, reverse}
use Rattle.client_memory.specs.Undo.{restored_to, old_values_before}
use Rattle.client_memory.specs.OldValues.{old_values_of}
use Rattle.client_memory.proofs.memory.restore.Given as goal

abbrev pub invariant-loop-old_values : goal.invariant-loop-old_values
invariant-loop-old_values l =
    record {
      values_same : restored_to l.at (reverse (old_values_of l.old_values.items)) l.frames.items ≡ restored_to l.at (reverse (old_values_of l.initial.old_values.items)) l.initial.frames.items;
      olds_same : old_values_before l.at (reverse (old_values_of l.old_values.items)) ≡ old_values_before l.at (reverse (old_values_of l.initial.old_values.items));
    }

abbrev pub decreases-loop-old_values : goal.decreases-loop-old_values
decreases-loop-old_values l = vec_len l.old_values
