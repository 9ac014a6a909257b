use Rattle.std.proofs.Common.{drop}
use Rattle.bind_names.specs.ByTable.{IsGrouping}
use Rattle.bind_names.proofs.by_table.grouped.Given as goal

abbrev pub invariant-loop-buffer : goal.invariant-loop-buffer
invariant-loop-buffer l = IsGrouping l.buffers (drop l.buffer-index l.buffers) l.groups.items
