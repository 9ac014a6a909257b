use Rattle.std.proofs.Common.{◌≡◌, ◌++◌, ◌≤◌, length, drop}
use Rattle.stored_schema.specs.Text.{stored_lines}
use Rattle.stored_schema.proofs.text.stored_lines.Given as goal

abbrev pub invariant-loop-is_table : goal.invariant-loop-is_table
invariant-loop-is_table l =
    (l.text.items ++ stored_lines (drop l.is_table-index l.order) (drop l.table l.tables) (drop l.table l.fields) (drop l.sequence l.sequences)
    ≡ stored_lines l.order l.tables l.fields l.sequences)
    × (l.table ≤ length l.tables) × (l.table ≤ length l.fields) × (l.sequence ≤ length l.sequences)
