use Rattle.std.proofs.Common.{◌≡◌, ◌<◌, ℕ, [], length}
use Rattle.std.specs.Prelude.{option_map, slice_index_or}
use Rattle.abl_values.specs.Schema.{no_table}
use Rattle.stored_fields.specs.Changes.{relived}
use Rattle.stored_schema.specs.Seen.{number_in}
use Rattle.stored_schema.proofs.seeing.seen_tables.Given as goal

abbrev pub invariant-loop-table : goal.invariant-loop-table
invariant-loop-table l = record {
  as_many : length l.seen ≡ l.table;
  each : (t : ℕ) → t < l.table → slice_index_or l.seen t [] ≡ relived (option_map (number_in (slice_index_or l.given t no_table).fields (slice_index_or l.own t no_table).fields)) (slice_index_or l.fields t []);
}
