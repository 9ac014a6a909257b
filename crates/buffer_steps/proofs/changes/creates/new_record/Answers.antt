use Rattle.std.proofs.Common.{◌≡◌, ℕ, List, ap, sym, ◌∙◌, slice_index_or}
use Rattle.abl_base.specs.declared.value.Value.{Value}
use Rattle.abl_values.specs.declared.schema.TableDef.{TableDef}
use Rattle.abl_values.specs.Schema.{no_table}
use Rattle.block_meaning.specs.Program.{table_at}
use Rattle.block_meaning.specs.State.{Pending}
use Rattle.block_meaning.specs.Changes.{initial_values}
use Rattle.block_meaning.specs.Frames.{holding, table_of}
use Rattle.buffer_steps.specs.changes.Buffers.{state_of}
use Rattle.buffer_steps.proofs.changes.creates.new_record.Goals as goal

pub returns-clause-state : goal.returns-clause-state
returns-clause-state c = λ p rest tables fits.
    let s = state_of rest c.args.buffers.now in
    let b = c.args.buffer in
    let values : c.in_ok-values.values ≡ initial_values (table_at p (table_of b s)).fields =
    c.in_ok-values.ensures ∙ ap initial_values c.fields_of.ensures
    ∙ ap (λ (t : ℕ). initial_values (slice_index_or c.args.schema.now.tables t no_table).fields) (c.table-table.ensures p rest fits)
    ∙ ap (λ (ts : List TableDef). initial_values (slice_index_or ts (table_of b s) no_table).fields) (sym tables) in
    c.replace.ensures.state p rest fits
    ∙ ap (λ (vs : List Value). holding b (Pending vs c.empty.result c.args.made) s) values
    ∙ ap (λ (xs : List ℕ). holding b (Pending (initial_values (table_at p (table_of b s)).fields) xs c.args.made) s) c.empty.ensures
