use Rattle.std.proofs.Common.{sym, ◌∙◌}
use Rattle.slot_rows.specs.Opens.{log_in}
use Rattle.indexed_store.proofs.Known.{length_changes}
use Rattle.indexed_store.proofs.row_operations.RecordStoreRowStore.mark.Goals as goal

pub returns : goal.returns
returns g c = c.mark.ensures ∙ sym (length_changes (log_in c.args.self.now.rows.opens.items c.args.client))
