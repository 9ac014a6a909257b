use Rattle.std.proofs.Common.{ap, ◌∙◌}
use Rattle.bound_tree.specs.Tree.{Reading}
use Rattle.block_meaning.specs.Frames.{table_of}
use Rattle.database_protocol.specs.declared.operation.Op.TheVariants as op
use Rattle.client_finds.specs.Stays.{state_under}
use Rattle.client_finds.proofs.ops.get_op.Goals as goal

pub returns-clause-op : goal.returns-clause-op
returns-clause-op c = λ p rest reads.
    ap (λ t. op.Get t c.args.row) (c.table_in-table.ensures p rest reads ∙ ap (λ (r : Reading). table_of r.buffer (state_under rest c.args.machine.now)) c.in_ok-reading.ensures)
