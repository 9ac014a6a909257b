use Rattle.std.proofs.Common.{ap, ◌∙◌}
use Rattle.bound_tree.specs.Tree.{Reading}
use Rattle.block_meaning.specs.Frames.{table_of}
use Rattle.database_protocol.specs.declared.operation.Op.TheVariants as op
use Rattle.client_machine.specs.Config.{reading_at}
use Rattle.client_finds.specs.Stays.{state_under}
use Rattle.client_finds.specs.Steps.{instrs_in}
use Rattle.client_finds.proofs.ops.next_op.Goals as goal

pub returns-clause-op : goal.returns-clause-op
returns-clause-op c = λ p rest reads.
    ap (λ t. op.Next t c.in_ok-reading.reading.now.index c.args.prefix c.args.from c.args.forward) (c.table_in-table.ensures p rest reads ∙ ap (λ (r : Reading). table_of r.buffer (state_under rest c.args.machine.now)) c.in_ok-reading.ensures)
    ∙ ap (λ (r : Reading). op.Next (table_of (reading_at (instrs_in c.args.machine.now) c.args.place).buffer (state_under rest c.args.machine.now)) r.index c.args.prefix c.args.from c.args.forward) c.in_ok-reading.ensures
