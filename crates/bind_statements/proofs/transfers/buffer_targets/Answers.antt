use Rattle.std.proofs.Common.{arith}
use Rattle.bind_statements.proofs.Within.{fields_within}
use Rattle.bind_statements.proofs.transfers.buffer_targets.Goals as goal

pub targets_of-requires : goal.targets_of-requires
targets_of-requires c = fields_within c.args.schema.now c.args.table c.fields.result.now c.soundness.ensures (omega arith) c.fields.ensures
