use Rattle.std.proofs.Common.{ap, length}
use Rattle.record_rules.proofs.RowLengths.{text_length}
use Rattle.record_rules.proofs.stored.field_length.Goals as goal

pub returns-in-Text-clause-bytes : goal.returns-in-Text-clause-bytes
returns-in-Text-clause-bytes c = text_length c.args.value.now _ _ c.in-Text.is (ap length c.as_slice.ensures)
