use Rattle.std.proofs.Common.{ap}
use Rattle.slot_rows.specs.Decoded.{row_of}
use Rattle.slot_rows.proofs.rows.StoredRows.end.Goals as goal

pub returns-clause-none : goal.returns-clause-none
returns-clause-none g c = λ readable k le. ap (row_of c.args.self.now.schema) (c.end.ensures.none readable k le)
