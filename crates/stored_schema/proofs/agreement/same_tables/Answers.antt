use Rattle.std.proofs.Common.{sym}
use Rattle.stored_schema.proofs.Lengths.{tables-differ}
use Rattle.stored_schema.proofs.agreement.same_tables.Goals as goal

pub returns-then-a-b : goal.returns-then-a-b
returns-then-a-b c = sym (tables-differ c.args.a.now c.args.b.now c.if-a-b.true)
