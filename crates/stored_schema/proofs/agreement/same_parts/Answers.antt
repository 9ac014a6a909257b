use Rattle.std.proofs.Common.{sym}
use Rattle.stored_schema.proofs.Lengths.{parts-differ}
use Rattle.stored_schema.proofs.agreement.same_parts.Goals as goal

pub returns-then-p-q : goal.returns-then-p-q
returns-then-p-q c = sym (parts-differ c.args.a.now c.args.b.now c.args.p.now c.args.q.now c.if-p-q.true)
