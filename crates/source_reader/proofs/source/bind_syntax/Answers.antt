use Rattle.std.proofs.Common.{ap, Err}
use Rattle.source_reader.proofs.Tokens.{types_at}
use Rattle.source_reader.proofs.source.bind_syntax.Goals as goal

pub returns-in-Err-Broken-clause-broken : goal.returns-in-Err-Broken-clause-broken
returns-in-Err-Broken-clause-broken c = λ rule place e.
    types_at _ _ _ c.in-Err-Broken.violation rule place c.requires (c.in-Err-Broken.ensures.broken c.in-Err-Broken.violation (ap Err c.in-Err-Broken.field-0-is)) (cc) (cc)
