use Rattle.std.proofs.Common.{ap, Err}
use Rattle.source_reader.proofs.Tokens.{scopes_at}
use Rattle.source_reader.proofs.source.scope_buffers.Goals as goal

pub returns-in-Err-Broken-clause-broken : goal.returns-in-Err-Broken-clause-broken
returns-in-Err-Broken-clause-broken c = λ rule place e.
    scopes_at _ _ _ _ c.in-Err-Broken.violation rule place c.requires.syntax_of c.requires.tree (c.in-Err-Broken.ensures.broken c.in-Err-Broken.violation (ap Err c.in-Err-Broken.field-0-is)) (cc) (cc)
