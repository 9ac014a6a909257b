use Rattle.std.proofs.Common.{ap, Err}
use Rattle.source_files.specs.Compiled.{breaks_f, schema_wants}
use Rattle.source_files.proofs.compiled.schema_of.Goals as goal

pub returns-in-Err-Broken-clause-refused : goal.returns-in-Err-Broken-clause-refused
returns-in-Err-Broken-clause-refused c =
    let broken = c.in-Err-Broken.ensures.broken _ _ (ap Err c.in-Err-Broken.field-0-is) in
    breaks_f (rw (c.in-Err-Broken.rule-is, c.in-Err-Broken.line-is) at broken)

pub returns-in-Err-NoMemory-clause-refused : goal.returns-in-Err-NoMemory-clause-refused
returns-in-Err-NoMemory-clause-refused c = schema_wants
