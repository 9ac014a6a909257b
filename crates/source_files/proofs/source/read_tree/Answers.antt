use Rattle.source_files.proofs.Broken.{refused_in_expanding}
use Rattle.source_files.proofs.source.read_tree.Goals as goal

pub returns-in-Err-clause-refused : goal.returns-in-Err-clause-refused
returns-in-Err-clause-refused c =
    refused_in_expanding c.args.schema.now c.args.number c.args.source.now c.in-Err.violation.rule c.in-Err.violation.at c.refusal_at.result c.in-Err.ensures.broken c.refusal_at.ensures
