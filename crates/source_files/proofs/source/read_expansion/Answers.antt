use Rattle.std.proofs.Common.{ap, Err, List, ℕ, subst}
use Rattle.bound_tree.specs.Bound.{source_of}
use Rattle.source_reader.specs.Sources.{IsTreeOf}
use Rattle.source_files.specs.Compiled.{source_wants}
use Rattle.source_files.proofs.Broken.{refused_in_expansion}
use Rattle.source_files.proofs.source.read_expansion.Goals as goal

pub returns-in-Ok-clause-tree : goal.returns-in-Ok-clause-tree
returns-in-Ok-clause-tree c =
    record {
      expands = c.requires.expands;
      denotes = subst (λ (text : List ℕ). IsTreeOf c.args.schema.now text (source_of c.in-Ok.bound)) c.requires.is c.in-Ok.ensures.tree;
    }

pub returns-in-Err-Broken-clause-refused : goal.returns-in-Err-Broken-clause-refused
returns-in-Err-Broken-clause-refused c =
    let broken = c.in-Err-Broken.ensures.broken _ _ (ap Err c.in-Err-Broken.field-0-is) in
    let first = rw (← c.in-Err-Broken.rule-is, ← c.in-Err-Broken.place-is) at broken in
    refused_in_expansion c.args.schema.now c.args.number c.args.source.now c.args.text.now c.in-Err-Broken.rule c.in-Err-Broken.place c.origin-at.result c.refusal_at.result c.requires.expands c.requires.is first c.origin-at.ensures c.refusal_at.ensures

pub returns-in-Err-NoMemory-clause-refused : goal.returns-in-Err-NoMemory-clause-refused
returns-in-Err-NoMemory-clause-refused c = source_wants
