use Rattle.std.proofs.Common.{◌≡◌, Err, ap}
use Rattle.std.proofs.lemmas.Result.{err_from_is_err_and}
use Rattle.syntax_tree.specs.Typed.{program_of}
use Rattle.bound_tree.specs.Bound.{source_of}
use Rattle.source_reader.specs.declared.source.SourceFault.TheVariants.{Broken}
use Rattle.source_reader.specs.Sources.{of_blocks}
use Rattle.source_reader.proofs.Tokens.{tree_is}
use Rattle.source_reader.proofs.source.read_source.Goals as goal

pub returns-in_err-judge_blocks-clause-broken : goal.returns-in_err-judge_blocks-clause-broken
returns-in_err-judge_blocks-clause-broken c = λ rule place e.
    let p = err_from_is_err_and c.from_residual-in_err-judge_blocks.result c.from_residual-in_err-judge_blocks.ensures.1 in
    let is : c.from_residual-in_err-judge_blocks.result ≡ Err c.in_err-judge_blocks.field-0.0 = cc (p.1, p.2) in
    let one : c.in_err-judge_blocks.field-0.0 ≡ Broken rule place = cc (is, e) in
    of_blocks (program_of c.in_ok-program.program) (source_of c.in_ok-plain.plain) c.in_ok-program.ensures.syntax_of c.in_ok-plain.ensures.tree c.in_ok-scoped.ensures.clean
    (c.in_err-judge_blocks.ensures.broken rule place (ap Err one))

pub returns-clause-tree : goal.returns-clause-tree
returns-clause-tree c =
    tree_is c.args.schema.now c.args.text.now (program_of c.in_ok-program.program) (source_of c.in_ok-plain.plain) (source_of c.in_ok-scoped.scoped) (source_of c.flagged.result) c.in_ok-program.ensures.syntax_of c.in_ok-plain.ensures.tree
    c.in_ok-scoped.ensures.clean c.in_ok-scoped.ensures.tree c.in_ok-judge_blocks.ensures.clean c.flagged.ensures
