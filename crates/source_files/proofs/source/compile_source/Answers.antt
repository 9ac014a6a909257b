use Rattle.std.proofs.Common.{◌≡◌, Err}
use Rattle.std.proofs.lemmas.Result.{err_from_is_err_and}
use Rattle.source_files.specs.Compiled.{BreaksSource, source_wants}
use Rattle.source_files.proofs.Causes.{of_error}
use Rattle.source_files.proofs.source.compile_source.Goals as goal

pub returns-in_err-bound-clause-refused : goal.returns-in_err-bound-clause-refused
returns-in_err-bound-clause-refused c =
    let p = err_from_is_err_and c.from_residual.result c.from_residual.ensures.1 in
    let is : c.from_residual.result ≡ Err c.in_err-bound.field-0.0 = cc (p.1, p.2) in
    of_error (BreaksSource c.args.schema.now c.args.number c.args.source.now) is c.in_err-bound.ensures.refused

pub returns-in-Ok-clause-code : goal.returns-in-Ok-clause-code
returns-in-Ok-clause-code c =
    record {
      bound = c.in_ok-bound.bound;
      form = c.in_ok-bound.ensures.tree;
      compiled = c.in-Ok.ensures;
    }

pub returns-in-Err-clause-refused : goal.returns-in-Err-clause-refused
returns-in-Err-clause-refused c = source_wants
