use Rattle.std.proofs.Common.{map}
use Rattle.bound_tree.specs.Bound.{argument_of}
use Rattle.bind_names.specs.Views.{scene_of}
use Rattle.bind_statements.proofs.Arguments.{run_known_stmt}
use Rattle.bind_statements.proofs.runs.run_known.Goals as goal

pub returns : goal.returns
returns c =
    run_known_stmt (scene_of c.args.scene.now) c.args.name.now c.args.given.now c.args.quiet c.args.number c.in_ok-procedure.procedure c.formals_of-formals.result.now (map argument_of c.in_ok-arguments.arguments.items) _ c.args.notes.now _ _
    c.formals_of-formals.ensures c.in_ok-arguments.ensures c.unless.ensures.first c.unless.ensures.names c.in_ok-procedure.ensures c.runs.ensures
