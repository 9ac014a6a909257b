use Rattle.std.proofs.Common.{map}
use Rattle.syntax_tree.specs.Typed.{argument_of as syntax_argument_of}
use Rattle.bound_tree.specs.Bound.{argument_of}
use Rattle.bind_names.specs.Views.{scene_of}
use Rattle.bind_statements.proofs.Arguments.{run_judged}
use Rattle.bind_statements.proofs.runs.run_arguments.Goals as goal

pub returns : goal.returns
returns c =
    run_judged (scene_of c.args.scene.now) c.args.formals.now (map syntax_argument_of c.args.given.now) (map argument_of c.in_ok-bound.bound.items) c.args.notes.now _ _
    c.in_ok-bound.ensures c.too_many.ensures.first c.too_many.ensures.names
