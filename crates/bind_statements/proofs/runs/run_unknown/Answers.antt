use Rattle.std.proofs.Common.{map}
use Rattle.syntax_tree.specs.Typed.{argument_of as syntax_argument_of}
use Rattle.bind_names.specs.Views.{scene_of}
use Rattle.bind_statements.proofs.Arguments.{run_unknown_judged}
use Rattle.bind_statements.proofs.runs.run_unknown.Goals as goal

pub returns : goal.returns
returns c = run_unknown_judged (scene_of c.args.scene.now) c.args.name.now (map syntax_argument_of c.args.given.now) _ c.args.notes.now _ _ c.in_ok-walk.ensures c.broken.ensures.first c.broken.ensures.names
