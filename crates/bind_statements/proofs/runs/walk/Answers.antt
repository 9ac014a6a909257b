use Rattle.std.proofs.Common.{arith, map}
use Rattle.bound_tree.specs.Bound.{argument_of}
use Rattle.bind_names.specs.Views.{scene_of}
use Rattle.bind_statements.specs.Views.{run_arguments_of}
use Rattle.bind_statements.proofs.Arguments.{one_more_run_argument, walk_judged}
use Rattle.bind_statements.proofs.runs.walk.Goals as goal

pub loop-i-preserved : goal.loop-i-preserved
loop-i-preserved c =
    one_more_run_argument (scene_of c.args.scene.now) c.args.formals.now c.args.given.now c.loop-i.i c.index-given-i.result (map argument_of c.loop-i.bound.items) (run_arguments_of c.in_ok-argument.argument) _ c.loop-i.notes _ c.args.notes.now
    (omega arith) c.index-given-i.is (rw c.formal_at.ensures at c.in_ok-argument.ensures) c.in_ok-keep.ensures c.loop-i.invariant

pub returns : goal.returns
returns c = walk_judged (scene_of c.args.scene.now) c.args.formals.now c.args.given.now c.loop-i.i (map argument_of c.loop-i.bound.items) c.loop-i.notes c.args.notes.now (omega arith) c.loop-i.invariant
