use Rattle.std.proofs.Common.{ap}
use Rattle.bind_names.specs.Names.{Scene}
use Rattle.bind_names.specs.Views.{scene_of}
use Rattle.binder.proofs.Scenes.{gone_inside}
use Rattle.binder.proofs.procedures.go_inside.Goals as goal

pub returns-clause-scene : goal.returns-clause-scene
returns-clause-scene c = λ is_own.
    gone_inside c.args.number (scene_of c.args.scene.now) (scene_of c.go_to.new.scene) c.know_inside.new.known c.in_ok-inside.inside (c.in_ok-inside.ensures c.args.scene.now.namings.now is_own)
    c.in_ok-know_inside.ensures c.go_to.ensures.scene

pub returns-clause-context : goal.returns-clause-context
returns-clause-context c = ap (λ (v : Scene). v.context) c.go_to.ensures.scene

pub returns-clause-before : goal.returns-clause-before
returns-clause-before c = c.go_to.ensures.before
