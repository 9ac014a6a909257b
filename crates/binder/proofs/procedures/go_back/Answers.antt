use Rattle.std.proofs.Common.{◌≡◌, ◌∙◌, ap, sym}
use Rattle.bind_names.specs.declared.names.Known.{Known}
use Rattle.bind_names.specs.Names.{Scene}
use Rattle.bind_names.specs.Views.{scene_of}
use Rattle.bind_expressions.specs.Parts.{scene_after}
use Rattle.binder.specs.Views.{moved_to}
use Rattle.binder.proofs.procedures.go_back.Goals as goal

pub returns-clause-scene : goal.returns-clause-scene
returns-clause-scene c =
    let known : c.go_to.new.scene.known ≡ c.know_after.new.known = ap (λ (v : Scene). v.known) c.go_to.ensures.scene in
    c.go_to.ensures.scene ∙ ap (λ (k : Known). moved_to c.args.outside (scene_after (scene_of c.args.scene.now) k)) (sym known)

pub returns-clause-after : goal.returns-clause-after
returns-clause-after c = λ own e.
    let known : c.go_to.new.scene.known ≡ c.know_after.new.known = ap (λ (v : Scene). v.known) c.go_to.ensures.scene in
    known ∙ c.in_ok-defined.ensures.after own e

pub returns-clause-defined : goal.returns-clause-defined
returns-clause-defined c = c.in_ok-defined.ensures.defined
