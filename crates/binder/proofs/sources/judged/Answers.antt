use Rattle.std.proofs.Common.{sym, subst}
use Rattle.bound_tree.specs.Bound.{source_of}
use Rattle.syntax_tree.specs.Typed.{program_of}
use Rattle.bind_names.specs.Names.{Scene}
use Rattle.bind_names.specs.Views.{scene_of}
use Rattle.binder.specs.Groups.{IsGrouped}
use Rattle.binder.proofs.Walk.{source_judged}
use Rattle.binder.proofs.sources.judged.Goals as goal

pub returns : goal.returns
returns c = λ is.
    let is_scene = c.beginning-scene.ensures (c.in_ok-position.ensures c.args.said.now (c.in_procedure.ensures c.args.said.now c.in_ok-groups.ensures)) in
    let grouped = subst (λ (p : Scene). IsGrouped p.context.namings c.in_ok-groups.groups) (sym is_scene) c.in_ok-groups.ensures in
    source_judged source_of c.args.schema.now (program_of c.args.program.now) c.args.said.now c.args.procedures.now is (scene_of c.beginning-scene.result) is_scene
    c.args.notes.now c.judged_from.new.notes c.judged_from.result (rw c.deref.ensures.value at (c.judged_from.ensures grouped))
