use Rattle.std.proofs.Common.{◌∙◌, ap, sym, List, ℕ}
use Rattle.bound_tree.specs.Bound.{body_of, procedure_of}
use Rattle.syntax_tree.specs.Typed.{statements_of}
use Rattle.bind_names.specs.Names.{Scene}
use Rattle.bind_names.specs.Views.{scene_of}
use Rattle.binder.specs.Groups.{own_namings}
use Rattle.binder.specs.Sources.{procedure_with}
use Rattle.binder.proofs.Inside.{internal_judged}
use Rattle.binder.proofs.Scenes.{gone_back}
use Rattle.binder.proofs.procedures.internal.Goals as goal

pub returns-clause-judged : goal.returns-clause-judged
returns-clause-judged c = λ is_own.
    let is_inner = c.in_ok-outside.ensures.scene is_own in
    let own_inside = is_own ∙ ap (λ (v : Scene). own_namings v.procedure v.context.namings) (sym is_inner) in
    internal_judged (scene_of c.args.scene.now) (scene_of c.go_inside.new.scene) c.args.number c.args.place c.args.name.now.spelling (statements_of c.args.statements.now) (body_of c.in_ok-bound.bound.items)
    c.body.new.scene.known c.go_back.new.scene.known c.in_ok-defined.defined (procedure_of c.in_ok-made.made) c.args.notes.now c.body.new.notes
    is_inner c.in_ok-bound.ensures.judged (λ d e. c.in_ok-defined.ensures.after d e) c.in_ok-defined.ensures.defined
    (c.in_ok-made.ensures (scene_of c.go_inside.new.scene) (c.in_ok-frame.ensures own_inside) ∙ ap (λ (n : List ℕ). procedure_with (scene_of c.go_inside.new.scene) c.args.place n c.in_ok-defined.defined (body_of c.in_ok-bound.bound.items)) c.in_ok-spelling.ensures)

pub returns-clause-scene : goal.returns-clause-scene
returns-clause-scene c =
    gone_back (scene_of c.args.scene.now) (scene_of c.go_inside.new.scene) (scene_of c.body.new.scene) (scene_of c.go_back.new.scene) c.body.new.scene.known c.go_back.new.scene.known c.in_ok-outside.outside
    c.in_ok-outside.ensures.context c.in_ok-bound.ensures.scene c.in_ok-defined.ensures.scene c.in_ok-outside.ensures.before
