use Rattle.std.proofs.Common.{◌≡◌, ◌∙◌, [], ap, refl, List, ℕ}
use Rattle.bound_tree.specs.Tree.{start_of_source}
use Rattle.bound_tree.specs.Bound.{body_of}
use Rattle.bind_names.specs.declared.names.Defined.{Defined}
use Rattle.bind_names.specs.Views.{scene_of}
use Rattle.binder.specs.Items.{bound_parts}
use Rattle.binder.specs.Sources.{procedure_with}
use Rattle.binder.proofs.Walk.{source_is}
use Rattle.binder.proofs.sources.source.Goals as goal

pub returns : goal.returns
returns c = λ own.
    let is_defined : c.replace-defined.result ≡ c.args.scene.now.known.own = cc in
    let is_outputs : c.replace-outputs.result ≡ c.args.scene.now.known.outputs = cc in
    let is_inputs : c.replace-inputs.result ≡ c.args.scene.now.known.inputs = cc in
    let main = c.in_ok-main.ensures (scene_of c.args.scene.now) (c.in_ok-frame.ensures own)
    ∙ ap (λ (n : List ℕ). procedure_with (scene_of c.args.scene.now) start_of_source n c.replace-defined.result (body_of c.args.parts.body.items)) c.empty-3.ensures
    ∙ ap (λ (d : Defined). procedure_with (scene_of c.args.scene.now) start_of_source [] d (body_of c.args.parts.body.items)) is_defined in
    source_is (scene_of c.args.scene.now) (bound_parts c.args.parts c.args.scene.now.known) c.in_ok-main.main c.args.parts.procedures.items c.in_ok-procedures.procedures.items _ _ c.in_ok-procedures.ensures refl main
    (c.into_vec.ensures ∙ is_outputs) (c.into_vec-2.ensures ∙ is_inputs)
