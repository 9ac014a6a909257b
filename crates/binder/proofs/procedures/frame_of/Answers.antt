use Rattle.std.proofs.Common.{◌≡◌, ◌∙◌, ap, sym, refl, map}
use Rattle.binder.specs.Sources.{buffer_def}
use Rattle.binder.proofs.Grouped.{own_references}
use Rattle.binder.proofs.procedures.frame_of.Goals as goal

pub returns : goal.returns
returns c = λ is_own. record {
  block = refl;
  buffers = sym (c.in_ok-buffers.ensures ∙ ap (map buffer_def) c.as_slice.ensures);
  references = sym (c.in_ok-references.ensures ∙ own_references c.args.scene.now.procedure c.args.scene.now.buffers c.args.own.now c.args.scene.now.namings.now is_own);
}
