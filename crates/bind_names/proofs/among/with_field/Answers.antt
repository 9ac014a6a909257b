use Rattle.bind_names.specs.Names.{has_field}
use Rattle.bind_names.specs.Views.{scene_of}
use Rattle.bind_names.proofs.ByTables.{in_any_order}
use Rattle.bind_names.proofs.among.with_field.Goals as goal

pub returns : goal.returns
returns c = in_any_order (has_field (scene_of c.args.scene.now) c.args.name.now) c.args.scene.now.named c.groups.result.now c.among_groups.result c.groups.ensures c.among_groups.ensures
