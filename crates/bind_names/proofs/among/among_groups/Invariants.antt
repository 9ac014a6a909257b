use Rattle.std.proofs.Common.{drop}
use Rattle.std.specs.List.{filter}
use Rattle.bind_names.specs.Among.{IsFinding}
use Rattle.bind_names.specs.ByTable.{all_of}
use Rattle.bind_names.specs.Names.{has_field}
use Rattle.bind_names.specs.Views.{scene_of}
use Rattle.bind_names.proofs.among.among_groups.Given as goal

abbrev pub invariant-loop-group : goal.invariant-loop-group
invariant-loop-group l = IsFinding (has_field (scene_of l.scene) l.name) (filter (has_field (scene_of l.scene) l.name) (all_of l.groups)) (drop l.group-index l.groups) l.found
