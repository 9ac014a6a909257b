use Rattle.bind_names.specs.Names.{has_field}
use Rattle.bind_names.specs.Views.{scene_of}
use Rattle.bind_names.proofs.ByTables.{found_more}
use Rattle.bind_names.proofs.among.found_more.Goals as goal

pub returns : goal.returns
returns c = λ wanted left h.
    found_more (has_field (scene_of c.args.scene.now) c.args.name.now) wanted c.args.group.now left c.args.found c.joined.result (λ t xs k. c.joined.ensures xs _ k (c.of_group.ensures t)) h
