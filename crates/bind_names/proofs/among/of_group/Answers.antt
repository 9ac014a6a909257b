use Rattle.std.proofs.Common.{List, sym, subst}
use Rattle.std.specs.List.{filter}
use Rattle.bind_names.specs.Among.{is_known}
use Rattle.bind_names.specs.declared.names.NamedBuffer.{NamedBuffer}
use Rattle.bind_names.specs.Views.{IsHaving, scene_of}
use Rattle.bind_names.proofs.ByTables.{with_the_field}
use Rattle.bind_names.proofs.among.of_group.Goals as goal

pub returns-in-Some : goal.returns-in-Some
returns-in-Some c = λ t.
    with_the_field (scene_of c.args.scene.now) c.args.name.now c.args.group.now c.in-Some.field-0 c.known_among.result (sym c.in-Some.ensures)
    (subst (λ (l : List NamedBuffer). IsHaving (filter (is_known (scene_of c.args.scene.now)) l) c.known_among.result) c.as_slice.ensures c.known_among.ensures)
    t
