use Rattle.std.proofs.Common.{◌≡◌, ◌<◌, length, sym, Some}
use Rattle.std.proofs.lemmas.List.{length-map}
use Rattle.abl_values.specs.Schema.{number_of_name, table_named, table_names}
use Rattle.bind_names.proofs.Numbers.{number_is_within}
use Rattle.bind_names.proofs.meaning.buffer_named.Goals as goal

pub table_name-requires : goal.table_name-requires
unfolding table_named
table_name-requires c =
    let named : number_of_name 0 (table_names c.args.scene.now.schema.now.tables) c.args.name.now ≡ Some c.in_ok-table.table = sym c.in_ok-table.ensures in
    let h : c.in_ok-table.table < length (table_names c.args.scene.now.schema.now.tables) = number_is_within _ _ _ named in
    simp length-map at h
