-- Which buffers of the groups have a field.
use Rattle.std.specs.Prelude.{◌≡◌, Bool, List, ◌++◌}
use Rattle.std.specs.List.{All, filter}
use Rattle.std.specs.Option.{is_some}
use Rattle.bind_names.specs.declared.among.Having.{Having}
use Rattle.bind_names.specs.declared.by_table.TableGroup.{TableGroup}
use Rattle.bind_names.specs.declared.names.NamedBuffer.{NamedBuffer}
use Rattle.bind_names.specs.ByTable.{IsOfItsTable, all_of}
use Rattle.bind_names.specs.Names.{Scene, buffer_named}
use Rattle.bind_names.specs.Views.{IsHaving}

-- the buffer is known here
abbrev pub is_known : Scene → NamedBuffer → Bool
is_known w b = is_some (buffer_named w b.name)

-- of the buffers that are wanted, those found are all but those in the groups that are left
pub record IsFinding (test : NamedBuffer → Bool) (wanted : List NamedBuffer) (left : List TableGroup) (found : Having) : Type 0 where
  pub passed : List NamedBuffer
  pub rest : wanted ≡ passed ++ filter test (all_of left)
  pub having : IsHaving passed found
  pub tables : All IsOfItsTable left
