-- Buffers in groups, those of each table together.
use Rattle.std.specs.Prelude.{◌≡◌, List, [], ◌∷◌, ◌++◌, IsPermutation}
use Rattle.std.specs.List.{All}
use Rattle.bind_names.specs.declared.by_table.TableGroup.{TableGroup}
use Rattle.bind_names.specs.declared.names.NamedBuffer.{NamedBuffer}

-- where there is no group with the number
abbrev pub no_group : TableGroup
no_group = record { table = 0; buffers = [] }

abbrev pub with_more : TableGroup → NamedBuffer → TableGroup
with_more g b = record { table = g.table; buffers = g.buffers ++ b ∷ [] }

-- the buffers of all groups
abbrev pub all_of : List TableGroup → List NamedBuffer
all_of [] = []
all_of (g ∷ gs) = g.buffers ++ all_of gs

-- its buffers are of its table
abbrev pub IsOfItsTable : TableGroup → Type 0
IsOfItsTable g = All (λ b. b.table ≡ g.table) g.buffers

-- the groups have all of these buffers but those that are left, each in a group of its table
pub record IsGrouping (all left : List NamedBuffer) (groups : List TableGroup) : Type 0 where
  pub shuffled : IsPermutation all (all_of groups ++ left)
  pub tables : All IsOfItsTable groups
