-- Which schemas a `Schema` holds.
use Rattle.std.specs.Prelude.{◌≡◌, ◌<◌, ◌≤◌, ◌^◌, ℕ, false, List, map, length, All, IfSome}
use Rattle.abl_base.specs.declared.limits.TheConstants.{MAX_SEQUENCES}
use Rattle.abl_values.specs.declared.schema.IndexDef.{IndexDef}
use Rattle.abl_values.specs.declared.schema.TableDef.{TableDef}
use Rattle.abl_values.specs.declared.schema.SequenceDef.{SequenceDef}
use Rattle.abl_values.specs.Schema.{SchemaData, table_names}
use Rattle.abl_values.specs.Sound.{has_twice}

-- the names of indexes, and of sequences
abbrev pub index_names : List IndexDef → List (List ℕ)
index_names = map (λ i. i.name)

abbrev pub sequence_names : List SequenceDef → List (List ℕ)
sequence_names = map (λ q. q.name)

-- no two indexes have one name, in any case, and the number of the primary one has 16 bits
pub record IsHeldTable (t : TableDef) : Type 0 where
  pub indexes : has_twice (index_names t.indexes) ≡ false
  pub primary : IfSome t.primary (λ n. n < 2 ^ 16)

-- no two tables, no two sequences and no two indexes of a table have one name, in any case, as in each schema of a
-- file, and there are no more sequences than a file may have. A `Schema` finds its items by their names, so it can hold
-- no two of one name
pub record IsHeld (s : SchemaData) : Type 0 where
  pub tables : has_twice (table_names s.tables) ≡ false
  pub sequences : has_twice (sequence_names s.sequences) ≡ false
  pub few : length s.sequences ≤ MAX_SEQUENCES
  pub indexes : All IsHeldTable s.tables
