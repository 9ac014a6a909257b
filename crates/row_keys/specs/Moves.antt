-- The moves of a change of a row.
use Rattle.std.specs.Prelude.{◌≡◌, ◌≢◌, ◌⊎◌, ◌↔◌, ℕ, Bool, true, false, List, [], ◌∷◌, take, drop, Option, Some, IsTrue}
use Rattle.abl_values.specs.Schema.{SchemaData}
use Rattle.database_meaning.specs.declared.state.StoredRow.{StoredRow}
use Rattle.database_meaning.specs.declared.state.Key.{Key}
use Rattle.database_meaning.specs.Setting.{HasIndex, HasTable}
use Rattle.row_store.specs.Rows.{is_moved}
use Rattle.row_indexes.specs.declared.moves.Move.{Move}
use Rattle.row_indexes.specs.Places.{AreWithin}
use Rattle.row_keys.specs.Numbers.{HasOrder, index_count, number_of}
use Rattle.row_keys.specs.Entries.{entry_key}

-- the move enters this index under this key, or leaves it
pub record IsMove (m : Move) (entered : Bool) (j : ℕ) (key : List ℕ) : Type 0 where
  pub direction : m.entered ≡ entered
  pub index : m.index ≡ j
  pub key_is : m.key ≡ key

-- one of the moves does
abbrev pub HasMove : List Move → Bool → ℕ → List ℕ → Type 0
HasMove [] entered j key = ⊥
HasMove (m ∷ later) entered j key = IsMove m entered j key ⊎ HasMove later entered j key

-- one of the moves enters this index under this key or leaves it, as a unique key
abbrev pub HasUniqueMove : List Move → ℕ → List ℕ → Type 0
HasUniqueMove [] j key = ⊥
HasUniqueMove (m ∷ later) j key = (IsTrue m.unique × (m.index ≡ j) × (m.key ≡ key)) ⊎ HasUniqueMove later j key

-- no two of the moves are at one place
abbrev pub AreApart : List Move → Type 0
AreApart [] = Unit {0}
AreApart (m ∷ later) = ((entered : Bool) → ¬ HasMove later entered m.index m.key) × AreApart later

-- they all enter, or all leave
abbrev pub AreAll : Bool → List Move → Type 0
AreAll entered [] = Unit {0}
AreAll entered (m ∷ later) = (m.entered ≡ entered) × AreAll entered later

-- the row has this key in the index after the change, and had none or another before
abbrev pub Gains : SchemaData → Option StoredRow → Option StoredRow → ℕ → Option ℕ → List ℕ → Type 0
Gains schema old new table index key = (entry_key schema table index new ≡ Some key) × (entry_key schema table index old ≢ Some key)

-- The row enters exactly the keys that it has only after the change, and leaves exactly those that it had only before. A key that stays is not
-- moved. The unique keys among them are those that only one of the two rows has
pub record AreMovesOf (schema : SchemaData) (old new : Option StoredRow) (moves : List Move) : Type 0 where
  pub within : AreWithin (index_count schema) moves
  pub apart : AreApart moves
  pub enters : (table : ℕ) (index : Option ℕ) (key : List ℕ) → HasTable schema table → HasOrder schema table index → HasMove moves true (number_of schema table index) key ↔ Gains schema old new table index key
  pub leaves : (table : ℕ) (index : Option ℕ) (key : List ℕ) → HasTable schema table → HasOrder schema table index → HasMove moves false (number_of schema table index) key ↔ Gains schema new old table index key
  pub unique : (k : Key) → HasTable schema k.table → HasIndex schema k.table k.index → HasUniqueMove moves (number_of schema k.table (Some k.index)) k.bytes ↔ IsTrue (is_moved schema old new k)

-- the first moves enter, as many as this, and the others leave
pub record EnterFirst (enters : ℕ) (moves : List Move) : Type 0 where
  pub first : AreAll true (take enters moves)
  pub others : AreAll false (drop enters moves)
