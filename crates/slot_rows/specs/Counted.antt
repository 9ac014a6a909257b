-- How many fragments the rows have.
use Rattle.std.specs.Prelude.{◌≡◌, ℕ, zero, suc, ◌+◌, ◌≤◌, true, false, List, sum_by, Option, Some, None}
use Rattle.abl_values.specs.Schema.{SchemaData}
use Rattle.database_meaning.specs.Setting.{fragments}
use Rattle.row_store.specs.Changes.{RowsById}
use Rattle.row_fragments.specs.Fragments.{StoredBytes}
use Rattle.slot_rows.specs.declared.log.Undone.{Undone}
use Rattle.slot_rows.specs.Decoded.{is_read, row_of}

-- the fragments of the rows with identities below a number
unfoldable pub fragments_below : ℕ → RowsById → ℕ
fragments_below zero rows = 0
fragments_below (suc n) rows = fragments (rows n) + fragments_below n rows

-- the fragments of the rows of a log, each before its change, and each after it
abbrev pub before_all : List Undone → ℕ
before_all log = sum_by (λ u. u.before) log

abbrev pub after_all : List Undone → ℕ
after_all log = sum_by (λ u. u.after) log

-- the number is that of the fragments of the rows, each of which has 125 at most
pub record AreCounted (rows : RowsById) (count : ℕ) : Type 0 where
  pub few : (k : ℕ) → fragments (rows k) ≤ 125
  pub sum : count ≡ fragments_below 1048576 rows

-- the number of fragments of the row that these bytes are, or none where they are no row of their table
abbrev pub IsWeight : SchemaData → Option StoredBytes → Option ℕ → Type 0
IsWeight schema stored None = is_read schema stored ≡ false
IsWeight schema stored (Some many) = (is_read schema stored ≡ true) × (many ≡ fragments (row_of schema stored))
