-- The contents of a database that rows and sequence values are.
use Rattle.std.specs.Prelude.{ℕ, zero, suc, List, [], ◌∷◌, ◌++◌, Option, Some, None}
use Rattle.abl_base.specs.declared.limits.TheConstants.{ROW_LIMIT}
use Rattle.database_meaning.specs.declared.contents.Contents.{Contents}
use Rattle.database_meaning.specs.declared.contents.ContentRow.{ContentRow}
use Rattle.database_meaning.specs.declared.state.StoredRow.{StoredRow}
use Rattle.database_meaning.specs.Traces.{content_row}
use Rattle.row_store.specs.Changes.{RowsById}
use Rattle.row_store.specs.Rows.{Durable}

abbrev pub if_there : ℕ → Option StoredRow → List ContentRow
if_there k None = []
if_there k (Some row) = content_row (k, row) ∷ []

-- the rows with identities below this number, in ascending order of their identities
unfoldable pub listed : ℕ → RowsById → List ContentRow
listed zero rows = []
listed (suc k) rows = listed k rows ++ if_there k (rows k)

-- the rows and the sequence values, as contents
abbrev pub contents_of : Durable → Contents
contents_of durable = record { rows = listed ROW_LIMIT durable.rows; sequences = durable.sequences }
