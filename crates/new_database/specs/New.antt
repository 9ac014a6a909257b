-- A database that was just opened for a run.
use Rattle.std.specs.Prelude.{◌≡◌, ◌<◌, ℕ, []}
use Rattle.abl_values.specs.Schema.{SchemaData}
use Rattle.row_store.specs.Rows.{Durable, RowState}
use Rattle.row_store.specs.Times.{Times}
use Rattle.db_machine.specs.Machine.{Machine}
use Rattle.db_machine.specs.Database.{IsActive, IsOpened}
use Rattle.new_database.specs.Contents.{new_contents}

-- it is a database of this schema for so many clients, whose rows are in this state: it was opened with the new contents, each client is
-- active, and nothing has happened
pub record IsNew {R : Type 0} (rows : RowState) (left : ℕ → Durable → Type 0) (times : Times) (db : Machine R) (schema : SchemaData) (clients : ℕ) : Type 0 where
  pub opened : IsOpened rows left times db (record { schema = schema; clients = clients }) (new_contents schema)
  pub active : (client : ℕ) → client < clients → IsActive db client
  pub trace : db.trace ≡ []
