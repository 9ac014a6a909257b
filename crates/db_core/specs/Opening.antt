-- A store and control data as they are opened.
use Rattle.std.specs.Prelude.{◌≡◌, ℕ, [], None, IsTrue}
use Rattle.std.specs.FinMap.{get}
use Rattle.database_meaning.specs.declared.contents.Contents.{Contents}
use Rattle.database_meaning.specs.Traces.{rows_of}
use Rattle.record_locks.specs.Table.{client_of, no_client}
use Rattle.row_store.specs.Rows.{RowState, no_transaction}
use Rattle.db_core.specs.declared.control.Control.{Control}
use Rattle.db_core.specs.Represents.{marks_at, blocked_at}

-- no transaction is begun, no call met a fault, and what is committed are these contents
pub record IsOpened (rows : RowState) (contents : Contents) : Type 0 where
  pub idle : (c : ℕ) → rows.transaction c ≡ no_transaction
  pub committed : IsTrue rows.observable → (k : ℕ) → rows.committed k ≡ get (rows_of contents.rows) k

-- no client holds a lock, is blocked or has a level open
pub record IsNew (control : Control) (contents : Contents) : Type 0 where
  pub locks : (c : ℕ) → client_of control.locks c ≡ no_client
  pub marks : (c : ℕ) → marks_at control c ≡ []
  pub blocked : (c : ℕ) → blocked_at control c ≡ None
  pub sequences : control.sequences.items ≡ contents.sequences
  pub frees : control.frees ≡ 0
