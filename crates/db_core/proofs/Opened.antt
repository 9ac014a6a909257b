-- A new store and new control data represent the state at opening.
use Rattle.std.proofs.Common.{◌≡◌, ℕ, List, [], length, Option, None, refl, sym, ap, ◌∙◌, subst, arith}
use Rattle.std.specs.FinMap.{get, get-empty}
use Rattle.std.specs.Ordering.{nat_cmp}
use Rattle.database_meaning.specs.declared.contents.Contents.{Contents}
use Rattle.database_meaning.specs.declared.state.BlockedRequest.{BlockedRequest}
use Rattle.database_meaning.proofs.Maps.{empty_cases}
use Rattle.database_meaning.specs.Setting.{Setting}
use Rattle.database_meaning.specs.Traces.{opened, no_client as no_state_client}
use Rattle.record_locks.specs.declared.locks.Client.{Client as LockClient}
use Rattle.record_locks.specs.Table.{client_of, lock_of, no_client}
use Rattle.abl_values.specs.Schema.{SchemaData}
use Rattle.row_store.specs.Rows.{RowState, RowTransaction, no_transaction}
use Rattle.db_core.specs.declared.control.Control.{Control}
use Rattle.db_core.specs.Opening.{IsOpened, IsNew}
use Rattle.db_core.specs.Represents.{Represents, IsSound, IsOpen, IsClient, marks_at, blocked_at}

new_open : (schema : SchemaData) → IsOpen schema [] None no_transaction
new_open schema = record { begun = refl; marks = omega arith; fits = tt }

new_client : (rows : RowState) → IsClient rows [] None no_client no_transaction no_state_client
new_client rows = record {
  held = refl;
  waits = refl;
  blocked = λ observable. refl;
  depth = refl;
  reserved = λ observable k. refl;
  drawn = λ seen. refl;
  written = λ seen. refl;
  overlay = λ seen k. get-empty nat_cmp k;
  copies = λ seen. tt;
  locked = λ seen k h. cc;
  there = λ seen k lock e none. absurd (empty_cases k lock e);
}

pub new_sound : (rows : RowState) (control : Control) (contents : Contents) → IsOpened rows contents → IsNew control contents → IsSound rows control
new_sound rows control contents o n = record {
  client = λ c.
      subst (λ (t : RowTransaction). IsOpen rows.schema (marks_at control c) (blocked_at control c) t) (sym (o.idle c))
      (subst (λ (m : List ℕ). IsOpen rows.schema m (blocked_at control c) no_transaction) (sym (n.marks c))
      (subst (λ (w : Option BlockedRequest). IsOpen rows.schema [] w no_transaction) (sym (n.blocked c)) (new_open rows.schema)));
}

pub new_represents : (f : Setting) (rows : RowState) (control : Control) (contents : Contents) → f.schema ≡ rows.schema → f.clients ≡ length control.sessions.items
    → IsOpened rows contents → IsNew control contents → Represents f rows control (opened contents)
new_represents f rows control contents schema clients o n = record {
  schema = schema;
  clients = clients;
  client = λ c.
      subst (λ (t : RowTransaction). IsClient rows (marks_at control c) (blocked_at control c) (client_of control.locks c) t no_state_client) (sym (o.idle c))
      (subst (λ (m : List ℕ). IsClient rows m (blocked_at control c) (client_of control.locks c) no_transaction no_state_client) (sym (n.marks c))
      (subst (λ (w : Option BlockedRequest). IsClient rows [] w (client_of control.locks c) no_transaction no_state_client) (sym (n.blocked c))
      (subst (λ (l : LockClient). IsClient rows [] None l no_transaction no_state_client) (sym (n.locks c)) (new_client rows))));
  apart = λ seen row c d ne e.
      let none : lock_of control.locks c row ≡ None = ap (λ (l : LockClient). get l.held row) (n.locks c) ∙ get-empty nat_cmp row in
      cc;
  committed = λ observable k. sym (o.committed observable k);
  sequences = n.sequences;
  frees = λ observable. n.frees;
}
