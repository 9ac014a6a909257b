-- A database may go to another thread where its store may.
use Rattle.std.proofs.Crossing.{crosses}
use denote.RattleType.{RattleType}
use denote.Param.Send.{IsSend, sendable}
use Rattle.database_protocol.proofs.event.Event.TheSendSync as event
use Rattle.abl_values.proofs.schema.Schema.TheSendSync as schema
use Rattle.abl_values.specs.contracts.schema.Schema as schema_type
use Rattle.db_core.specs.contracts.control.Control as control_type
use Rattle.db_core.proofs.control.Session.TheSendSync as session
use Rattle.db_core.specs.contracts.control.Session as session_type
use Rattle.record_locks.proofs.locks.Locks.TheSendSync as locks
use Rattle.record_locks.specs.contracts.locks.Locks as locks_type
use Rattle.row_store.specs.declared.store.RowStore.{Ghosts}
use Rattle.db_machine.proofs.running.Running.TheSendSync as running
use Rattle.db_machine.specs.contracts.running.Running as running_type
use Rattle.db_machine.specs.contracts.db.Db.{the_row}

locks_field_send : IsSend (locks_type.the_field).row
locks_field_send = search (locks.the_send, crosses, sendable) depth 60 fits 20000

session_send : IsSend session_type.the_row
session_send = search (session.the_send, crosses, sendable) depth 60 fits 20000

control_field_send : IsSend (control_type.the_field).row
control_field_send = search (locks_field_send, session_send, crosses, sendable) depth 60 fits 20000

schema_field_send : IsSend (schema_type.the_field).row
schema_field_send = search (schema.the_send, crosses, sendable) depth 60 fits 20000

running_field_send : IsSend (running_type.the_field).row
running_field_send = search (running.the_send, crosses, sendable) depth 60 fits 20000

pub db_send : (R : RattleType) (r : Ghosts R.Denot) → IsSend R → IsSend (the_row R r)
db_send R r s = search (event.the_send, schema_field_send, control_field_send, running_field_send, crosses, sendable) depth 60 fits 20000
