-- A new database may go to another thread.
use denote.Param.Send.{sendable}
use Rattle.db_machine.proofs.Sends.{db_send}
use Rattle.new_database.proofs.Sends.{slots_send, store_send}
use Rattle.test_clients.proofs.runs.run_once.Goals as goal

pub run_over-requires-send-D : goal.run_over-requires-send-D
run_over-requires-send-D g c κs = search (db_send, store_send, slots_send, sendable) depth 20
