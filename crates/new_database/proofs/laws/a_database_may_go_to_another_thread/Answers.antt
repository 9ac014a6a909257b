use denote.Param.Send.{sendable}
use Rattle.db_machine.proofs.Sends.{db_send}
use Rattle.new_database.proofs.Sends.{slots_send, store_send}
use Rattle.new_database.proofs.laws.a_database_may_go_to_another_thread.Goals as goal

pub may_go-requires-send-D : goal.may_go-requires-send-D
may_go-requires-send-D c κs = search (db_send, store_send, slots_send, sendable) depth 20
