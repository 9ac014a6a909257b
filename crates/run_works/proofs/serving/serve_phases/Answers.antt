-- The database may go to the threads where its store may.
use denote.Param.Send.{sendable}
use Rattle.db_machine.proofs.Sends.{db_send}
use Rattle.run_works.proofs.timed.Timed.TheSendSync as timed
use Rattle.run_works.proofs.serving.serve_phases.Goals as goal

pub serve_in_phases-requires-send-B : goal.serve_in_phases-requires-send-B
serve_in_phases-requires-send-B g c κs within = let store = c.type_bounds.send-S in let start = c.type_bounds.send-K in search (timed.the_send, db_send, sendable) depth 20
