-- A task may go to another thread.
use Rattle.std.proofs.Crossing.{crosses}
use denote.RattleType.{RattleType}
use denote.Param.Send.{IsSend, sendable}
use Rattle.atomic_table.proofs.shared.Seat.TheSendSync.{the_send as seat_send}
use Rattle.database_interface.specs.declared.database.Database.{Ghosts}
use Rattle.client_runner.specs.contracts.start.Start as start
use Rattle.client_runner.specs.contracts.served.Served as served
use Rattle.turn_lock.specs.contracts.passes.Pass as pass
use Rattle.turn_lock.specs.declared.journal.Journal as journal
use Rattle.client_runner.specs.contracts.task.Task.{the_row}
use Rattle.database_protocol.specs.contracts.ends.ClientEnd as end

pub start_send : (D : RattleType) → IsSend (start.the_row D)
start_send D = search (sendable, crosses) depth 12

pub served_send : (D : RattleType) (d : Ghosts D.Denot) → IsSend D → IsSend (served.the_row D d)
served_send D d s = search (sendable, start_send) depth 12

pub pass_send : (T E O : RattleType) (t : journal.Ghosts T.Denot E.Denot O.Denot) → IsSend T → IsSend (pass.the_row T E O t)
pass_send T E O t s = search (sendable, seat_send) depth 12

end_send : IsSend (end.the_row)
end_send = search (sendable, crosses) depth 20

pub task_send : (C D : RattleType) (d : Ghosts D.Denot) → IsSend C → IsSend D → IsSend (the_row C D d)
task_send C D d c s = let v = served_send D d s in search (sendable, end_send, pass_send) depth 12
