use Rattle.std.proofs.Common.{◌+◌, ◌<◌, ℕ, length, slice_index_or}
use denote.Param.Send.{sendable}
use Rattle.turn_lock.specs.Journal.{own_entries}
use Rattle.client_runner.specs.Meant.{client_in}
use Rattle.client_runner.specs.Tasks.{CameToItsEnd}
use Rattle.client_threads.proofs.SessionLemmas.Sends.{session_send}
use Rattle.client_threads.specs.session.Along.{IsCareful, IsOnLevels}
use Rattle.client_threads.specs.clients.Ran.{HasRunIn}
use Rattle.client_threads.proofs.ClientsLemmas.Ran.{if_ok, begins, along, suits, has_run}
use Rattle.client_threads.proofs.clients.run.run_block_clients.Goals as goal

pub run_clients-requires-send-C : goal.run_clients-requires-send-C
run_clients-requires-send-C g c κs within = search (session_send, sendable) depth 12

pub returns-clause-ran : goal.returns-clause-ran
returns-clause-ran g c =
    let D = g.D.Database in
    let old = c.args.tasks.now in
    let new = c.run_clients.new.tasks in
    if_ok c.run_clients.result
    (λ d. (k : ℕ) (t : _) → k < length old → CameToItsEnd begins along suits IsCareful IsOnLevels (D.has_setting c.args.database) (own_entries client_in (c.args.first + k) (D.trace d)) (slice_index_or old k t) (slice_index_or new k t))
    (λ d. (k : ℕ) (t : _) → k < length old → HasRunIn (D.has_setting c.args.database) (D.trace d) (c.args.first + k) (slice_index_or old k t) (slice_index_or new k t))
    (λ d h k t less. has_run (D.has_setting c.args.database) (D.trace d) (c.args.first + k) (slice_index_or old k t) (slice_index_or new k t) c.written_only_grows.ensures c.every_run_is_careful.ensures (h k t less))
    c.run_clients.ensures.came
