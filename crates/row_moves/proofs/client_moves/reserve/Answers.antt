use Rattle.std.proofs.Common.{◌+◌, ◌<◌, length, vec_capacity, arith}
use Rattle.row_moves.proofs.Clients.{room_set, set_kept}
use Rattle.row_moves.proofs.client_moves.reserve.Goals as goal

pub returns-in_err-reserve-clause-same : goal.returns-in_err-reserve-clause-same
returns-in_err-reserve-clause-same c =
    set_kept c.args.clients.now.items c.args.client c.index_mut-own.result.now (record { changes = c.reserve.new.self }) c.requires.client c.index_mut-own.ensures.value c.reserve.ensures.items

pub returns-clause-room : goal.returns-clause-room
returns-clause-room c =
    let long = c.reserve.new.self.ok.0 in
    let more = c.in_ok-reserve.ensures.ok in
    room_set c.args.clients.now.items c.args.client (record { changes = c.reserve.new.self }) c.requires.client (omega (arith, long, more))

pub returns-clause-same : goal.returns-clause-same
returns-clause-same c =
    set_kept c.args.clients.now.items c.args.client c.index_mut-own.result.now (record { changes = c.reserve.new.self }) c.requires.client c.index_mut-own.ensures.value c.reserve.ensures.items
