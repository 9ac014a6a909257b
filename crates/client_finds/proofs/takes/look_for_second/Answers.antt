use Rattle.std.proofs.Common.{◌≡◌, suc, arith, rules}
use Rattle.client_finds.proofs.Searched.{looked_second, second_stops}
use Rattle.client_finds.proofs.takes.look_for_second.Goals as goal

pub returns-in_default-clause-ok : goal.returns-in_default-clause-ok
returns-in_default-clause-ok c =
    second_stops c.args.machine.now c.stop.new.machine c.args.fuel c.args.search c.args.cursor c.args.values c.args.from (omega (arith, c.in_default.ensures)) c.stop.ensures

pub returns-clause-ok : goal.returns-clause-ok
returns-clause-ok c =
    let more : c.args.fuel ≡ suc c.in-Some.fuel = first_of (omega (arith, c.in-Some.ensures), search (rules, c.in-Some.is, c.in-Some.ensures, c.checked_sub.ensures)) in
    looked_second c.args.machine.now c.ask.new.machine c.args.fuel c.in-Some.fuel c.args.search c.args.cursor c.args.values c.args.from c.in_ok-prefix.prefix c.in-Some-next_op.op more c.in_ok-prefix.ensures c.in-Some-next_op.ensures.op c.ask.ensures
