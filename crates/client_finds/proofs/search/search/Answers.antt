use Rattle.client_finds.proofs.Kept.{on_ok}
use Rattle.client_finds.proofs.Searched.{searched, search_fails}
use Rattle.client_finds.proofs.search.search.Goals as goal

pub returns-in-Ok-clause-ok : goal.returns-in-Ok-clause-ok
returns-in-Ok-clause-ok c =
    on_ok c.look.result (λ keeps.
    searched c.args.machine.now c.bracket.new.machine c.look.new.machine
    (record { place = c.args.place; forward = c.args.forward; only = c.args.only; wait = c.args.wait; retry = c.args.retry; prefix = c.in-Ok.prefix }) c.args.from c.bracket.ensures.same c.in-Ok.ensures.goes keeps) c.look.ensures.ok

pub returns-in-Err-Fault-clause-ok : goal.returns-in-Err-Fault-clause-ok
returns-in-Err-Fault-clause-ok c =
    let goes = rw c.in-Err-Fault.field-0-is at c.in-Err-Fault.ensures.goes in
    search_fails c.args.machine.now c.bracket.new.machine c.fail.new.machine c.args.place c.args.forward c.args.only c.args.wait c.args.retry c.args.from c.in-Err-Fault.fault c.bracket.ensures.same goes c.fail.ensures
