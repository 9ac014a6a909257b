use Rattle.client_finds.proofs.Kept.{on_ok}
use Rattle.client_finds.proofs.CurrentRecord.{current_empty, current_pending, current_row}
use Rattle.client_finds.proofs.current.finds_current.Goals as goal

pub returns-in-Ok-Empty-clause-ok : goal.returns-in-Ok-Empty-clause-ok
returns-in-Ok-Empty-clause-ok c =
    let goes = rw c.in-Ok-Empty.field-0-is at c.in-Ok-Empty.ensures.goes in
    current_empty c.args.machine.now c.start_current.new.machine c.fail.new.machine c.args.place c.in-Some.buffer c.start_current.ensures.moved c.start_current.ensures.stays c.in-Some.ensures goes c.fail.ensures

pub returns-in-Ok-Pending-clause-ok : goal.returns-in-Ok-Pending-clause-ok
returns-in-Ok-Pending-clause-ok c =
    let goes = rw c.in-Ok-Pending.field-0-is at c.in-Ok-Pending.ensures.goes in
    current_pending c.args.machine.now c.start_current.new.machine c.complete.new.machine c.args.place c.start_current.ensures.moved c.start_current.ensures.stays goes c.complete.ensures

pub returns-in-Ok-Record-clause-ok : goal.returns-in-Ok-Record-clause-ok
returns-in-Ok-Record-clause-ok c =
    let goes = rw c.in-Ok-Record.field-0-is at c.in-Ok-Record.ensures.goes in
    on_ok c.request.result (λ keeps.
    current_row c.args.machine.now c.start_current.new.machine c.request.new.machine c.args.place c.in-Ok-Record.row c.in-Ok-Record.made c.start_current.ensures.moved c.start_current.ensures.stays goes keeps) c.request.ensures.ok
