use Rattle.record_rules.specs.Answers.{found_row_in}
use Rattle.client_finds.proofs.Kept.{on_ok}
use Rattle.client_finds.proofs.Searched.{second_fails, second_kept, second_refused}
use Rattle.client_finds.proofs.takes.judge_second.Goals as goal

pub returns-then-found-clause-ok : goal.returns-then-found-clause-ok
returns-then-found-clause-ok c =
    on_ok c.refuse_second.result (λ keeps.
    second_refused c.args.machine.now c.show_other.new.machine c.refuse_second.new.machine c.args.fuel c.args.search (found_row_in c.args.found) c.args.cursor c.args.values c.in-Ok.found c.show_other.ensures.moved c.show_other.ensures.stays c.if-found.true c.in-Ok.ensures.goes keeps) c.refuse_second.ensures.ok

pub returns-in-Ok-clause-ok : goal.returns-in-Ok-clause-ok
returns-in-Ok-clause-ok c =
    on_ok c.look_for_second.result (λ keeps.
    second_kept c.args.machine.now c.show_other.new.machine c.look_for_second.new.machine c.args.fuel c.args.search (found_row_in c.args.found) c.args.cursor c.args.values c.in-Ok.found c.show_other.ensures.moved c.show_other.ensures.stays c.if-found.false c.in-Ok.ensures.goes keeps) c.look_for_second.ensures.ok

pub returns-in-Err-Fault-clause-ok : goal.returns-in-Err-Fault-clause-ok
returns-in-Err-Fault-clause-ok c =
    let goes = rw c.in-Err-Fault.field-0-is at c.in-Err-Fault.ensures.goes in
    let keeps = rw c.in-Err-Fault.field-0-is at c.fail.ensures in
    second_fails c.args.machine.now c.show_other.new.machine c.fail.new.machine c.args.fuel c.args.search (found_row_in c.args.found) c.args.cursor c.args.values c.in-Err-Fault.fault c.show_other.ensures.moved c.show_other.ensures.stays goes keeps
