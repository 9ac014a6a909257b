use Rattle.record_rules.specs.Answers.{found_row_in}
use Rattle.client_finds.proofs.Kept.{on_ok}
use Rattle.client_finds.proofs.Searched.{failed_kept, next_fails, passed_kept}
use Rattle.client_finds.proofs.search.judge_any.Goals as goal

pub returns-then-found-clause-ok : goal.returns-then-found-clause-ok
returns-then-found-clause-ok c =
    on_ok c.take_any.result (λ keeps.
    passed_kept c.args.machine.now c.show_found.new.machine c.take_any.new.machine c.args.fuel c.args.search (found_row_in c.args.found) c.in-Ok.found c.show_found.ensures.moved c.show_found.ensures.stays c.if-found.true c.in-Ok.ensures.goes (keeps c.args.found.values)) c.take_any.ensures.ok

pub returns-in-Ok-clause-ok : goal.returns-in-Ok-clause-ok
returns-in-Ok-clause-ok c =
    on_ok c.look.result (λ keeps.
    failed_kept c.args.machine.now c.show_found.new.machine c.look.new.machine c.args.fuel c.args.search (found_row_in c.args.found) c.in-Ok.found c.show_found.ensures.moved c.show_found.ensures.stays c.if-found.false c.in-Ok.ensures.goes keeps) c.look.ensures.ok

pub returns-in-Err-Fault-clause-ok : goal.returns-in-Err-Fault-clause-ok
returns-in-Err-Fault-clause-ok c =
    let goes = rw c.in-Err-Fault.field-0-is at c.in-Err-Fault.ensures.goes in
    next_fails c.args.machine.now c.show_found.new.machine c.fail.new.machine c.args.fuel c.args.search (found_row_in c.args.found) c.in-Err-Fault.fault c.show_found.ensures.moved c.show_found.ensures.stays goes c.fail.ensures
