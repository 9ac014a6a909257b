use Rattle.std.proofs.Common.{Some, ◌∷◌, List, subst}
use Rattle.abl_base.specs.declared.value.Value.{Value}
use Rattle.flat_machine.specs.Flat as flat
use Rattle.record_rules.specs.Answers.{found_row_in}
use Rattle.client_machine.specs.Config.{search_of}
use Rattle.client_machine.specs.KeepsFrom.{KeepsFrom}
use Rattle.client_machine.specs.Machine.{stack_in}
use Rattle.client_finds.specs.Steps.{instrs_in}
use Rattle.client_finds.proofs.Kept.{on_ok}
use Rattle.client_finds.proofs.Searched.{failed_kept, next_fails, passed_kept}
use Rattle.client_finds.proofs.search.judge_only.Goals as goal

pub returns-then-found-clause-ok : goal.returns-then-found-clause-ok
returns-then-found-clause-ok c =
    let mid = c.show_found.new.machine in
    let new = c.take_only.new.machine in
    let k = search_of (instrs_in mid) c.args.search in
    let at = c.in-Ok.found.cursor in
    on_ok c.take_only.result (λ keeps.
    passed_kept c.args.machine.now mid new c.args.fuel c.args.search (found_row_in c.args.found) c.in-Ok.found c.show_found.ensures.moved c.show_found.ensures.stays c.if-found.true c.in-Ok.ensures.goes
    (subst (λ (vs : List Value). KeepsFrom (λ p s. flat.config (flat.Execute (flat.Takes k at vs)) (flat.OrDo (flat.Looks c.args.fuel k (Some at)) ∷ stack_in mid) s) mid new) c.in_ok-values.ensures keeps)) c.take_only.ensures.ok

pub returns-in-Ok-clause-ok : goal.returns-in-Ok-clause-ok
returns-in-Ok-clause-ok c =
    on_ok c.look.result (λ keeps.
    failed_kept c.args.machine.now c.show_found.new.machine c.look.new.machine c.args.fuel c.args.search (found_row_in c.args.found) c.in-Ok.found c.show_found.ensures.moved c.show_found.ensures.stays c.if-found.false c.in-Ok.ensures.goes keeps) c.look.ensures.ok

pub returns-in-Err-Fault-clause-ok : goal.returns-in-Err-Fault-clause-ok
returns-in-Err-Fault-clause-ok c =
    let goes = rw c.in-Err-Fault.field-0-is at c.in-Err-Fault.ensures.goes in
    let keeps = rw c.in-Err-Fault.field-0-is at c.fail.ensures in
    next_fails c.args.machine.now c.show_found.new.machine c.fail.new.machine c.args.fuel c.args.search (found_row_in c.args.found) c.in-Err-Fault.fault c.show_found.ensures.moved c.show_found.ensures.stays goes keeps
