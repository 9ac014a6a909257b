use Rattle.block_meaning.specs.Lines.{complaint_of}
use Rattle.block_meaning.specs.State as state
use Rattle.flat_machine.specs.Flat as flat
use Rattle.client_memory.specs.Buffers.{denoted_held}
use Rattle.client_machine.specs.Machine.{stack_in}
use Rattle.client_finds.proofs.Locked.{read_kept}
use Rattle.client_finds.proofs.locks.was_read.Goals as goal

pub returns-in-Ok-true-clause-ok : goal.returns-in-Ok-true-clause-ok
returns-in-Ok-true-clause-ok c =
    let goes = rw c.in-Ok-true.field-0-test at c.in-Ok-true.ensures.goes in
    read_kept c.args.machine.now c.show_again.new.machine c.complete.new.machine c.args.place c.args.retry c.args.row c.lock_of.result (denoted_held c.args.held) c.args.values (λ ks s. flat.config (flat.Unwind state.Normal) ks s)
    c.show_again.ensures.moved c.show_again.ensures.stays c.lock_of.ensures (λ p rest reads. goes p rest reads (stack_in c.args.machine.now)) c.complete.ensures

pub returns-in-Ok-false-clause-ok : goal.returns-in-Ok-false-clause-ok
returns-in-Ok-false-clause-ok c =
    let goes = rw c.in-Ok-false.field-0-test at c.in-Ok-false.ensures.goes in
    read_kept c.args.machine.now c.show_again.new.machine c.lose.new.machine c.args.place c.args.retry c.args.row c.lock_of.result (denoted_held c.args.held) c.args.values (λ ks s. flat.config (flat.Unwind state.Lost) ks s)
    c.show_again.ensures.moved c.show_again.ensures.stays c.lock_of.ensures (λ p rest reads. goes p rest reads (stack_in c.args.machine.now)) c.lose.ensures

pub returns-in-Err-Fault-clause-ok : goal.returns-in-Err-Fault-clause-ok
returns-in-Err-Fault-clause-ok c =
    let goes = rw c.in-Err-Fault.field-0-is at c.in-Err-Fault.ensures.goes in
    read_kept c.args.machine.now c.show_again.new.machine c.fail.new.machine c.args.place c.args.retry c.args.row c.lock_of.result (denoted_held c.args.held) c.args.values (λ ks s. flat.fault (complaint_of c.in-Err-Fault.fault) ks s)
    c.show_again.ensures.moved c.show_again.ensures.stays c.lock_of.ensures (λ p rest reads. goes p rest reads (stack_in c.args.machine.now)) c.fail.ensures
