use Rattle.block_meaning.specs.Lines.{NoRecordFound}
use Rattle.block_meaning.specs.State as state
use Rattle.flat_machine.specs.Flat as flat
use Rattle.client_machine.specs.Config.{reading_at}
use Rattle.client_machine.specs.Machine.{stack_in}
use Rattle.client_finds.proofs.Kept.{memory_goes, refused_kept}
use Rattle.client_finds.proofs.current.was_current.Goals as goal

pub returns-in-Ok-true-clause-ok : goal.returns-in-Ok-true-clause-ok
returns-in-Ok-true-clause-ok c =
    let old = c.args.machine.now in
    let r = reading_at old.code.instrs.items c.args.place in
    let goes = rw c.in-Ok-true.field-0-test at c.in-Ok-true.ensures.goes in
    memory_goes (λ p s. flat.current_answered c.args.values r c.args.row c.args.made (stack_in old) s) (λ is p ks s. flat.config (flat.Unwind state.Normal) ks s) old c.show_current.new.machine c.complete.new.machine c.show_current.ensures.moved c.show_current.ensures.stays
    (λ p rest reads. goes p rest reads (stack_in old)) c.complete.ensures

pub returns-in-Ok-false-clause-ok : goal.returns-in-Ok-false-clause-ok
returns-in-Ok-false-clause-ok c =
    let old = c.args.machine.now in
    let r = reading_at old.code.instrs.items c.args.place in
    let goes = rw c.in-Ok-false.field-0-test at c.in-Ok-false.ensures.goes in
    refused_kept (λ p s. flat.current_answered c.args.values r c.args.row c.args.made (stack_in old) s) old c.show_current.new.machine c.fail.new.machine NoRecordFound c.in-Some.buffer r.buffer c.show_current.ensures.moved c.show_current.ensures.stays c.in-Some.ensures
    (λ p rest reads. goes p rest reads (stack_in old)) c.fail.ensures
