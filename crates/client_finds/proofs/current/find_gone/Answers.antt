use Rattle.std.proofs.Common.{false}
use Rattle.block_meaning.specs.Lines.{NoRecordFound}
use Rattle.block_meaning.specs.Views.{IsGone}
use Rattle.flat_machine.specs.Flat as flat
use Rattle.client_machine.specs.Config.{reading_at}
use Rattle.client_machine.specs.Machine.{stack_in}
use Rattle.client_finds.proofs.Kept.{refused_kept}
use Rattle.client_finds.proofs.current.find_gone.Goals as goal

pub returns-clause-ok : goal.returns-clause-ok
returns-clause-ok c =
    let old = c.args.machine.now in
    let r = reading_at old.code.instrs.items c.args.place in
    refused_kept (λ p s. flat.current_grant_answered IsGone r c.args.row c.args.made (stack_in old) s) old c.settle.new.machine c.fail.new.machine NoRecordFound c.in-Some.buffer r.buffer c.settle.ensures.moved c.settle.ensures.stays c.in-Some.ensures
    (λ p rest reads. (c.in_ok-settle.ensures.goes p rest reads false c.args.row c.args.made (stack_in old)).1) c.fail.ensures
