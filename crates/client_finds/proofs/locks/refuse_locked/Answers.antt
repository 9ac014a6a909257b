use Rattle.std.proofs.Common.{None}
use Rattle.block_meaning.specs.Lines.{IsLocked}
use Rattle.block_meaning.specs.Views.{IsBusy}
use Rattle.flat_machine.specs.Flat as flat
use Rattle.client_machine.specs.Config.{reading_at}
use Rattle.client_machine.specs.Machine.{stack_in}
use Rattle.client_finds.proofs.Kept.{refused_kept}
use Rattle.client_finds.proofs.locks.refuse_locked.Goals as goal

pub returns-clause-ok : goal.returns-clause-ok
returns-clause-ok c =
    let old = c.args.machine.now in
    let r = reading_at old.code.instrs.items c.args.place in
    refused_kept (λ p s. flat.grant_answered IsBusy r c.args.retry c.args.row (stack_in old) s) old c.settle.new.machine c.fail.new.machine IsLocked c.in-Some.buffer r.buffer c.settle.ensures.moved c.settle.ensures.stays c.in-Some.ensures
    (λ p rest reads. (c.in_ok-settle.ensures.goes p rest reads c.args.retry c.args.row None (stack_in old)).0) c.fail.ensures
