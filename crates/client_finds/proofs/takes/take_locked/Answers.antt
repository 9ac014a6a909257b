use Rattle.client_finds.proofs.Kept.{on_ok}
use Rattle.client_finds.proofs.Taken.{locked_kept}
use Rattle.client_finds.proofs.takes.take_locked.Goals as goal

pub returns-clause-ok : goal.returns-clause-ok
returns-clause-ok c =
    on_ok c.take_as.result (λ keeps values.
    locked_kept c.args.machine.now c.push_look.new.machine c.push_found.new.machine c.take_as.new.machine c.args.fuel c.args.search c.args.cursor c.in_ok-from.from values c.requires c.in_ok-from.ensures
    c.in_ok-push_look.ensures.moved c.in_ok-push_look.ensures.top c.in_ok-push_found.ensures.moved c.in_ok-push_found.ensures.top keeps) c.take_as.ensures.ok
