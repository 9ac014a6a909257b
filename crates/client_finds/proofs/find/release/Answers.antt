use Rattle.client_finds.proofs.Found.{released_kept}
use Rattle.client_finds.proofs.find.release.Goals as goal

pub returns-clause-ok : goal.returns-clause-ok
returns-clause-ok c =
    released_kept c.args.machine.now c.push.new.machine c.push-2.new.machine c.enter_own.new.machine c.args.buffer c.args.task c.in_ok-push.ensures.moved c.in_ok-push.ensures.top c.in_ok-push-2.ensures.moved c.in_ok-push-2.ensures.top c.enter_own.ensures
