use Rattle.client_machine.proofs.RunKept.{on_ok, pushed}
use Rattle.client_ends.proofs.Closing.{closing_failed_kept}
use Rattle.client_ends.proofs.closes.closing_failed.Goals as goal

pub returns-clause-ok : goal.returns-clause-ok
returns-clause-ok c =
    let old = c.args.machine.now in
    on_ok c.complain.result (closing_failed_kept c.args.place c.args.iteration c.args.completion c.args.fault old c.complain.new.self c.push.new.self (pushed old.stack.items c.push.new.self.items _ c.in_ok-push.ensures.items)) c.complain.ensures.ok
