use Rattle.std.proofs.Common.{sym, ◌∙◌}
use Rattle.client_finds.proofs.Taken.{found_kept}
use Rattle.client_finds.proofs.takes.take_any.Goals as goal

pub returns-in-Some-NoLock-clause-ok : goal.returns-in-Some-NoLock-clause-ok
returns-in-Some-NoLock-clause-ok c = λ values.
    found_kept c.args.machine.now c.find.new.machine c.args.fuel c.args.search c.args.cursor values c.requires (sym (rw c.in-Some-NoLock.field-0-is at c.in-Some-NoLock.ensures)) c.find.ensures
