use Rattle.std.proofs.Common.{◌≡◌, ◌+◌, rules}
use Rattle.client_records.proofs.Counted.{begun_kept}
use Rattle.client_records.proofs.creates.begun.Goals as goal

pub returns-clause-ok : goal.returns-clause-ok
returns-clause-ok c =
    let old = c.args.machine.now in
    let counted : c.in-Some.made ≡ old.made + 1 = search (rules, c.in-Some.is, c.checked_add.ensures) in
    begun_kept c.args.buffer old c.new_record.new.machine c.complete.new.machine c.in-Some.made c.new_record.ensures.moved c.complete.ensures counted c.new_record.ensures.copies c.new_record.ensures.reads c.in_ok-new_record.ensures.state
