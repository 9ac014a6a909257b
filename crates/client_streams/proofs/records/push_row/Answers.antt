use Rattle.client_machine.proofs.RunKept.{on_ok}
use Rattle.client_streams.proofs.Exported.{one_row}
use Rattle.client_streams.proofs.records.push_row.Goals as goal

pub returns-in_ok-push_text-in-Some : goal.returns-in_ok-push_text-in-Some
returns-in_ok-push_text-in-Some c =
    on_ok c.push_after_blanks.result (λ others.
    one_row c.args.text.now.items c.push_text.new.text.items c.push_after_blanks.new.text.items c.in-Some.first.now c.in-Some.others.now c.args.values.now c.in-Some.ensures.cases.0 c.in_ok-push_text-in-Some.ensures others) c.push_after_blanks.ensures
