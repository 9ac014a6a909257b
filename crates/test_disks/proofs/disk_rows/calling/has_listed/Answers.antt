use Rattle.std.proofs.Common.{ℕ, List, sym, ap, arith, ◌∙◌}
use Rattle.storage.specs.Slots.{Transaction}
use Rattle.open_transactions.specs.Clients.{idle, transaction_of}
use Rattle.open_transactions.specs.Written.{has_written}
use Rattle.open_transactions.proofs.Parts.{part_here}
use Rattle.test_disks.proofs.disk_rows.calling.has_listed.Goals as goal

pub returns : goal.returns
returns c =
    c.is_listed.ensures ∙ ap (λ (l : List ℕ). has_written l c.args.slot) c.deref.ensures.value
    ∙ sym (ap (λ (t : Transaction). t.written c.args.slot) (part_here idle transaction_of c.args.transactions.now.clients.items c.args.client c.index.result.now (omega (arith, c.requires.client, c.args.transactions.now.sixteen)) c.index.ensures))
