use Rattle.std.proofs.Common.{sym, ap, arith}
use Rattle.storage.specs.Slots.{Transaction}
use Rattle.open_transactions.specs.Clients.{idle, transaction_of}
use Rattle.open_transactions.proofs.Parts.{part_here}
use Rattle.test_disks.proofs.disk_rows.calling.low_count.Goals as goal

pub returns : goal.returns
returns c = sym (ap (λ (t : Transaction). t.low) (part_here idle transaction_of c.args.transactions.now.clients.items c.args.client c.index.result.now (omega (arith, c.requires.client, c.args.transactions.now.sixteen)) c.index.ensures))
