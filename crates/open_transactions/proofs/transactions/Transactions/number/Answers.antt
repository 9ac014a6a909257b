use Rattle.std.proofs.Common.{None, sym, arith}
use Rattle.open_transactions.specs.declared.client.Client.{Client}
use Rattle.open_transactions.proofs.Parts.{part_here}
use Rattle.open_transactions.proofs.transactions.Transactions.number.Goals as goal

pub returns : goal.returns
returns c = sym (part_here None (λ (x : Client). x.number) c.args.self.now.clients.items c.args.client c.index.result.now (omega (arith, c.requires.client, c.args.self.now.sixteen)) c.index.ensures)
