use Rattle.std.proofs.Common.{List, [], length, ap, arith}
use Rattle.storage.specs.declared.slots.Undo.{Undo}
use Rattle.open_transactions.specs.Clients.{list_of}
use Rattle.open_transactions.proofs.Parts.{part_here}
use Rattle.open_transactions.proofs.transactions.Transactions.len.Goals as goal

pub returns : goal.returns
returns c =
    let same = ap (λ (l : List Undo). length l) (part_here [] list_of c.args.self.now.clients.items c.args.client c.index.result.now (omega (arith, c.requires.client, c.args.self.now.sixteen)) c.index.ensures) in
    omega (arith, same, c.len.ensures)
