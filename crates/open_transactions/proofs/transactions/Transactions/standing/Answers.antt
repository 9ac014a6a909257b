use Rattle.std.proofs.Common.{length, sym, ◌∙◌, ap, arith}
use Rattle.std.proofs.lemmas.List.{length-take-le}
use Rattle.storage.specs.Slots.{Transaction}
use Rattle.open_transactions.specs.Clients.{idle, transaction_of}
use Rattle.open_transactions.proofs.Parts.{part_here}
use Rattle.open_transactions.proofs.transactions.Transactions.standing.Goals as goal

pub returns : goal.returns
returns c =
    let x = c.index.result.now in
    sym (ap (λ (t : Transaction). length t.undo) (part_here idle transaction_of c.args.self.now.clients.items c.args.client x (omega (arith, c.requires.client, c.args.self.now.sixteen)) c.index.ensures) ∙ length-take-le x.standing x.undo.items x.stands)
