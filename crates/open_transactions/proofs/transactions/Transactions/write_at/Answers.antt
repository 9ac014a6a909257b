use Rattle.std.proofs.Common.{List, [], get_or, length, sym, ◌∙◌, ap, arith}
use Rattle.storage.specs.declared.slots.Undo.{Undo}
use Rattle.open_transactions.specs.Clients.{list_of, list_in}
use Rattle.open_transactions.proofs.Parts.{part_here}
use Rattle.open_transactions.proofs.Changed.{small_in, wrote_at}
use Rattle.open_transactions.proofs.transactions.Transactions.write_at.Goals as goal

pub index-requires-2 : goal.index-requires-2
index-requires-2 c =
    let same = ap (λ (l : List Undo). length l) (part_here [] list_of c.args.self.now.clients.items c.args.client c.index.result.now (omega (arith, c.requires.client, c.args.self.now.sixteen)) c.index.ensures) in
    let within = c.requires.place in
    omega (arith, same, within)

pub returns-clause-value : goal.returns-clause-value
returns-clause-value c =
    let same = part_here [] list_of c.args.self.now.clients.items c.args.client c.index.result.now (omega (arith, c.requires.client, c.args.self.now.sixteen)) c.index.ensures in
    c.index-2.ensures ∙ ap (λ (l : List Undo). get_or l c.args.place c.index-2.result.now) (sym same)

pub returns-clause-small : goal.returns-clause-small
returns-clause-small c =
    let same = part_here [] list_of c.args.self.now.clients.items c.args.client c.index.result.now (omega (arith, c.requires.client, c.args.self.now.sixteen)) c.index.ensures in
    small_in c.args.self.now.clients.items c.args.client c.index-2.result.now.slot (wrote_at (list_in c.args.self.now.clients.items c.args.client) c.args.place c.index-2.result.now c.requires.place (c.index-2.ensures ∙ ap (λ (l : List Undo). get_or l c.args.place c.index-2.result.now) (sym same)))
