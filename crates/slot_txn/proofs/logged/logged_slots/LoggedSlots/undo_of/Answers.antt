use Rattle.std.proofs.Common.{◌≡◌, ◌<◌, ℕ, List, [], length, sym, ◌∙◌, ap, arith}
use Rattle.storage.specs.declared.slots.Undo.{Undo}
use Rattle.open_transactions.specs.Clients.{list_in}
use Rattle.slot_txn.proofs.LoggedLemmas.Composing.{numbered_in}
use Rattle.slot_txn.proofs.logged.logged_slots.LoggedSlots.undo_of.Goals as goal

some_due : (l : List Undo) (n : ℕ) → l ≡ [] → n < length l → ⊥
some_due l n none lt = omega (arith, lt, ap (λ (x : List Undo). length x) none)

pub undo_one-requires-clause-number : goal.undo_one-requires-clause-number
undo_one-requires-clause-number g c = sym c.number.ensures ∙ c.in-Some.is

pub unreachable-requires : goal.unreachable-requires
unreachable-requires g c = some_due (list_in c.args.self.now.transactions.clients.items c.args.client) _ (numbered_in c.args.self.now.transactions.clients.items c.args.client (sym c.number.ensures ∙ c.in-None.is)) c.requires.due
