use Rattle.std.proofs.Common.{sym, ◌∙◌}
use Rattle.slot_txn.proofs.LoggedLemmas.Composing.{begun_number}
use Rattle.slot_txn.proofs.logged.logged_slots.LoggedSlots.put_prepared.Goals as goal

pub put_numbered-requires-clause-number : goal.put_numbered-requires-clause-number
put_numbered-requires-clause-number g c = sym c.number.ensures ∙ c.in-Some.is

pub unreachable-requires : goal.unreachable-requires
unreachable-requires g c = begun_number c.args.self.now.transactions.clients.items c.args.client c.requires.begun (sym c.number.ensures ∙ c.in-None.is)
