use Rattle.std.proofs.Common.{sym, ◌∙◌}
use Rattle.slot_txn.proofs.LoggedLemmas.Composing.{begun_number}
use Rattle.slot_txn.proofs.logged.logged_slots.LoggedSlots.settle_commit.Goals as goal

pub commit_with-requires-clause-number : goal.commit_with-requires-clause-number
commit_with-requires-clause-number g c = sym c.number.ensures ∙ c.in-Some.is

pub unreachable-requires : goal.unreachable-requires
unreachable-requires g c = begun_number c.args.self.now.transactions.clients.items c.args.client c.requires.begun (sym c.number.ensures ∙ c.in-None.is)
