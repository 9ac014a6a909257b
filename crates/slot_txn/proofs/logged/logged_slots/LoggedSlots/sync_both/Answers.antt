use Rattle.std.proofs.Common.{refl}
use Rattle.slot_txn.proofs.LoggedLemmas.Composing.{calm_after}
use Rattle.slot_txn.proofs.logged.logged_slots.LoggedSlots.sync_both.Goals as goal

pub sync-requires-2-clause-usable : goal.sync-requires-2-clause-usable
sync-requires-2-clause-usable g c = (c.in_ok-sync.ensures.calm.stays refl).0

pub returns-clause-calm : goal.returns-clause-calm
returns-clause-calm g c = calm_after _ _ _ _ _ _ _ _ _ _ _ _ _ _ _ _ _ _ c.args.self.now.transactions c.sync.new.self.transactions c.in_ok-sync.ensures.calm (c.sync.ensures.book.0) c.sync-2.ensures.calm
