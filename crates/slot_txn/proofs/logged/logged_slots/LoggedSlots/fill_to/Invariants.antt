use Rattle.std.proofs.Common.{◌≡◌, ◌-◌, true}
use Rattle.storage.specs.Slots.{undone}
use Rattle.open_transactions.specs.Clients.{lists}
use Rattle.slot_area.specs.Area.{view}
use Rattle.slot_txn.specs.logged.State.{faults_of}
use Rattle.slot_txn.specs.logged.Calls.{Calm}
use Rattle.slot_txn.proofs.logged.logged_slots.LoggedSlots.fill_to.Given as goal

abbrev pub invariant-slots : goal.invariant-slots
invariant-slots g l = record {
  calm : Calm (g.D.Disk.observable l.fn.self.disk) (g.D.Disk.observable l.self.disk) (g.D.Disk.time l.fn.self.disk) (g.D.Disk.time l.self.disk) (g.D.Disk.left l.fn.self.disk) (g.D.Disk.left l.self.disk)
      (view l.fn.self.slots (g.D.Disk.seen l.fn.self.disk 0)) (view l.self.slots (g.D.Disk.seen l.self.disk 0)) (undone (lists l.fn.self.transactions.clients.items) (view l.fn.self.slots (g.D.Disk.seen l.fn.self.disk 0)))
      (faults_of l.fn.self.exhausted (g.D.Disk.failures l.fn.self.disk)) (faults_of l.self.exhausted (g.D.Disk.failures l.self.disk)) l.self.failed true;
  book : (l.self.transactions ≡ l.fn.self.transactions) × (l.self.doubtful ≡ l.fn.self.doubtful) × (l.self.serial ≡ l.fn.self.serial) × (l.self.since ≡ l.fn.self.since) × (l.self.short ≡ l.fn.self.short);
}

abbrev pub decreases-slots : goal.decreases-slots
decreases-slots g l = l.slot - l.self.generation.filled
