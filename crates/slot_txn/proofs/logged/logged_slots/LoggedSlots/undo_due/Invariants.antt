use Rattle.std.proofs.Common.{◌≡◌, ◌≤◌, false, length}
use Rattle.storage.specs.Slots.{Rests, Goes}
use Rattle.open_transactions.specs.Clients.{lists}
use Rattle.slot_area.specs.Area.{view}
use Rattle.slot_txn.specs.logged.State.{state_of, faults_of}
use Rattle.slot_txn.specs.logged.Stops.{Stops}
use Rattle.slot_txn.proofs.logged.logged_slots.LoggedSlots.undo_due.Given as goal

abbrev pub invariant-due : goal.invariant-due
invariant-due g l = record {
  usable : l.self.failed ≡ false;
  faults : faults_of l.fn.self.exhausted (g.D.Disk.failures l.fn.self.disk) ≤ faults_of l.self.exhausted (g.D.Disk.failures l.self.disk);
  rest : Rests (state_of (g.D.Disk.observable l.fn.self.disk) (view l.fn.self.slots (g.D.Disk.seen l.fn.self.disk 0)) (g.D.Disk.time l.fn.self.disk) (faults_of l.fn.self.exhausted (g.D.Disk.failures l.fn.self.disk)) l.fn.self.transactions.clients.items l.fn.self.failed l.fn.self.doubtful l.fn.self.since l.fn.self.short)
      (state_of (g.D.Disk.observable l.self.disk) (view l.self.slots (g.D.Disk.seen l.self.disk 0)) (g.D.Disk.time l.self.disk) (faults_of l.self.exhausted (g.D.Disk.failures l.self.disk)) l.self.transactions.clients.items l.self.failed l.self.doubtful l.self.since l.self.short);
  time : Goes (state_of (g.D.Disk.observable l.fn.self.disk) (view l.fn.self.slots (g.D.Disk.seen l.fn.self.disk 0)) (g.D.Disk.time l.fn.self.disk) (faults_of l.fn.self.exhausted (g.D.Disk.failures l.fn.self.disk)) l.fn.self.transactions.clients.items l.fn.self.failed l.fn.self.doubtful l.fn.self.since l.fn.self.short)
      (state_of (g.D.Disk.observable l.self.disk) (view l.self.slots (g.D.Disk.seen l.self.disk 0)) (g.D.Disk.time l.self.disk) (faults_of l.self.exhausted (g.D.Disk.failures l.self.disk)) l.self.transactions.clients.items l.self.failed l.self.doubtful l.self.since l.self.short)
      (Stops (g.D.Disk.observable l.fn.self.disk) l.fn.self.since (g.D.Disk.time l.fn.self.disk) (g.D.Disk.left l.fn.self.disk)) (Stops (g.D.Disk.observable l.self.disk) l.self.since (g.D.Disk.time l.self.disk) (g.D.Disk.left l.self.disk));
}

abbrev pub decreases-due : goal.decreases-due
decreases-due g l = length (lists l.self.transactions.clients.items)
