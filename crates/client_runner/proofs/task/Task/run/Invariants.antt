use Rattle.std.proofs.Common.{◌≡◌}
use Rattle.client_runner.specs.Meant.{Requests}
use Rattle.client_runner.specs.Tasks.{IsOneOfLock, HasSettingAtLock}
use Rattle.client_runner.proofs.Runs.{Along, MayGoOn}
use Rattle.client_runner.proofs.task.Task.run.Given as goal

abbrev pub invariant-loop : goal.invariant-loop
invariant-loop g l = record {
  forever : (goal.iterator-loop g).can_next l.iterator' × (goal.iterator-loop g).is_finite l.iterator';
  lock : l.pass.lock ≡ l.shared;
  client : l.pass.client ≡ l.self.number;
  number : l.self.number ≡ l.fn.self.number;
  one : IsOneOfLock l.shared l.self.number;
  along : Along g.C.Session.begins g.C.Session.along g.C.Session.suits g.C.Session.careful g.C.Session.certain (HasSettingAtLock g.D.Database.has_setting l.shared) l.fn.self.client l.self.client l.pass.list l.wants;
  unended : MayGoOn l.wants l.pass.list;
  shows : g.C.Session.shows l.self.client l.wants;
  requests : Requests g.C.Session.may_request l.wants;
}
