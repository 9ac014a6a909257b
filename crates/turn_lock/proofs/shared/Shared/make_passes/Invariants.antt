use Rattle.std.proofs.Common.{◌≡◌, ℕ, ◌+◌, ◌≤◌, [], Some, vec_capacity}
use Rattle.turn_lock.specs.declared.view.Stage.TheVariants.{Idle}
use Rattle.turn_lock.specs.Shared.{first_of}
use Rattle.turn_lock.specs.Passes.{passes_from}
use Rattle.turn_lock.specs.View.{view}
use Rattle.turn_lock.proofs.shared.Shared.make_passes.Given as goal

abbrev pub invariant-loop-i : goal.invariant-loop-i
invariant-loop-i g l =
    record {
      table : l.maker.table_id ≡ l.shared.table_id;
      maker : (p : ℕ) × (p + l._i ≡ l.seats) × (l.maker.me ≡ (view (Some l.shared.key) p [] Idle, []));
      list : l.list.items ≡ passes_from l.self (first_of l.self) l._i;
      room : l.seats ≤ vec_capacity l.list;
    }
