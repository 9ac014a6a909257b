use Rattle.std.proofs.Common.{◌≡◌, ℕ, ◌+◌, List, [], length, Some, vec_len, All}
use Rattle.turn_lock.specs.declared.view.Stage.TheVariants.{Idle}
use Rattle.turn_lock.specs.Passes.{IsPassOf}
use Rattle.turn_lock.specs.View.{view}
use Rattle.turn_lock.specs.Seats.{lock_of}
use Rattle.turn_lock.proofs.PassLists.{Gathers}
use Rattle.turn_lock.proofs.shared.Shared.close.Given as goal

abbrev pub invariant-loop-pass : goal.invariant-loop-pass
invariant-loop-pass g l =
    record {
      table : l.maker.table_id ≡ l.table.shared.table_id;
      maker : (p : ℕ) × (ls : List (ℕ × List g.row.T-Entry.Denot)) × (l.maker.me ≡ (view (Some l.table.shared.key) p ls Idle, [])) × (p + vec_len l.list ≡ length l.fn.passes.passes) × Gathers l.fn.passes.passes l.list.items ls;
      locks : All (IsPassOf (lock_of l.maker)) l.list.items;
    }

abbrev pub decreases-loop-pass : goal.decreases-loop-pass
decreases-loop-pass g l = vec_len l.list
