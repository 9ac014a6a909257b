-- Records that passed WHERE.
use Rattle.std.proofs.Common.{◌≡◌, ℕ, List, ◌∷◌, Bool, false, ap}
use Rattle.abl_base.specs.declared.value.Value.{Value}
use Rattle.database_protocol.specs.declared.answer.Answer.{Answer}
use Rattle.database_protocol.specs.declared.row_order.Cursor.{Cursor}
use Rattle.bound_tree.specs.declared.block.LockWanted.{LockWanted}
use Rattle.bound_tree.specs.declared.block.LockWanted.TheVariants.{NoLock}
use Rattle.bound_tree.specs.Tree.{Body, Reading}
use Rattle.block_meaning.specs.Program.{Program}
use Rattle.block_meaning.specs.State.{State, Found, and_then, completes}
use Rattle.block_meaning.specs.Reads.{or_again, takes_as}
use Rattle.flat_machine.specs.Config.{Execute, OrDo, StackEntry, Takes, Task, Unwind}
use Rattle.flat_machine.specs.Means.{after_stack, means, task_means}
use Rattle.flat_machine.specs.Steps.{config}
use Rattle.buffer_steps.specs.reads.Steps.{search_with}

-- without a lock the record is found
pub found_at_once : (tree : ℕ → Body) (p : Program) (r : Reading) (forward wait retry : Bool) (prefix : List Value) (c : Cursor) (values : List Value) (again : Task) (ks : List StackEntry) (s : State) (ans : List Answer) → r.lock ≡ NoLock →
    means tree p (config (Execute (Takes (search_with r forward false wait retry prefix) c values)) (OrDo again ∷ ks) s) ans ≡ means tree p (config (Unwind (Found c)) ks s) ans
found_at_once tree p r forward wait retry prefix c values again ks s ans none =
    ap (λ (lock : LockWanted). after_stack tree p ks (or_again (and_then (takes_as p lock r wait retry c.row s ans) (completes (Found c))) (task_means tree p again))) none
