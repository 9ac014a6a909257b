use Rattle.std.proofs.Common.{◌≡◌, ℕ, List, length}
use Rattle.block_meaning.specs.State.{Buffer}
use Rattle.std.specs.Vec.Iter.{into_iter_items}
use Rattle.client_calls.specs.Calls.{frame_with}
use Rattle.client_calls.proofs.Passed.{params_from}
use Rattle.client_calls.proofs.frame.NewFrame.pass.Given as goal

abbrev pub invariant-loop-argument : goal.invariant-loop-argument
invariant-loop-argument l =
    (goal.iterator-loop-argument).can_next l.argument-iterator
    × (goal.iterator-loop-argument).is_finite l.argument-iterator
    × ((n : ℕ) (bs : List Buffer) → params_from l.arguments l.parameters 0 l.fn.values (frame_with n l.fn.self.undoable l.fn.self.no_undo bs) ≡ params_from l.arguments l.parameters (length l.yielded) (into_iter_items l.values) (frame_with n l.self.undoable l.self.no_undo bs))
