use Rattle.std.proofs.Common.{◌≡◌, ◌+◌, ◌≤◌, ◌^◌, length}
use Rattle.preprocessor.specs.Expansion.{layer}
use Rattle.preprocessor.specs.Machine.{layer_read}
use Rattle.preprocessor.proofs.run.run.Given as goal

abbrev pub invariant-loop-rest : goal.invariant-loop-rest
invariant-loop-rest l =
    (layer l.texts l.here l.at l.mode (record { locals = l.fn.state.locals; globals = l.fn.state.globals; branches = l.fn.state.branches; budget = l.budget }) l.given l.rest ≡ layer_read l.texts l.here l.fn.layer l.fn.state) × (l.at.line + length l.rest ≤ 2 ^ 30) × (l.at.column + length l.rest ≤ 2 ^ 30) × (l.mode.comments + length l.rest ≤ 2 ^ 30) × (length l.rest ≤ length l.fn.layer.rest.now) × (l.budget ≤ l.fn.state.budget)

abbrev pub decreases-loop-rest : goal.decreases-loop-rest
decreases-loop-rest l = length l.rest
