use Rattle.std.proofs.Common.{◌≡◌, Bool, drop}
use Rattle.std.specs.Prelude.{map}
use Rattle.bound_tree.specs.Bound.{expr_of}
use Rattle.block_meaning.specs.Program.{Program}
use Rattle.block_meaning.specs.State.{State}
use Rattle.block_meaning.specs.Values.{values_now}
use Rattle.client_streams.specs.lines.Reads.{IsReadIn, value_read, all_after}
use Rattle.client_streams.proofs.lines.lines.read_all.Given as goal

-- the values so far, before those of the expressions to come
abbrev pub invariant-loop-expression : goal.invariant-loop-expression
invariant-loop-expression g l =
    (p : Program) (retry : Bool) (s : State) → IsReadIn p retry s (g.S.Surroundings.env l.surroundings) →
    values_now p (map expr_of l.expressions) retry s ≡ all_after (map value_read l.values.items) (values_now p (map expr_of (drop l.expression-index l.expressions)) retry s)
