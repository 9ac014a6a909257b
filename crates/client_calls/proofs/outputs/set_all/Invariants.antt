use Rattle.std.proofs.Common.{◌≡◌}
use Rattle.std.specs.Prelude.{map}
use Rattle.client_calls.specs.Calls.{output_of, all_set}
use Rattle.client_calls.proofs.outputs.set_all.Given as goal

abbrev pub invariant-loop-output : goal.invariant-loop-output
invariant-loop-output l = all_set (map output_of l.yielded) l.fn.memory ≡ l.memory
