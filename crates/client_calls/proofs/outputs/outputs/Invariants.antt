use Rattle.std.proofs.Common.{◌≡◌, ◌++◌, length}
use Rattle.std.specs.Prelude.{map}
use Rattle.client_calls.specs.Calls.{output_of}
use Rattle.client_calls.proofs.Passed.{outputs_from}
use Rattle.client_calls.proofs.outputs.outputs.Given as goal

abbrev pub invariant-loop-argument : goal.invariant-loop-argument
invariant-loop-argument l = map output_of l.outputs.items ++ outputs_from l.arguments l.parameters (length l.yielded) l.memory ≡ outputs_from l.arguments l.parameters 0 l.memory
