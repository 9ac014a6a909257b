use Rattle.std.proofs.Common.{◌≡◌, [], List, Option, drop}
use Rattle.abl_base.specs.declared.value.Value.{Value}
use Rattle.block_meaning.specs.Changes.{buffers_in}
use Rattle.block_meaning.specs.Streams.{pairs_of}
use Rattle.client_values.proofs.assign.are_variable_targets.Given as goal

-- the values of the rest are some list too
abbrev pub invariant-loop-target : goal.invariant-loop-target
invariant-loop-target l = ((vs : List (Option Value)) → buffers_in (pairs_of (drop l.target-index l.targets) vs) ≡ []) → (vs : List (Option Value)) → buffers_in (pairs_of l.targets vs) ≡ []
