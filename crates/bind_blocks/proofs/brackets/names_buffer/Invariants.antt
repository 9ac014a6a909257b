use Rattle.std.proofs.Common.{◌≡◌, drop}
use Rattle.std.specs.List.{list_any}
use Rattle.abl_values.specs.Schema.{same_name}
use Rattle.bind_blocks.proofs.brackets.names_buffer.Given as goal

abbrev pub invariant-loop-naming : goal.invariant-loop-naming
invariant-loop-naming l = list_any (λ n. same_name n.name l.buffer) (drop l.naming-index l.names) ≡ list_any (λ n. same_name n.name l.buffer) l.names
