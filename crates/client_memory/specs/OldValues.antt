-- The old values of the definitions.
use Rattle.std.specs.Prelude.{List, map}
use Rattle.client_memory.specs.Undo.{OldValue}
use Rattle.client_memory.specs.declared.memory.OldValue.{OldValue as OldValueRs}

-- an old value
abbrev pub old_value_of : OldValueRs → OldValue
old_value_of o = record { frame = o.frame; number = o.number; value = o.value }

-- all of them
abbrev pub old_values_of : List OldValueRs → List OldValue
old_values_of os = map old_value_of os
