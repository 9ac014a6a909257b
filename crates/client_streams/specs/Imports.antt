-- Where IMPORT reads, and what it leaves.
use Rattle.std.specs.Prelude.{ℕ, List, [], Option, Some, None, slice_index_or, slice_set}
use Rattle.bound_tree.specs.declared.statement.Target.{Target}
use Rattle.bound_tree.specs.Tree.{Import}
use Rattle.flat_machine.specs.Flat as flat
use Rattle.client_machine.specs.declared.inputs.Inputs.{Inputs}
use Rattle.client_machine.specs.declared.inputs.Stream.{Stream}
use Rattle.client_streams.specs.Statements.{no_stream}

-- the targets of IMPORT; None is `^`
abbrev pub targets_in : flat.Instr → List (Option Target)
targets_in (flat.Plain (Import n targets quiet) next) = targets
targets_in i = []

-- the input that a stream reads, None for the client's own one
abbrev pub input_in : List Stream → ℕ → Option ℕ
input_in xs n = (slice_index_or xs n no_stream).input

-- the text of an input
abbrev pub text_in : Inputs → Option ℕ → List ℕ
text_in inputs None = inputs.own
text_in inputs (Some n) = slice_index_or inputs.named.items n []

-- the place of the next byte: `own_at` is that in the client's own input
abbrev pub place_in : Option ℕ → Stream → ℕ → ℕ
place_in None x own_at = own_at
place_in (Some n) x own_at = x.at

-- the streams after an input was read up to `next`
abbrev pub streams_read : Option ℕ → ℕ → ℕ → List Stream → List Stream
streams_read None n next xs = xs
streams_read (Some input) n next xs = slice_set xs n (record (slice_index_or xs n no_stream) { at = next })

-- the place in the client's own input then
abbrev pub own_read : Option ℕ → ℕ → ℕ → ℕ
own_read None next own_at = next
own_read (Some input) next own_at = own_at
