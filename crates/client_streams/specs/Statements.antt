-- What a statement at a place has, and the streams of a machine.
use Rattle.std.specs.Prelude.{ℕ, Bool, List, [], ◌∷◌, Option, Some, None, slice_get, slice_index_or, slice_set}
use Rattle.bound_tree.specs.Tree.{Expr, Item, PutItems, Export, Message}
use Rattle.flat_machine.specs.Flat as flat
use Rattle.client_machine.specs.declared.machine.Machine.{Machine}
use Rattle.client_machine.specs.declared.inputs.Stream.{Stream}
use Rattle.client_machine.specs.Machine.{stack_in}

-- the items of PUT
abbrev pub items_in : flat.Instr → List Item
items_in (flat.Plain (PutItems n items) next) = items
items_in i = []

-- the values of EXPORT or MESSAGE
abbrev pub values_in : flat.Instr → List Expr
values_in (flat.Plain (Export n es) next) = es
values_in (flat.Plain (Message es) next) = es
values_in i = []

-- the section that a stream writes to, None for the default one
abbrev pub section_or : Option Stream → Option ℕ
section_or None = None
section_or (Some x) = x.output

abbrev pub section_in : List Stream → ℕ → Option ℕ
section_in xs n = section_or (slice_get xs n)

-- the stack while a statement runs: its fault is handled, and execution continues at `next`
abbrev pub under : Machine → Bool → ℕ → ℕ → Bool → List flat.StackEntry
under m quiet next left retry = flat.Handles quiet ∷ flat.ThenDo (flat.RunsFrom next left retry) ∷ stack_in m

-- ---- streams

-- a stream that was never redirected
abbrev pub no_stream : Stream
no_stream = record { output = None; input = None; at = 0 }

-- a stream writes to another section
abbrev pub with_output : ℕ → Option ℕ → List Stream → List Stream
with_output n output xs = slice_set xs n (record (slice_index_or xs n no_stream) { output = output })

-- a stream reads another input from its start
abbrev pub with_input : ℕ → Option ℕ → List Stream → List Stream
with_input n input xs = slice_set xs n (record (slice_index_or xs n no_stream) { input = input; at = 0 })
