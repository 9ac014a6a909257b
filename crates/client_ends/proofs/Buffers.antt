-- Buffers of the memory of a machine, and those of its state.
use Rattle.std.proofs.Common.{◌≡◌, ℕ, List, [], ◌∷◌, Bool, true, false, Option, Some, None, length, refl, ap, ◌∙◌}
use Rattle.std.specs.Prelude.{◌==◌, not, ◌&&◌}
use Rattle.abl_base.specs.declared.row.RowId.{RowId}
use Rattle.database_protocol.specs.declared.operation.Op.TheVariants as op
use Rattle.block_meaning.specs.State.{State, Buffer, Content, Empty, Normal}
use Rattle.block_meaning.specs.Frames as meant
use Rattle.block_meaning.specs.Frames.{content_of, emptied, locked_row}
use Rattle.block_meaning.specs.Buffers.{Place, own, buffer_in, holding_in, is_row_in}
use Rattle.flat_machine.specs.Config.{Config, StackEntry, Unwind, WasDropped}
use Rattle.flat_machine.specs.Steps.{ask, config, config_if, drop_step}
use Rattle.client_memory.specs.Buffers.{changed_in, rows_kept, with_content}
use Rattle.client_memory.specs.Memory.{Remembered, buffer_at, holding}
use Rattle.client_memory.proofs.FramesOut.{buffer_is, changed_is, own_buffer_is, own_changed_is, rows_are}
use Rattle.client_memory.proofs.Views.{even_changed}
use Rattle.client_values.specs.Variables.{HasSameShape}
use Rattle.client_values.proofs.Assigned.{same_shape, shape_after, even_after}
use Rattle.client_machine.specs.Config.{state_of, AreEven}
use Rattle.client_ends.specs.Drops.{row_where, dropped_of, dropped_row}
use Rattle.client_ends.specs.Emptied.{all_emptied}

-- the fields of a state beside its procedures
abbrev rest_at : State → Remembered → ℕ → State
rest_at rest m units = record rest { level = length m.copies; units = units }

-- the buffer at a place
pub buffer_here : (rest : State) (ns : List ℕ) (m : Remembered) (units : ℕ) (at : Place) → AreEven ns m → buffer_in at (state_of rest ns m units) ≡ buffer_at at m
buffer_here rest ns m units at even = buffer_is (rest_at rest m units) ns m at even

-- with another content
pub holding_here : (rest : State) (ns : List ℕ) (m : Remembered) (units : ℕ) (at : Place) (c : Content) → AreEven ns m → state_of rest ns (holding at c m) units ≡ holding_in at c (state_of rest ns m units)
holding_here rest ns m units at c even = changed_is (rest_at rest m units) ns m at (with_content c) even

pub emptied_here : (rest : State) (ns : List ℕ) (m : Remembered) (units b : ℕ) → AreEven ns m → state_of rest ns (holding (own b) Empty m) units ≡ emptied b (state_of rest ns m units)
emptied_here rest ns m units b even = own_changed_is (rest_at rest m units) ns m b (with_content Empty) even

pub shape_held : (at : Place) (c : Content) (m : Remembered) → HasSameShape m (holding at c m)
shape_held at c m = record { copies = refl; undoable = refl; no_undo = refl; buffers = even_changed at (with_content c) m.buffers (changed_in at (with_content c) m.buffers) (length m.buffers) refl refl }

-- ---- several buffers are emptied

pub shape_emptied : (bs : List ℕ) (m : Remembered) → HasSameShape m (all_emptied bs m)
shape_emptied [] m = same_shape m
shape_emptied (b ∷ bs) m = shape_after m (holding (own b) Empty m) (all_emptied bs (holding (own b) Empty m)) (shape_held (own b) Empty m) (shape_emptied bs (holding (own b) Empty m))

pub all_emptied_here : (bs : List ℕ) (rest : State) (ns : List ℕ) (m : Remembered) (units : ℕ) → AreEven ns m → state_of rest ns (all_emptied bs m) units ≡ meant.all_emptied bs (state_of rest ns m units)
all_emptied_here [] rest ns m units even = refl
all_emptied_here (b ∷ bs) rest ns m units even =
    all_emptied_here bs rest ns (holding (own b) Empty m) units (even_after ns m (holding (own b) Empty m) (shape_held (own b) Empty m) even)
    ∙ ap (meant.all_emptied bs) (emptied_here rest ns m units b even)

-- ---- a buffer is emptied, and a lock dropped

abbrev pub drop_as : Option RowId → ℕ → List StackEntry → State → Config
drop_as None b ks s = config (Unwind Normal) ks (emptied b s)
drop_as (Some row) b ks s = ask (op.Drop row) WasDropped ks (emptied b s)

dropped_where : (x : Bool) (row : RowId) (b : ℕ) (ks : List StackEntry) (s : State) → config_if x (ask (op.Drop row) WasDropped ks (emptied b s)) (config (Unwind Normal) ks (emptied b s)) ≡ drop_as (row_where x row) b ks s
dropped_where true row b ks s = refl
dropped_where false row b ks s = refl

dropped_by : (r : Option RowId) (rest : State) (ns : List ℕ) (m : Remembered) (units b : ℕ) (ks : List StackEntry) → AreEven ns m → drop_step r b ks (state_of rest ns m units) ≡ drop_as (dropped_of r b m) b ks (state_of rest ns m units)
dropped_by None rest ns m units b ks even = refl
dropped_by (Some row) rest ns m units b ks even =
    let s = state_of rest ns m units in
    ap (λ (rows : List RowId). config_if ((length m.copies == 0) && not (is_row_in row rows)) (ask (op.Drop row) WasDropped ks (emptied b s)) (config (Unwind Normal) ks (emptied b s))) (rows_are (rest_at rest m units) ns m (b ∷ []) even)
    ∙ dropped_where ((length m.copies == 0) && not (is_row_in row (rows_kept (b ∷ []) m.buffers))) row b ks s

pub drops_here : (rest : State) (ns : List ℕ) (m : Remembered) (units b : ℕ) (ks : List StackEntry) → AreEven ns m → drop_step (locked_row (content_of b (state_of rest ns m units))) b ks (state_of rest ns m units) ≡ drop_as (dropped_row b m) b ks (state_of rest ns m units)
drops_here rest ns m units b ks even =
    ap (λ (x : Buffer). drop_step (locked_row x.content) b ks (state_of rest ns m units)) (own_buffer_is (rest_at rest m units) ns m b even)
    ∙ dropped_by (locked_row (buffer_at (own b) m).content) rest ns m units b ks even
