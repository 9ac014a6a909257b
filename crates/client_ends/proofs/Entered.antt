-- A buffer is entered or refreshed as the calls say.
use Rattle.std.proofs.Common.{◌≡◌, ℕ, List, ap, sym, ◌∙◌}
use Rattle.block_meaning.specs.Program.{Program}
use Rattle.block_meaning.specs.State.{State, Buffer}
use Rattle.block_meaning.specs.Buffers.{Place, buffer_in}
use Rattle.flat_machine.specs.Config.{StackEntry}
use Rattle.flat_machine.specs.Steps.{enter_step, update_step}
use Rattle.client_memory.specs.Memory.{Remembered, buffer_at}
use Rattle.client_machine.specs.Config.{state_of, AreEven}
use Rattle.client_ends.specs.declared.insertion.Insertion.{Insertion}
use Rattle.client_ends.specs.declared.refresh.Refresh.{Refresh}
use Rattle.client_ends.specs.Insertions.{EntersAs, insertion_step}
use Rattle.client_ends.specs.Refreshes.{UpdatesAs, refresh_step}
use Rattle.client_ends.proofs.Buffers.{buffer_here}

pub enters_here : (x y : Insertion) (p : Program) (rest : State) (ns : List ℕ) (m : Remembered) (units : ℕ) (at : Place) (ks : List StackEntry) → AreEven ns m → x ≡ y → EntersAs x p (buffer_at at m) →
    insertion_step y at ks (state_of rest ns m units) ≡ enter_step p at (buffer_in at (state_of rest ns m units)).table (buffer_in at (state_of rest ns m units)).content ks (state_of rest ns m units)
enters_here x y p rest ns m units at ks even e enters =
    let s = state_of rest ns m units in
    sym (ap (λ (b : Buffer). enter_step p at b.table b.content ks s) (buffer_here rest ns m units at even) ∙ enters at ks s ∙ ap (λ z. insertion_step z at ks s) e)

pub updates_here : (x y : Refresh) (mark : ℕ) (rest : State) (ns : List ℕ) (m : Remembered) (units : ℕ) (at : Place) (ks : List StackEntry) → AreEven ns m → x ≡ y → UpdatesAs x mark (buffer_at at m) →
    refresh_step y at ks (state_of rest ns m units) ≡ update_step mark at (buffer_in at (state_of rest ns m units)).table (buffer_in at (state_of rest ns m units)).content ks (state_of rest ns m units)
updates_here x y mark rest ns m units at ks even e updates =
    let s = state_of rest ns m units in
    sym (ap (λ (b : Buffer). update_step mark at b.table b.content ks s) (buffer_here rest ns m units at even) ∙ updates at ks s ∙ ap (λ z. refresh_step z at ks s) e)
