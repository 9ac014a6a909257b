-- A buffer of the running procedure, in the memory and in the state.
use Rattle.std.proofs.Common.{◌≡◌, Bor, MatchOption, ℕ, Bool, List, Option, Some, None, length, sym, ap, ◌∙◌}
use Rattle.block_meaning.specs.Program.{Program}
use Rattle.block_meaning.specs.State.{State, Buffer, Content, Spot}
use Rattle.block_meaning.specs.Frames as meant
use Rattle.block_meaning.specs.Frames.{no_buffer}
use Rattle.block_meaning.specs.Buffers.{own}
use Rattle.block_meaning.specs.Values.{env_of}
use Rattle.client_memory.specs.declared.buffer.Place.{Place}
use Rattle.client_memory.specs.declared.buffer.Buffer.{Buffer as BufferRs}
use Rattle.client_memory.specs.Buffers.{denoted_buffer, denoted_place, with_content, with_locked, with_spot}
use Rattle.client_memory.specs.Memory.{Remembered, buffer_at, holding, marked_locked}
use Rattle.client_memory.specs.Memory as memory
use Rattle.client_memory.specs.Frames.{state_with, AreEven}
use Rattle.client_memory.proofs.FramesOut.{own_buffer_is, own_changed_is}
use Rattle.client_memory.proofs.Views.{even_changed}
use Rattle.client_values.specs.Scope.{env_in}
use Rattle.client_values.specs.Reads.{Reads}
use Rattle.client_values.proofs.Scopes.{sees_the_state}

at_place : (at : Place) (b : ℕ) (m : Remembered) → at ≡ record { out = 0; number = b } → buffer_at (denoted_place at) m ≡ buffer_at (own b) m
at_place at b m is = ap (λ (x : Place). buffer_at (denoted_place x) m) is

-- the buffer that is there
pub own_is : (rest : State) (ns : List ℕ) (m : Remembered) (at : Place) (b : ℕ) (x : BufferRs) → AreEven ns m → at ≡ record { out = 0; number = b } → denoted_buffer x ≡ buffer_at (denoted_place at) m → denoted_buffer x ≡ meant.buffer_at b (state_with rest ns m)
own_is rest ns m at b x even is h = h ∙ at_place at b m is ∙ sym (own_buffer_is rest ns m b even)

-- there is none
pub own_none : (rest : State) (ns : List ℕ) (m : Remembered) (at : Place) (b : ℕ) → AreEven ns m → at ≡ record { out = 0; number = b } → buffer_at (denoted_place at) m ≡ no_buffer → no_buffer ≡ meant.buffer_at b (state_with rest ns m)
own_none rest ns m at b even is h = sym h ∙ at_place at b m is ∙ sym (own_buffer_is rest ns m b even)

-- its content
pub own_content : (rest : State) (ns : List ℕ) (m : Remembered) (at : Place) (b : ℕ) (c : Content) → AreEven ns m → at ≡ record { out = 0; number = b } → c ≡ (buffer_at (denoted_place at) m).content → c ≡ meant.content_of b (state_with rest ns m)
own_content rest ns m at b c even is h = h ∙ ap (λ (x : Buffer). x.content) (at_place at b m is ∙ sym (own_buffer_is rest ns m b even))

-- it holds another content
pub own_held : (rest : State) (ns : List ℕ) (m n : Remembered) (at : Place) (b : ℕ) (c : Content) → AreEven ns m → at ≡ record { out = 0; number = b } → n ≡ holding (denoted_place at) c m → state_with rest ns n ≡ meant.holding b c (state_with rest ns m)
own_held rest ns m n at b c even is new =
    ap (state_with rest ns) (new ∙ ap (λ (x : Place). holding (denoted_place x) c m) is) ∙ own_changed_is rest ns m b (with_content c) even

-- its LOCKED is set
pub own_locked : (rest : State) (ns : List ℕ) (m n : Remembered) (at : Place) (b : ℕ) (is_locked : Bool) → AreEven ns m → at ≡ record { out = 0; number = b } → n ≡ marked_locked (denoted_place at) is_locked m → state_with rest ns n ≡ meant.marked_locked b is_locked (state_with rest ns m)
own_locked rest ns m n at b is_locked even is new =
    ap (state_with rest ns) (new ∙ ap (λ (x : Place). marked_locked (denoted_place x) is_locked m) is) ∙ own_changed_is rest ns m b (with_locked is_locked) even

-- its place in an index is set
pub own_spot : (rest : State) (ns : List ℕ) (m n : Remembered) (at : Place) (b : ℕ) (spot : Option Spot) → AreEven ns m → at ≡ record { out = 0; number = b } → n ≡ memory.with_spot (denoted_place at) spot m → state_with rest ns n ≡ meant.with_spot b spot (state_with rest ns m)
own_spot rest ns m n at b spot even is new =
    ap (state_with rest ns) (new ∙ ap (λ (x : Place). memory.with_spot (denoted_place x) spot m) is) ∙ own_changed_is rest ns m b (with_spot spot) even

-- what an expression reads
pub own_env : (p : Program) (rest : State) (ns : List ℕ) (m : Remembered) (retry error : Bool) (returned : List ℕ) → Reads p rest ns m error returned → env_of retry (state_with rest ns m) ≡ env_in m retry error returned
own_env p rest ns m retry error returned reads =
    sym (sees_the_state rest ns m retry reads.even)
    ∙ ap (λ (e : Bool). env_in m retry e rest.returned) reads.status_is
    ∙ ap (λ (t : List ℕ). env_in m retry error t) reads.returned_is

-- it fits the rest as before, whatever a buffer holds
pub still_reads : (p : Program) (rest : State) (ns : List ℕ) (m n : Remembered) (error : Bool) (returned : List ℕ) (at : Place) (c : Content) → Reads p rest ns m error returned → n ≡ holding (denoted_place at) c m → Reads p rest ns n error returned
still_reads p rest ns m n error returned at c reads is = record {
  forms = reads.forms;
  even = (reads.even.0 ∙ ap (λ (x : Remembered). length x.undoable) (sym is), reads.even.1 ∙ ap (λ (x : Remembered). length x.no_undo) (sym is), sym (even_changed (denoted_place at) (with_content c) m.buffers n.buffers (length ns) (ap (λ (x : Remembered). x.buffers) is) (sym reads.even.2)));
  status_is = reads.status_is;
  returned_is = reads.returned_is;
}

-- what a call finds at its place
pub own_found : (r : Option (Bor BufferRs)) (ns : List ℕ) (m : Remembered) (error : Bool) (returned : List ℕ) (at : Place) (b : ℕ) → at ≡ record { out = 0; number = b } → MatchOption r (buffer_at (denoted_place at) m ≡ no_buffer) (λ x. denoted_buffer x.now ≡ buffer_at (denoted_place at) m) →
    MatchOption r ((p : Program) (rest : State) → Reads p rest ns m error returned → meant.buffer_at b (state_with rest ns m) ≡ no_buffer) (λ x. (p : Program) (rest : State) → Reads p rest ns m error returned → meant.buffer_at b (state_with rest ns m) ≡ denoted_buffer x.now)
own_found None ns m error returned at b is h = λ p rest fits. sym (own_none rest ns m at b fits.even is h)
own_found (Some x) ns m error returned at b is h = λ p rest fits. sym (own_is rest ns m at b x.now fits.even is h)
