-- A call on the buffers of a machine has changed its memory.
use Rattle.std.proofs.Common.{◌≡◌, Bool, ℕ, List, sym, ◌∙◌, subst}
use Rattle.std.specs.Prelude.{Err, IfOk, Ok, Result}
use Rattle.block_meaning.specs.Program.{Program}
use Rattle.block_meaning.specs.State.{State}
use Rattle.client_memory.specs.Memory.{Remembered}
use Rattle.client_memory.specs.Frames.{AreEven, state_with}
use Rattle.client_values.specs.Reads.{Reads}
use Rattle.client_machine.specs.declared.machine.Machine.{Machine}
use Rattle.client_finds.specs.Stays.{ReadsIn, StaysIn}

-- the buffers read what the machine has
abbrev pub BuffersRead : Machine → List ℕ → List ℕ → Program → State → Type 0
BuffersRead old ns returned p rest = Reads p rest ns old.memory old.status returned

buffers_read : (old : Machine) (ns returned : List ℕ) (p : Program) (rest : State) → ns ≡ old.procedures.items → returned ≡ old.returned → ReadsIn p rest old → BuffersRead old ns returned p rest
buffers_read old ns returned p rest same_ns same_text reads =
    record { forms = reads.forms; even = subst (λ (x : List ℕ). AreEven x old.memory) (sym same_ns) reads.even; status_is = reads.status_is; returned_is = reads.returned_is ∙ sym same_text }

-- the procedures are the same, and the copies of the levels
pub still_stays : (old : Machine) (ns returned ns' returned' : List ℕ) (error' : Bool) (mem : Remembered) → ns ≡ old.procedures.items → returned ≡ old.returned → ns' ≡ ns → mem.copies ≡ old.memory.copies →
    ((p : Program) (rest : State) → BuffersRead old ns returned p rest → Reads p rest ns' mem error' returned') → StaysIn old mem
still_stays old ns returned ns' returned' error' mem same_ns same_text same copies fits = λ p rest reads.
    let after : Reads p rest ns' mem error' returned' = fits p rest (buffers_read old ns returned p rest same_ns same_text reads) in
    record { even = subst (λ (x : List ℕ). AreEven x mem) (same ∙ same_ns) after.even; copies = copies }

-- the state goes as the call says
pub still_goes : (old : Machine) (ns returned ns' : List ℕ) (mem : Remembered) (goes : Program → State → State → Type 0) → ns ≡ old.procedures.items → returned ≡ old.returned → ns' ≡ ns →
    ((p : Program) (rest : State) → BuffersRead old ns returned p rest → goes p (state_with rest ns old.memory) (state_with rest ns' mem)) →
    (p : Program) (rest : State) → ReadsIn p rest old → goes p (state_with rest old.procedures.items old.memory) (state_with rest old.procedures.items mem)
still_goes old ns returned ns' mem goes same_ns same_text same call p rest reads =
    subst (λ (x : List ℕ). goes p (state_with rest old.procedures.items old.memory) (state_with rest x mem)) (same ∙ same_ns)
    (subst (λ (x : List ℕ). goes p (state_with rest x old.memory) (state_with rest ns' mem)) same_ns (call p rest (buffers_read old ns returned p rest same_ns same_text reads)))

-- what a call ensures of its value
pub of_value : {A E : Type 0} {P Q : A → Type 0} (r : Result A E) → IfOk r P → ((x : A) → P x → Q x) → IfOk r Q
of_value (Ok x) h f = f x h
of_value (Err e) h f = h
